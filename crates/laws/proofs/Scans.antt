-- Scan writes the longest prefix of its range that fits: each entry is written if it fits into what those before it leave.
use mathlib.Core.Path.{◌≡◌, refl, sym, ap, ◌∙◌}
use mathlib.Core.Logic.{◌↔◌}
use mathlib.Core.Bool.{true, false}
use mathlib.Core.List.{List, [], ◌∷◌, ◌++◌}
use Prim.Native.Nat.{ℕ, ◌+◌, ◌-◌, ◌≤◌, ◌<◌}
use native.Mathlib.Nat.{le_refl}
use native.Mathlib.Omega.{arith}
use lib.ListN.{length, drop, length-append}
use lib.Dec.{leb, ltb}
use borrow.Author.Tests.{leb-true, leb-false, le-leb, ltb-true, lt-ltb, le-ltb}
use Rattle.octets.specs.Numbers.{bytes16}
use Rattle.octets.proofs.Choice.{either_by, choose-true}
use Rattle.octets.proofs.Over.{over-front}
use Rattle.model.specs.Lists.{gather, total}
use Rattle.model.specs.Edition.{Edition}
use Rattle.model.specs.Types.{Entry}
use Rattle.model.specs.Map.{range}
use Rattle.model.specs.Refusals.{done, good_bounds}
use Rattle.model.specs.Calls.{entry_bytes, entry_size, fitting, scan_done, scan_outcome}
use Rattle.model.proofs.Editions.{Lawful}
use Rattle.laws.specs.Ready.{Ready, map_of, work_after}
use Rattle.laws.specs.Answers.{Longest, Scans}
use Rattle.laws.proofs.Guarded.{guarded_ready}

-- What fits ---------------------------------------------------------------------------------------------------------------

-- the entries that remain
unfoldable pub remaining : ℕ → List Entry → List Entry
remaining room es = drop (length (fitting room es)) es

longest-none : (room : ℕ) → Longest room [] [] []
unfolding total
longest-none room = record { prefix = refl; fits = omega arith; stops = λ e further q. let z : ◌≡◌ {A = ℕ} 0 1 = cc in omega arith }

longest_stop : (room : ℕ) (e : Entry) (es : List Entry) → room < entry_size e → Longest room (e ∷ es) [] (e ∷ es)
unfolding total
longest_stop room e es h =
    record { prefix = refl; fits = omega arith; stops = λ x further q. let z : entry_size e ≡ entry_size x = cc in omega arith }

longest-more : (room : ℕ) (e : Entry) (es written rest : List Entry) → entry_size e ≤ room → Longest (room - entry_size e) es written rest
    → Longest room (e ∷ es) (e ∷ written) rest
unfolding total
longest-more room e es written rest h l =
    record {
      prefix = ap (λ (m : List Entry). e ∷ m) l.prefix;
      fits = omega (arith, l.fits);
      stops = λ x further q. omega (arith, l.stops x further q);
    }

pub fitting-longest : (room : ℕ) (es : List Entry) → Longest room es (fitting room es) (remaining room es)
unfolding fitting remaining
fitting-longest room [] = longest-none room
fitting-longest room (e ∷ es) =
    either_by (λ (w : List Entry). Longest room (e ∷ es) w (drop (length w) (e ∷ es))) (leb (entry_size e) room) _ _
    (λ t. longest-more room e es _ _ (leb-true _ _ t) (fitting-longest (room - entry_size e) es))
    (λ t. longest_stop room e es (leb-false _ _ t))

fitting-whole : (room : ℕ) (es : List Entry) → total entry_size es ≤ room → fitting room es ≡ es
unfolding fitting total
fitting-whole room [] h = refl
fitting-whole room (e ∷ es) h =
    choose-true _ _ _ (le-leb (entry_size e) room (omega arith)) ∙ ap (λ (l : List Entry). e ∷ l) (fitting-whole (room - entry_size e) es (omega arith))

-- The bytes ---------------------------------------------------------------------------------------------------------------

length-entry_bytes : (e : Entry) → length (entry_bytes e) ≡ entry_size e
unfolding entry_bytes entry_size bytes16
length-entry_bytes e = omega (arith, length-append e.key e.value)

pub length-entries : (es : List Entry) → length (gather entry_bytes es) ≡ total entry_size es
unfolding gather total
length-entries [] = refl
length-entries (e ∷ es) = omega (arith, length-append (entry_bytes e) (gather entry_bytes es), length-entry_bytes e, length-entries es)

-- Scan --------------------------------------------------------------------------------------------------------------------

some-remain : (es written rest : List Entry) → es ≡ written ++ rest → (ltb (length written) (length es) ≡ true) ↔ (1 ≤ length rest)
some-remain es written rest e =
    let n : length es ≡ length written + length rest = ap length e ∙ length-append written rest in
    (λ t. omega (arith, ltb-true (length written) (length es) t), λ h. lt-ltb (length written) (length es) (omega arith))

scans : (work out : List ℕ) (es : List Entry) → Scans es out (scan_done work out es)
unfolding scan_done
scans work out es =
    let written = fitting (length out) es in
    let rest = remaining (length out) es in
    let longest = fitting-longest (length out) es in
    let n = length-entries written in
    record {
      written = written;
      rest = rest;
      longest = longest;
      refusal = refl;
      entries = refl;
      bytes = sym n;
      remain = some-remain es written rest longest.prefix;
      output = over-front out (gather entry_bytes written) (omega (arith, longest.fits)) ∙ rw n;
    }

-- room for all: all are written
pub scans-whole : (work out : List ℕ) (es : List Entry) → total entry_size es ≤ length out
    → scan_done work out es ≡ record {
      refusal = done;
      entries = length es;
      bytes = total entry_size es;
      more = false;
      work = work;
      out = gather entry_bytes es ++ drop (total entry_size es) out;
    }
unfolding scan_done
scans-whole work out es h =
    let n = length-entries es in
    rw (fitting-whole (length out) es h, le-ltb (length es) (length es) (le_refl _), over-front out (gather entry_bytes es) (omega arith)) (rw n)

module _ (E : Edition) (lawful : Lawful E) (image work low high out : List ℕ) (ready : Ready E image work (good_bounds (length low) (length high)) true) where
  scan-map : scan_outcome E image work low high out ≡ scan_done (work_after E image work) out (range low high (map_of E image))
  unfolding scan_outcome map_of
  scan-map = guarded_ready E image work _ _ _ _ lawful ready

  -- "It writes entries in key order .., stops before the first that doesn't fit"
  pub scan-answers : Scans (range low high (map_of E image)) out (scan_outcome E image work low high out)
  scan-answers = rw scan-map (scans (work_after E image work) out (range low high (map_of E image)))

  pub scan-whole : total entry_size (range low high (map_of E image)) ≤ length out
      → scan_outcome E image work low high out ≡ record {
        refusal = done;
        entries = length (range low high (map_of E image));
        bytes = total entry_size (range low high (map_of E image));
        more = false;
        work = work_after E image work;
        out = gather entry_bytes (range low high (map_of E image)) ++ drop (total entry_size (range low high (map_of E image))) out;
      }
  scan-whole h = scan-map ∙ scans-whole (work_after E image work) out (range low high (map_of E image)) h
