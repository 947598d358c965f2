-- A chain is walked through exactly if its pages stand, hold as many bytes as the cell says, and are marked: page by page.
use mathlib.Core.Path.{◌≡◌, refl, sym, ap, ◌∙◌}
use mathlib.Core.Bool.{◌&&◌, and-eq-true_iff}
use mathlib.Core.List.{List, [], ◌∷◌, map}
use mathlib.Core.Option.{Option, some, some-injective}
use Prim.Native.Nat.{ℕ, zero, suc, ◌+◌, ◌*◌, ◌-◌, ◌≤◌, ◌<◌}
use native.Mathlib.Omega.{arith}
use lib.ListN.{length, get_or, length-append}
use lib.Dec.{eqb}
use borrow.Author.Tests.{eqb-true, eq-eqb}
use Rattle.octets.specs.Numbers.{word16}
use Rattle.model.specs.Lists.{gather}
use Rattle.model.specs.Types.{marked}
use Rattle.model.specs.Sizes.{payload}
use Rattle.model.specs.Layouts.{OverPage, of_over}
use Rattle.model.specs.Decode.{chain_from, held_by}
use Rattle.model.proofs.Tests.{and-true}
use Rattle.laws_image.proofs.Again.{ChainStands, last, full}
use Rattle.checking.specs.Alone.{over_alone}
use Rattle.checking.specs.Walk.{meet, link_walk, chain_walk}
use Rattle.checking.proofs.Steps.{then_some, some_then, when-some, some-when}
use Rattle.checking.proofs.Marking.{marking, marking-none, mark_then, then_mark}
use Rattle.checking.proofs.Alone.{OverAlone, length-held, over_iff}

-- k pages from p on hold v bytes and are marked
pub record Chained (L n : ℕ) (ps : List (List ℕ)) (k v p : ℕ) (work met : List ℕ) : Type 0 where
  pub stands : ChainStands L ps k p
  pub holds : length (held_by ps (chain_from ps k p)) ≡ v
  pub marks : marking n (map (marked 3) (chain_from ps k p)) work ≡ some met

module _ (L : ℕ) (room : 8 ≤ L) (n : ℕ) (ps : List (List ℕ)) where
  abbrev over : ℕ → OverPage
  over p = of_over (get_or ps p [])

  abbrev bytes : ℕ → ℕ → ℕ
  bytes k p = length (held_by ps (chain_from ps k p))

  -- ---- one page

  record Link (held p : ℕ) (work met : List ℕ) : Type 0 where
    page : OverAlone L (get_or ps p [])
    holds : length (over p).held ≡ held
    meets : meet n 3 p work ≡ some met

  link_sound : (held p : ℕ) (work met : List ℕ) → link_walk L n ps held p work ≡ some met → Link held p work met
  unfolding link_walk
  link_sound held p work met e =
      let k = some_then (meet n 3 p work) _ met e in
      let w = some-when (over_alone L (get_or ps p []) && eqb (word16 (get_or ps p []) 4) held) (some k.0) met k.1.1 in
      let t = simp and-eq-true_iff at w.0 in
      let o = (over_iff L room (get_or ps p [])).0 t.0 in
      record { page = o; holds = sym (length-held L (get_or ps p []) o.layout) ∙ eqb-true _ _ t.1; meets = k.1.0 ∙ w.1 }

  link_whole : {held p : ℕ} {work met : List ℕ} → Link held p work met → link_walk L n ps held p work ≡ some met
  unfolding link_walk
  link_whole {held} {p} {work} {met} k =
      let test = and-true _ _ ((over_iff L room (get_or ps p [])).1 k.page) (eq-eqb _ _ (length-held L (get_or ps p []) k.page.layout ∙ k.holds)) in
      then_some (meet n 3 p work) _ k.meets (when-some (over_alone L (get_or ps p []) && eqb (word16 (get_or ps p []) 4) held) (some met) test refl)

  -- ---- page by page

  bytes-more : (k p : ℕ) → bytes (suc k) p ≡ length (over p).held + bytes k (over p).next
  unfolding chain_from held_by gather
  bytes-more k p = length-append (over p).held _

  bytes-none : (p : ℕ) → bytes 0 p ≡ 0
  unfolding chain_from held_by gather
  bytes-none p = refl

  marks-more : (k p : ℕ) → map (marked 3) (chain_from ps (suc k) p) ≡ marked 3 p ∷ map (marked 3) (chain_from ps k (over p).next)
  unfolding chain_from
  marks-more k p = refl

  marks-one : (p : ℕ) → map (marked 3) (chain_from ps 1 p) ≡ marked 3 p ∷ []
  unfolding chain_from
  marks-one p = refl

  -- no page is spare
  pub chain-sound : (k v p : ℕ) (work met : List ℕ) → k * payload L < v → chain_walk L n ps (suc k) v p work ≡ some met → Chained L n ps (suc k) v p work met
  unfolding chain_walk
  chain-sound zero v p work met h e =
      let k = some_then (link_walk L n ps v p work) _ met e in
      let w = some-when (eqb (over p).next 0) (some k.0) met k.1.1 in
      let l = link_sound v p work k.0 k.1.0 in
      record {
        stands = last l.page.layout (eqb-true _ _ w.0) l.page.fits;
        holds = omega (arith, bytes-more 0 p, bytes-none (over p).next, l.holds);
        marks = rw (marks-one p) (mark_then n work 3 p [] l.meets (marking-none n k.0 ∙ w.1));
      }
  chain-sound (suc k) v p work met h e =
      let q = some_then (link_walk L n ps (payload L) p work) _ met e in
      let l = link_sound (payload L) p work q.0 q.1.0 in
      let r = chain-sound k (v - payload L) (over p).next q.0 met (omega arith) q.1.1 in
      record {
        stands = full l.page.layout l.holds r.stands;
        holds = omega (arith, bytes-more (suc k) p, l.holds, r.holds);
        marks = rw (marks-more (suc k) p) (mark_then n work 3 p _ l.meets r.marks);
      }

  pub chain-whole : {k p : ℕ} → ChainStands L ps k p → (v : ℕ) (work met : List ℕ) → length (held_by ps (chain_from ps k p)) ≡ v
      → marking n (map (marked 3) (chain_from ps k p)) work ≡ some met → chain_walk L n ps k v p work ≡ some met
  unfolding chain_walk
  chain-whole (last {p} e z f) v work met h m =
      let k = then_mark n work 3 p [] (rw (marks-one p) at m) in
      let w : k.0 ≡ met = some-injective _ _ (sym (marking-none n k.0) ∙ k.1.1) in
      then_some (link_walk L n ps v p work) _
      (link_whole (record { page = record { layout = e; fits = f }; holds = omega (arith, bytes-more 0 p, bytes-none (over p).next); meets = k.1.0 }))
      (when-some (eqb (over p).next 0) _ (eq-eqb _ _ z) (ap {B = Option (List ℕ)} some w))
  chain-whole (full {k} {p} e l s) v work met h m =
      let q = then_mark n work 3 p _ (rw (marks-more (suc k) p) at m) in
      then_some (link_walk L n ps (payload L) p work) _
      (link_whole (record { page = record { layout = e; fits = omega (arith, l) }; holds = l; meets = q.1.0 }))
      (chain-whole s (v - payload L) q.0 met (omega (arith, bytes-more (suc k) p, l)) q.1.1)
