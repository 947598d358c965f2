-- The free list is walked through exactly if its pages stand, end within the count and are marked: page by page.
use mathlib.Core.Path.{◌≡◌, refl, sym, ◌∙◌}
use mathlib.Core.List.{List, [], ◌∷◌, map}
use mathlib.Core.Option.{some}
use Prim.Native.Nat.{ℕ, zero, suc}
use native.Mathlib.Omega.{arith}
use lib.ListN.{get_or}
use lib.Dec.{eqb}
use borrow.Author.Tests.{eqb-true, ne_eqb}
use Rattle.octets.specs.Choice.{choose}
use Rattle.model.specs.Lists.{head_or}
use Rattle.model.specs.Types.{marked}
use Rattle.model.specs.Layouts.{of_free}
use Rattle.model.specs.Decode.{free_from}
use Rattle.laws_image.proofs.Again.{FreeStands, ends, goes}
use Rattle.checking.specs.Alone.{free_alone}
use Rattle.checking.specs.Steps.{and_then, when}
use Rattle.checking.specs.Walk.{meet, free_walk}
use Rattle.checking.proofs.Steps.{then_some, some_then, when-some, some-when}
use Rattle.checking.proofs.Marking.{marking, marking-none, mark_then, then_mark}
use Rattle.checking.proofs.Alone.{free_iff}

-- the free pages from p on, at most k, are marked
pub record Freed (L n : ℕ) (ps : List (List ℕ)) (k p : ℕ) (work met : List ℕ) : Type 0 where
  pub stands : FreeStands L ps k p
  pub marks : marking n (map (marked 4) (free_from ps k p)) work ≡ some met

module _ (L n : ℕ) (ps : List (List ℕ)) where
  abbrev next : ℕ → ℕ
  next p = of_free (get_or ps p [])

  -- ---- the list

  from-none : (k : ℕ) → free_from ps k 0 ≡ []
  unfolding free_from choose
  from-none zero = refl
  from-none (suc k) = refl

  from_more : (k p : ℕ) → free_from ps (suc k) (suc p) ≡ suc p ∷ free_from ps k (next (suc p))
  unfolding free_from choose
  from_more k p = rw (ne_eqb (suc p) 0 (λ e. omega arith))

  pub free-first : {k p : ℕ} → FreeStands L ps k p → head_or 0 (free_from ps k p) ≡ p
  unfolding head_or
  free-first (ends {k}) = rw (from-none k)
  free-first (goes {k = k} {p = zero} o e f) = absurd (omega arith)
  free-first (goes {k = k} {p = suc p} o e f) = rw (from_more k p)

  list_none : (k : ℕ) → map (marked 4) (free_from ps k 0) ≡ []
  list_none k = rw (from-none k)

  list_more : (k p : ℕ) → map (marked 4) (free_from ps (suc k) (suc p)) ≡ marked 4 (suc p) ∷ map (marked 4) (free_from ps k (next (suc p)))
  list_more k p = rw (from_more k p)

  -- ---- the walk

  walk_none : (k : ℕ) (work : List ℕ) → free_walk L n ps k 0 work ≡ some work
  unfolding free_walk choose when
  walk_none zero work = refl
  walk_none (suc k) work = refl

  walk-past : (p : ℕ) (work met : List ℕ) → free_walk L n ps 0 (suc p) work ≡ some met → ⊥
  unfolding free_walk
  walk-past p work met e = let z = eqb-true (suc p) 0 (some-when (eqb (suc p) 0) (some work) met e).0 in omega arith

  walk_more : (k p : ℕ) (work : List ℕ) → free_walk L n ps (suc k) (suc p) work
      ≡ and_then (meet n 4 (suc p) work) (λ met. when (free_alone L (get_or ps (suc p) [])) (free_walk L n ps k (next (suc p)) met))
  unfolding free_walk choose
  walk_more k p work = rw (ne_eqb (suc p) 0 (λ e. omega arith))

  freed-none : (k : ℕ) (work met : List ℕ) → free_walk L n ps k 0 work ≡ some met → Freed L n ps k 0 work met
  freed-none k work met e = record { stands = ends; marks = rw (list_none k) (marking-none n work ∙ sym (walk_none k work) ∙ e) }

  pub free-sound : (k p : ℕ) (work met : List ℕ) → free_walk L n ps k p work ≡ some met → Freed L n ps k p work met
  free-sound zero zero work met e = freed-none 0 work met e
  free-sound zero (suc p) work met e = absurd (walk-past p work met e)
  free-sound (suc k) zero work met e = freed-none (suc k) work met e
  free-sound (suc k) (suc p) work met e =
      let q = some_then (meet n 4 (suc p) work) _ met (sym (walk_more k p work) ∙ e) in
      let w = some-when (free_alone L (get_or ps (suc p) [])) (free_walk L n ps k (next (suc p)) q.0) met q.1.1 in
      let r = free-sound k (next (suc p)) q.0 met w.1 in
      record {
        stands = goes {p = suc p} (omega arith) ((free_iff L (get_or ps (suc p) [])).0 w.0) r.stands;
        marks = rw (list_more k p) (mark_then n work 4 (suc p) _ q.1.0 r.marks);
      }

  pub free-whole : {k p : ℕ} → FreeStands L ps k p → (work met : List ℕ) → marking n (map (marked 4) (free_from ps k p)) work ≡ some met
      → free_walk L n ps k p work ≡ some met
  free-whole (ends {k}) work met m = walk_none k work ∙ sym (marking-none n work) ∙ (rw (list_none k) at m)
  free-whole (goes {k = k} {p = zero} o e f) work met m = absurd (omega arith)
  free-whole (goes {k = k} {p = suc p} o e f) work met m =
      let q = then_mark n work 4 (suc p) _ (rw (list_more k p) at m) in
      walk_more k p work
      ∙ then_some (meet n 4 (suc p) work) _ q.1.0
      (when-some (free_alone L (get_or ps (suc p) [])) _ ((free_iff L (get_or ps (suc p) [])).1 e) (free-whole f q.0 met q.1.1))
