-- The free list is walked page by page: what is left of the walk starts at the page that the last one names.
use mathlib.Core.Path.{◌≡◌, sym, ◌∙◌}
use mathlib.Core.Bool.{Bool, true, false}
use mathlib.Core.List.{List, []}
use mathlib.Core.Option.{Option, none, some}
use Prim.Native.Nat.{ℕ, zero, suc, ◌-◌, ◌<◌}
use native.Mathlib.Omega.{arith}
use lib.ListN.{length, get_or}
use borrow.Author.Tests.{eq-eqb, ne_eqb}
use Rattle.octets.specs.Says.{Says}
use Rattle.octets.proofs.Choice.{choose-true, choose-false}
use Rattle.model.specs.Layouts.{of_free}
use Rattle.checking.specs.Alone.{free_alone}
use Rattle.checking.specs.Steps.{and_then, when}
use Rattle.checking.specs.Walk.{meet, free_walk}
use Rattle.page.specs.Free.{FreeBytes}
use Rattle.tree.proofs.Links.{free-tested}

ended : (n : ℕ) (ps : List (List ℕ)) (p : ℕ) (work : List ℕ) → p ≡ 0 → (k : ℕ) → free_walk 512 n ps k p work ≡ some work
unfolding free_walk when
ended n ps p work e zero = rw (eq-eqb p 0 e)
ended n ps p work e (suc k) = choose-true _ _ _ (eq-eqb p 0 e)

goes : (n : ℕ) (ps : List (List ℕ)) (p : ℕ) (work : List ℕ) → (p ≡ 0 → ⊥) → (k : ℕ)
    → free_walk 512 n ps (suc k) p work ≡ and_then (meet n 4 p work) (λ m. when (free_alone 512 (get_or ps p [])) (free_walk 512 n ps k (of_free (get_or ps p [])) m))
unfolding free_walk
goes n ps p work z k = choose-false _ _ _ (ne_eqb p 0 z)

-- of `ps`, from the first page on
module _ (ps : List (List ℕ)) (first : ℕ) (work₀ : List ℕ) where
  abbrev whole : Option (List ℕ)
  whole = free_walk 512 (length ps) ps (length ps) first work₀

  -- what is left of the walk at page p, with so many pages at most
  pub record ToGo (p left : ℕ) (work : List ℕ) : Type 0 where
    pub rest : free_walk 512 (length ps) ps left p work ≡ whole

  module _ (p left : ℕ) (work : List ℕ) (w : ToGo p left work) where
    pub go-done : p ≡ 0 → some work ≡ whole
    go-done e = sym (ended (length ps) ps p work e left) ∙ w.rest

    pub go-astray : left ≡ 0 → (p ≡ 0 → ⊥) → none ≡ whole
    unfolding free_walk when
    go-astray e n = rw (e, ne_eqb p 0 n) at w.rest

    -- over the same pages
    module _ (qs : List (List ℕ)) (same : qs ≡ ps) (h : 0 < left) (z : p ≡ 0 → ⊥) where
      stepped : and_then (meet (length qs) 4 p work) (λ m. when (free_alone 512 (get_or qs p [])) (free_walk 512 (length ps) ps (left - 1) (of_free (get_or qs p [])) m)) ≡ whole
      stepped = let e : suc (left - 1) ≡ left = omega arith in rw same (sym (goes (length ps) ps p work z (left - 1)) ∙ rw e w.rest)

      pub go-old : none ≡ meet (length qs) 4 p work → none ≡ whole
      unfolding and_then
      go-old e = rw (← e) at stepped

      module _ (met page : List ℕ) (r : Bool) (e : some met ≡ meet (length qs) 4 p work) (q : page ≡ get_or qs p []) (l : length page ≡ 512) (s : Says r (FreeBytes page)) where
        tested : when r (free_walk 512 (length ps) ps (left - 1) (of_free page) met) ≡ whole
        unfolding and_then
        tested = rw (← e, ← q, free-tested page r l s) at stepped

        pub go-bad : r ≡ false → none ≡ whole
        unfolding when
        go-bad f = rw f at tested

        pub go-on : (next k : ℕ) → r ≡ true → next ≡ of_free page → k ≡ left - 1 → ToGo next k met
        unfolding when
        go-on next k t f v = record { rest = rw (v, f) (rw t at tested) }
