-- A chain is walked page by page: what is left of the walk starts at the page that the last one names.
use mathlib.Core.Path.{◌≡◌, sym, ap}
use mathlib.Core.List.{List, []}
use mathlib.Core.Option.{Option, none, some}
use Prim.Native.Nat.{ℕ, suc, ◌+◌, ◌-◌, ◌/◌, ◌≤◌, ◌<◌}
use native.Mathlib.Omega.{arith}
use lib.ListN.{length, get_or}
use lib.Dec.{eqb}
use borrow.Author.Tests.{lt-leb, eq-eqb, ne_eqb}
use Rattle.octets.proofs.Choice.{choose-false}
use Rattle.model.specs.Sizes.{inline_most, payload, chain_length}
use Rattle.model.specs.Layouts.{of_over}
use Rattle.checking.specs.Steps.{and_then, when}
use Rattle.checking.specs.Walk.{link_walk, chain_walk}

-- the pages that so many bytes need
pages_needed : (v : ℕ) → 64 < v → chain_length 512 v ≡ (v + 503) / 504
unfolding chain_length inline_most payload
pages_needed v h = choose-false _ _ _ (lt-leb v 64 h)

-- of `ps`, from the first page on, v bytes
module _ (ps : List (List ℕ)) (first v : ℕ) (work₀ : List ℕ) where
  abbrev whole : Option (List ℕ)
  whole = chain_walk 512 (length ps) ps (chain_length 512 v) v first work₀

  -- what is left of the walk at page p, with so many bytes
  pub record Left (p left : ℕ) (work : List ℕ) : Type 0 where
    pub some_left : 1 ≤ left
    pub rest : chain_walk 512 (length ps) ps ((left + 503) / 504) left p work ≡ whole

  pub left-start : 64 < v → Left first v work₀
  left-start h = record { some_left = omega arith; rest = ap (λ (k : ℕ). chain_walk 512 (length ps) ps k v first work₀) (sym (pages_needed v h)) }

  -- over the same pages
  module _ (qs : List (List ℕ)) (same : qs ≡ ps) (p left : ℕ) (work : List ℕ) (w : Left p left work) where
    abbrev link : ℕ → Option (List ℕ)
    link held = link_walk 512 (length qs) qs held p work

    abbrev next_of : ℕ
    next_of = (of_over (get_or qs p [])).next

    module _ (h : 504 < left) where
      more : and_then (link 504) (λ met. chain_walk 512 (length ps) ps (suc ((left + 503) / 504 - 2)) (left - 504) next_of met) ≡ whole
      unfolding chain_walk payload
      more = let e : (left + 503) / 504 ≡ suc (suc ((left + 503) / 504 - 2)) = omega arith in rw same (rw e at w.rest)

      pub left-stop : none ≡ link 504 → none ≡ whole
      unfolding and_then
      left-stop e = rw (← e) at more

      pub left-on : (met : List ℕ) (next : ℕ) → some met ≡ link 504 → next ≡ next_of → Left next (left - 504) met
      unfolding and_then
      left-on met next e q =
          let k : suc ((left + 503) / 504 - 2) ≡ (left - 504 + 503) / 504 = omega arith in
          record { some_left = omega arith; rest = rw (← e, ← q, k) at more }

    module _ (h : left ≤ 504) where
      last : and_then (link left) (λ met. when (eqb next_of 0) (some met)) ≡ whole
      unfolding chain_walk
      last = let e : (left + 503) / 504 ≡ 1 = let s = w.some_left in omega arith in rw same (rw e at w.rest)

      pub left-none : none ≡ link left → none ≡ whole
      unfolding and_then
      left-none e = rw (← e) at last

      module _ (met : List ℕ) (next : ℕ) (e : some met ≡ link left) (q : next ≡ next_of) where
        pub left-end : next ≡ 0 → some met ≡ whole
        unfolding and_then when
        left-end z = rw (← e, ← q, eq-eqb next 0 z) at last

        pub left-astray : (next ≡ 0 → ⊥) → none ≡ whole
        unfolding and_then when
        left-astray n = rw (← e, ← q, ne_eqb next 0 n) at last
