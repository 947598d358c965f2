-- The walk of a valid store meets each page from 1 to n − 1 once and no other, so with the header every page of the image is met once.
use mathlib.Core.Path.{◌≡◌, refl, ap}
use mathlib.Core.Bool.{true}
use mathlib.Core.List.{◌∷◌}
use Prim.Native.Nat.{ℕ, zero, suc, ◌≤◌, ◌<◌}
use native.Mathlib.Omega.{arith}
use lib.ListN.{length, length-append}
use lib.Dec.{ltb}
use borrow.Author.Tests.{ltb-true, ltb-false}
use Rattle.model.specs.Lists.{times}
use Rattle.model.specs.Edition.{Edition}
use Rattle.model.specs.Types.{Store, walk, met}
use Rattle.model.specs.Accept.{valid}
use Rattle.model.proofs.Tests.{cases}
use Rattle.model.proofs.Each.{All, cons, all_of, all-parts}
use Rattle.model.proofs.Sums.{is_same, is-other, times-cons}
use Rattle.model.proofs.OnceEach.{Once, once_iff, once_zero, once-above}
use Rattle.laws_image.proofs.Standing.{Proper}
use Rattle.laws_image.proofs.Valid.{clauses}
use Rattle.laws_image.proofs.Numbered.{places, met-walk}

module _ (E : Edition) (s : Store) (t : valid E s ≡ true) where
  -- ---- the pages met

  pub met-each : Once s.n (met s)
  met-each = let k = clauses E s t in (once_iff s.n (met s)).0 k.once

  pub met-once : (p : ℕ) → 1 ≤ p → p < s.n → times p (met s) ≡ 1
  met-once p g h = met-each.each p g h

  pub met_zero : times 0 (met s) ≡ 0
  met_zero = once_zero met-each

  pub met-above : (p : ℕ) → s.n ≤ p → times p (met s) ≡ 0
  met-above p h = once-above p h met-each

  -- ---- with the header

  pub page-once : (p : ℕ) → p < s.n → times p (0 ∷ met s) ≡ 1
  page-once zero h = omega (arith, times-cons 0 0 (met s), is_same 0 0 refl, met_zero)
  page-once (suc p) h = omega (arith, times-cons (suc p) 0 (met s), is-other (suc p) 0 (λ e. omega arith), met-once (suc p) (omega arith) h)

  pub page-most : (p : ℕ) → times p (0 ∷ met s) ≤ 1
  page-most p =
      let k = clauses E s t in
      cases (ltb p s.n) (λ b. omega (arith, page-once p (ltb-true _ _ b)))
      (λ b. let h : s.n ≤ p = ltb-false _ _ b in omega (arith, times-cons p 0 (met s), is-other p 0 (λ e. omega arith), met-above p h))

  pub page-below : All (λ p. p < s.n) (0 ∷ met s)
  page-below = let k = clauses E s t in cons {x = 0} (omega arith) (all_of (λ p w. w.1) met-each.within)

  -- ---- the free list

  pub free_proper : Proper s.free
  free_proper = (all-parts (places (walk s.depth s.root)) (rw (met-walk s) at (all_of (λ p w. w.0) met-each.within))).1

  pub free-few : length s.free ≤ s.n
  free-few = omega (arith, met-each.size, ap length (met-walk s), length-append (places (walk s.depth s.root)) s.free)
