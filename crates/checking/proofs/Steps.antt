-- A walk comes through a step exactly if the step does and what follows it does; and a page is met exactly if it is one of the image's and new.
use mathlib.Core.Path.{◌≡◌, refl, ap}
use mathlib.Core.Bool.{Bool, true, false, ◌&&◌, and-eq-true_iff}
use mathlib.Core.List.{List}
use mathlib.Core.Option.{Option, none, some, none-ne-some, some-injective}
use Prim.Native.Nat.{ℕ, ◌-◌, ◌≤◌, ◌<◌}
use native.Mathlib.Omega.{arith}
use lib.ListN.{get_or, set}
use lib.Dec.{eqb}
use borrow.Author.Tests.{eqb-true, eq-eqb}
use Rattle.model.specs.Accept.{between}
use Rattle.model.proofs.Tests.{and-true, between_iff}
use Rattle.checking.specs.Steps.{and_then, when}
use Rattle.checking.specs.Walk.{meet}

-- ---- one after another

module _ {A B : Type 0} where
  pub then_some : (o : Option A) (f : A → Option B) {x : A} {y : B} → o ≡ some x → f x ≡ some y → and_then o f ≡ some y
  unfolding and_then
  then_some o f p q = rw p q

  pub some_then : (o : Option A) (f : A → Option B) (y : B) → and_then o f ≡ some y → (x : A) × ((o ≡ some x) × (f x ≡ some y))
  unfolding and_then
  some_then none f y e = absurd (none-ne-some y e)
  some_then (some x) f y e = (x, (refl, e))

module _ {A : Type 0} where
  pub when-some : (b : Bool) (o : Option A) {y : A} → b ≡ true → o ≡ some y → when b o ≡ some y
  unfolding when
  when-some b o t e = rw t e

  pub some-when : (b : Bool) (o : Option A) (y : A) → when b o ≡ some y → (b ≡ true) × (o ≡ some y)
  unfolding when
  some-when true o y e = (refl, e)
  some-when false o y e = absurd (none-ne-some y e)

-- ---- a page met

pub record Meets (n role p : ℕ) (work met : List ℕ) : Type 0 where
  pub some-page : 1 ≤ p
  pub of_image : p < n
  pub new : get_or work p 0 ≡ 0
  pub now : set work p role ≡ met

pub meet-meets : (n role p : ℕ) (work met : List ℕ) → meet n role p work ≡ some met → Meets n role p work met
unfolding meet
meet-meets n role p work met e =
    let k = some-when (between 1 (n - 1) p && eqb (get_or work p 0) 0) (some (set work p role)) met e in
    let t = simp and-eq-true_iff at k.0 in
    let b = (between_iff 1 (n - 1) p).0 t.0 in
    record { some-page = b.0; of_image = omega arith; new = eqb-true _ _ t.1; now = some-injective _ _ k.1 }

pub meets-meet : {n role p : ℕ} {work met : List ℕ} → Meets n role p work met → meet n role p work ≡ some met
unfolding meet
meets-meet {n} {role} {p} {work} k =
    when-some (between 1 (n - 1) p && eqb (get_or work p 0) 0) (some (set work p role))
    (and-true _ _ ((between_iff 1 (n - 1) p).1 (k.some-page, omega arith)) (eq-eqb _ _ k.new)) (ap {B = Option (List ℕ)} some k.now)
