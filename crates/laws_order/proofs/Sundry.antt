-- A function of a choice among three is the choice of its values, and a key between two others settles their order.
use mathlib.Core.Path.{◌≡◌, refl}
use mathlib.Core.Logic.{inl, inr}
use mathlib.Core.List.{List}
use Prim.Native.Nat.{ℕ}
use Rattle.octets.specs.Keys.{three}
use Rattle.std.specs.declared.cmp.Ordering.{Ordering}
use Rattle.std.specs.declared.cmp.Ordering.TheVariants.{Less, Equal, Greater}
use Rattle.octets.proofs.Order.{◌≺◌, ≺_trans, not_≺}

pub three-at : {A B : Type 0} (f : A → B) (o : Ordering) (x y z : A) → f (three o x y z) ≡ three o (f x) (f y) (f z)
unfolding three
three-at f Less x y z = refl
three-at f Equal x y z = refl
three-at f Greater x y z = refl

-- from not above to below, by a key between
pub ≺_between : {a b c : List ℕ} → (b ≺ a → ⊥) → b ≺ c → a ≺ c
≺_between {a} {b} {c} n h = elim (not_≺ b a n) [ inl p ↦ ≺_trans p h | inr q ↦ rw (← q) h ]
