-- Computed tests as facts, and back.
use mathlib.Core.Path.{◌≡◌, refl, sym, subst}
use mathlib.Core.Logic.{◌↔◌}
use mathlib.Core.Bool.{Bool, true, false, not, ◌&&◌, and-eq-true_iff}
use Prim.Native.Nat.{ℕ, ◌≤◌, ◌<◌}
use lib.Dec.{T, leb, eqb, leb→le, le→leb, nleb→lt, eqb→eq, eqb_refl}
use Rattle.model.specs.Accept.{between}

pub T_true : (b : Bool) → T b → b ≡ true
T_true true t = refl
T_true false t = absurd t

pub leb_iff : (m n : ℕ) → (leb m n ≡ true) ↔ (m ≤ n)
leb_iff m n = (λ e. leb→le m n (subst T (sym e) tt), λ h. T_true _ (le→leb m n h))

pub leb-not : (m n : ℕ) → leb m n ≡ false → n < m
leb-not m n e = nleb→lt m n (subst (λ (b : Bool). T (not b)) (sym e) tt)

pub eqb_iff : (m n : ℕ) → (eqb m n ≡ true) ↔ (m ≡ n)
eqb_iff m n = (λ e. eqb→eq m n (subst T (sym e) tt), λ e. rw e (T_true _ (eqb_refl n)))

pub not-true : (b : Bool) → not b ≡ true → b ≡ false
not-true true e = sym e
not-true false e = refl

pub cases : {P : Type 0} (b : Bool) → (b ≡ true → P) → (b ≡ false → P) → P
cases true p q = p refl
cases false p q = q refl

pub and_swap : (a b c d : Bool) → ((a && b) && (c && d)) ≡ ((a && c) && (b && d))
and_swap true true c d = refl
and_swap true false true d = refl
and_swap true false false d = refl
and_swap false b c d = refl

pub and-true : (a b : Bool) → a ≡ true → b ≡ true → (a && b) ≡ true
and-true a b p q = rw p q

pub between_iff : (least most x : ℕ) → (between least most x ≡ true) ↔ ((least ≤ x) × (x ≤ most))
unfolding between
between_iff least most x = (
  λ e. let k = simp and-eq-true_iff at e in ((leb_iff least x).0 k.0, (leb_iff x most).0 k.1),
  λ h. and-true _ _ ((leb_iff least x).1 h.0) ((leb_iff x most).1 h.1),
)
