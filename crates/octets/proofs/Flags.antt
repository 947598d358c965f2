-- Laws of a flag that says whether something holds.
use mathlib.Core.Path.{◌≡◌, refl, sym, ◌∙◌}
use mathlib.Core.Bool.{Bool, false, false≢true}
use mathlib.Core.List.{List, [], ◌∷◌}
use Prim.Native.Nat.{ℕ, zero, suc}
use native.Mathlib.Omega.{arith}
use borrow.Author.Tests.{eqb-true, eq-eqb}
use lib.Bits.{bit_or, or_add_and, and_le_l, and_le_r}
use lib.ListN.{length}
use Rattle.std.specs.List.{fold}
use lib.Dec.{eqb}
use Rattle.octets.specs.Runs.{zeros}
use Rattle.octets.specs.Says.{Says}

-- A flag ------------------------------------------------------------------------------------------------------------------
-- It says no of what does not hold; what it says of one thing it says of anything that goes with it.

pub says_no : {P : Type 0} → (P → ⊥) → Says false P
says_no n = record { sound = λ e. absurd (false≢true e); whole = λ q. absurd (n q) }

pub says_map : {P Q : Type 0} {r : Bool} → Says r P → (P → Q) → (Q → P) → Says r Q
says_map s f g = record { sound = λ e. f (s.sound e); whole = λ q. s.whole (g q) }

-- by a test of two numbers
pub says-eqb : {P : Type 0} (a b : ℕ) → (a ≡ b → P) → (P → a ≡ b) → Says (eqb a b) P
says-eqb a b f g = record { sound = λ t. f (eqb-true a b t); whole = λ p. eq-eqb a b (g p) }

-- Zeros -------------------------------------------------------------------------------------------------------------------
-- Bytes joined by `or` are zero exactly if each is.

pub or-none : (a b : ℕ) → bit_or a b ≡ 0 → (a ≡ 0) × (b ≡ 0)
or-none a b e = (omega (arith, or_add_and a b, and_le_r a b), omega (arith, or_add_and a b, and_le_l a b))

-- bytes joined to a first one
joined-zero : (s : ℕ) (b : List ℕ) → fold bit_or s b ≡ 0 → (s ≡ 0) × (b ≡ zeros (length b))
unfolding zeros
joined-zero s [] e = (e, refl)
joined-zero s (x ∷ b) e =
    let t = joined-zero (bit_or s x) b e in
    let o = or-none s x t.0 in
    (o.0, rw (o.1, ← t.1))

zero-joined : (n : ℕ) → fold bit_or 0 (zeros n) ≡ 0
unfolding zeros
zero-joined zero = refl
zero-joined (suc n) = zero-joined n

pub says-zeros : (b : List ℕ) (r : ℕ) → r ≡ fold bit_or 0 b → Says (eqb r 0) (b ≡ zeros (length b))
says-zeros b r e = says-eqb r 0 (λ z. (joined-zero 0 b (sym e ∙ z)).1) (λ z. e ∙ rw z (zero-joined (length b)))
