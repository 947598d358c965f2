-- A function goes into both branches of a choice, and a number in what is left of some bytes is one of them.
use mathlib.Core.Path.{◌≡◌, refl}
use mathlib.Core.Bool.{Bool, true, false}
use mathlib.Core.List.{List}
use Prim.Native.Nat.{ℕ, ◌+◌}
use native.Mathlib.Omega.{arith}
use lib.ListN.{drop}
use lib.Seq.{get_or-drop}
use Rattle.octets.specs.Choice.{choose}
use Rattle.octets.specs.Numbers.{word16}
use Rattle.octets.proofs.Words.{word16_ext}

pub choose_ap : {A B : Type 0} (f : A → B) (b : Bool) (x y : A) → f (choose b x y) ≡ choose b (f x) (f y)
unfolding choose
choose_ap f true x y = refl
choose_ap f false x y = refl

pub word16-drop : (l : List ℕ) (o i : ℕ) → word16 (drop o l) i ≡ word16 l (o + i)
word16-drop l o i = word16_ext _ _ i (o + i) (λ k p. let e : o + i + k ≡ o + (i + k) = omega arith in rw e (get_or-drop o l (i + k) 0))
