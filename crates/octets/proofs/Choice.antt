-- What holds of each branch of a choice holds of the choice.
use mathlib.Core.Path.{◌≡◌, refl}
use mathlib.Core.Bool.{Bool, true, false}
use Rattle.octets.specs.Choice.{choose}
use Rattle.octets.specs.Keys.{three}
use Rattle.std.specs.declared.cmp.Ordering.{Ordering}
use Rattle.std.specs.declared.cmp.Ordering.TheVariants.{Less, Equal, Greater}

-- By a test -------------------------------------------------------------------------------------------------------------
-- The choice is its first branch where the test is true, and else its second.

pub choose-true : {A : Type 0} (b : Bool) (x y : A) → b ≡ true → choose b x y ≡ x
unfolding choose
choose-true b x y e = rw e

pub choose-false : {A : Type 0} (b : Bool) (x y : A) → b ≡ false → choose b x y ≡ y
unfolding choose
choose-false b x y e = rw e

pub choose-same : {A : Type 0} (b : Bool) (x : A) → choose b x x ≡ x
unfolding choose
choose-same true x = refl
choose-same false x = refl

pub either : {A : Type 0} (P : A → Type 0) (b : Bool) (x y : A) → P x → P y → P (choose b x y)
unfolding choose
either P true x y p q = p
either P false x y p q = q

pub either_by : {A : Type 0} (P : A → Type 0) (b : Bool) (x y : A) → (b ≡ true → P x) → (b ≡ false → P y) → P (choose b x y)
unfolding choose
either_by P true x y p q = p refl
either_by P false x y p q = q refl

-- By a comparison -------------------------------------------------------------------------------------------------------
-- The same of the choice among three.

pub three-less : {A : Type 0} (o : Ordering) (x y z : A) → o ≡ Less → three o x y z ≡ x
unfolding three
three-less o x y z e = rw e

pub three_equal : {A : Type 0} (o : Ordering) (x y z : A) → o ≡ Equal → three o x y z ≡ y
unfolding three
three_equal o x y z e = rw e

pub three_greater : {A : Type 0} (o : Ordering) (x y z : A) → o ≡ Greater → three o x y z ≡ z
unfolding three
three_greater o x y z e = rw e

pub by_order : {A : Type 0} (P : A → Type 0) (o : Ordering) (x y z : A) → (o ≡ Less → P x) → (o ≡ Equal → P y) → (o ≡ Greater → P z)
    → P (three o x y z)
unfolding three
by_order P Less x y z p q r = p refl
by_order P Equal x y z p q r = q refl
by_order P Greater x y z p q r = r refl
