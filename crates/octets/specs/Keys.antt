-- The order of keys: unsigned bytes, the first difference decides, a key before those that it begins.
use Rattle.std.specs.Prelude.{List, [], ◌∷◌, Bool, ℕ, ltb}
use Rattle.std.specs.declared.cmp.Ordering.{Ordering}
use Rattle.std.specs.declared.cmp.Ordering.TheVariants.{Less, Equal, Greater}
use Rattle.std.specs.Ordering.{is_lt}
use Rattle.octets.specs.Choice.{choose}

unfoldable pub compare_keys : List ℕ → List ℕ → Ordering
compare_keys [] [] = Equal
compare_keys [] (y ∷ ys) = Less
compare_keys (x ∷ xs) [] = Greater
compare_keys (x ∷ xs) (y ∷ ys) = let further = compare_keys xs ys in choose (ltb x y) Less (choose (ltb y x) Greater further)

-- the choice by a comparison: for Less, Equal, Greater
unfoldable pub three : {A : Type 0} → Ordering → A → A → A → A
three Less x y z = x
three Equal x y z = y
three Greater x y z = z

-- a < b
unfoldable pub before : List ℕ → List ℕ → Bool
before a b = is_lt (compare_keys a b)
