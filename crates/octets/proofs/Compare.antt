-- The library's order of lists, at bytes, is the order of keys, and so is that of the first bytes where they differ.
use Rattle.std.proofs.Common.{◌≡◌, ◌≢◌, ◌∙◌, refl, rules, tests}
use mathlib.Core.List.{List, [], ◌∷◌}
use Prim.Native.Nat.{ℕ, ◌<◌}
use lib.ListN.{length, get_or}
use lib.Dec.{ltb}
use Rattle.std.specs.declared.cmp.Ordering.{Ordering}
use Rattle.std.specs.declared.cmp.Ordering.TheVariants.{Less, Greater}
use Rattle.std.specs.Ordering.{nat_cmp, ordering_then}
use Rattle.std.specs.Cmp.Lexicographic.{slice_cmp}
use Rattle.octets.specs.Choice.{choose}
use Rattle.octets.specs.Keys.{compare_keys}

byte_then : (x y : ℕ) (o : Ordering) → ordering_then (nat_cmp x y) o ≡ choose (ltb x y) Less (choose (ltb y x) Greater o)
unfolding choose
byte_then x y o = search (rules, tests)

pub compared_keys : (a b : List ℕ) → slice_cmp nat_cmp a b ≡ compare_keys a b
unfolding compare_keys
compared_keys [] [] = refl
compared_keys [] (y ∷ b) = refl
compared_keys (x ∷ a) [] = refl
compared_keys (x ∷ a) (y ∷ b) = rw (compared_keys a b) (byte_then x y _)

pub first_compared : (a b : List ℕ) → 0 < length a → 0 < length b → get_or a 0 0 ≢ get_or b 0 0
    → nat_cmp (get_or a 0 0) (get_or b 0 0) ≡ compare_keys a b
unfolding compare_keys
first_compared (x ∷ a) (y ∷ b) h k d =
    let e : nat_cmp x y ≡ ordering_then (nat_cmp x y) (compare_keys a b) = search (rules, tests) in
    e ∙ byte_then x y _
first_compared [] b h k d = search rules
first_compared (x ∷ a) [] h k d = search rules
