-- The map: entries with strictly rising keys, and what the calls do to it.
use Rattle.std.specs.Prelude.{Bool, true, not, ◌&&◌, List, [], ◌∷◌, ℕ}
use Rattle.std.proofs.Math.Option.{Option, none, some}
use Rattle.octets.specs.Choice.{choose}
use Rattle.octets.specs.Keys.{compare_keys, three, before}
use Rattle.model.specs.Types.{Entry}

-- (`further` is bound by a `let` so that it is computed only where the comparison asks for it)
unfoldable pub lookup : List ℕ → List Entry → Option (List ℕ)
lookup k [] = none
lookup k (x ∷ xs) = let further = lookup k xs in three (compare_keys k x.key) none (some x.value) further

unfoldable pub insert : Entry → List Entry → List Entry
insert e [] = e ∷ []
insert e (x ∷ xs) = let further = x ∷ insert e xs in three (compare_keys e.key x.key) (e ∷ x ∷ xs) (e ∷ xs) further

unfoldable pub erase : List ℕ → List Entry → List Entry
erase k [] = []
erase k (x ∷ xs) = let further = x ∷ erase k xs in three (compare_keys k x.key) (x ∷ xs) xs further

-- "an empty upper bound means no end"
unfoldable pub below_bound : List ℕ → List ℕ → Bool
below_bound k [] = true
below_bound k (b ∷ bs) = before k (b ∷ bs)

-- "a lower bound (included) and an upper bound (excluded); an empty lower bound is below all keys"
unfoldable pub in_range : List ℕ → List ℕ → List ℕ → Bool
in_range low high k = not (before k low) && below_bound k high

unfoldable pub range : List ℕ → List ℕ → List Entry → List Entry
range low high [] = []
range low high (x ∷ xs) = let further = range low high xs in choose (in_range low high x.key) (x ∷ further) further
