-- The long scripts: 200 puts of cells of cost 101, whose keys count in two bytes, for stores of 128 pages.
use mathlib.Core.List.{List, ◌∷◌, map}
use Prim.Native.Nat.{ℕ, ◌*◌, ◌-◌, ◌/◌, ◌%◌}
use Rattle.octets.specs.Runs.{zeros}
use Rattle.model.specs.Lists.{from}
use Rattle.model.proofs.Rows.{Operation, put, delete, value, computing_rows}

-- a key of 32 bytes
unfoldable pub counted : ℕ → List ℕ
counted b = b / 16 ∷ b % 16 ∷ zeros 30

unfoldable pub put_counted : ℕ → Operation
put_counted b = put (counted b) (value 64)

unfoldable pub delete_counted : ℕ → Operation
delete_counted b = delete (counted b)

unfoldable pub rising : List Operation
rising = map put_counted (from 0 200)

unfoldable pub falling : List Operation
falling = map (λ i. put_counted (199 - i)) (from 0 200)

unfoldable pub scattered : List Operation
scattered = map (λ i. put_counted (37 * i % 200)) (from 0 200)

unfoldable pub computing_deep : Unit {0}
unfolding computing_rows counted put_counted delete_counted rising falling scattered
computing_deep = tt
