-- A walk goes on or is refused: none is refused.
use Rattle.std.specs.Prelude.{Bool, true, false}
use Rattle.std.proofs.Math.Option.{Option, none, some}

unfoldable pub and_then : {A B : Type 0} → Option A → (A → Option B) → Option B
and_then none f = none
and_then (some x) f = f x

-- on, if the test is passed
unfoldable pub when : {A : Type 0} → Bool → Option A → Option A
when true x = x
when false x = none
