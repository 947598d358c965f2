-- The premises can be met: a fresh store of four pages is sized, and it takes an entry and gives it up again.
use mathlib.Core.Path.{refl}
use mathlib.Core.List.{List, [], ◌∷◌}
use Prim.Native.Nat.{ℕ}
use native.Mathlib.Omega.{arith}
use Rattle.model.specs.Computing.{computing}
use Rattle.model.specs.Edition.{edition1}
use Rattle.model.specs.Change.{formatted, put_done, delete_done}
use Rattle.model.proofs.Editions.{lawful1}
use Rattle.laws_size.proofs.Full.{KeyFit}
use Rattle.laws_size.proofs.Sized.{Sized, formatted_sized, put_sized, delete_sized}

abbrev L : ℕ
L = edition1.usable

abbrev key : List ℕ
key = 65 ∷ []

abbrev value : List ℕ
value = 1 ∷ 2 ∷ []

fresh : Sized edition1 (formatted L 4)
fresh = formatted_sized edition1 lawful1 4 (omega arith) (omega arith)

short : KeyFit key
unfolding computing
short = record { some = omega arith; few = omega arith }

filled : Sized edition1 (put_done L (formatted L 4) key value)
unfolding computing
filled = put_sized edition1 lawful1 (formatted L 4) key value short (omega arith) refl refl fresh

emptied : Sized edition1 (delete_done L (put_done L (formatted L 4) key value) key)
emptied = delete_sized edition1 lawful1 (put_done L (formatted L 4) key value) key filled
