-- A small store with an inline value, a chained one and an empty one, and buffers that are filled with a byte no call writes. The rows on
-- single calls are about it.
use mathlib.Core.List.{List, [], ◌∷◌}
use Prim.Native.Nat.{ℕ}
use lib.ListN.{replicate}
use Rattle.model.specs.Edition.{edition1}
use Rattle.model.specs.Types.{Store}
use Rattle.model.specs.Image.{encode}
use Rattle.model.specs.Change.{formatted}
use Rattle.model.proofs.Rows.{put, run, patched, value, computing_rows}

-- 41 → 01 02 at 506, 42 → 70 bytes on page 2, 43 → no bytes at 496; pages 3 and 4 are free
unfoldable pub stocked : Store
stocked = (run (formatted 512 5) [] (put (0x41 ∷ []) (0x01 ∷ 0x02 ∷ []) ∷ put (0x42 ∷ []) (value 70) ∷ put (0x43 ∷ []) [] ∷ [])).store

unfoldable pub image : List ℕ
image = encode edition1 stocked

-- the same with an entry too many in the header
unfoldable pub damaged_image : List ℕ
damaged_image = patched image (record { page = 0; at = 8; bytes = 4 ∷ [] } ∷ [])

unfoldable pub filled : ℕ → List ℕ
filled n = replicate n 0xA5

-- a work area of two entries more than there are pages; and with the roles in it, or the zeros
unfoldable pub work : List ℕ
work = filled 7

unfoldable pub work_with_roles : List ℕ
work_with_roles = 5 ∷ 1 ∷ 3 ∷ 4 ∷ 4 ∷ 0xA5 ∷ 0xA5 ∷ []

unfoldable pub work_with_zeros : List ℕ
work_with_zeros = 0 ∷ 0 ∷ 0 ∷ 0 ∷ 0 ∷ 0xA5 ∷ 0xA5 ∷ []

unfoldable pub computing_stocked : Unit {0}
unfolding computing_rows stocked image damaged_image filled work work_with_roles work_with_zeros
computing_stocked = tt
