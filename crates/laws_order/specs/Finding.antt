-- What a search for a key finds: the same in a leaf's cells, in the map and in the image.
use Rattle.std.specs.Prelude.{List, [], ◌∷◌, ◌≡◌, ℕ, ◌*◌}
use Rattle.std.proofs.Math.Option.{Option, none, some}
use Rattle.octets.specs.Keys.{compare_keys, three}
use Rattle.model.specs.Edition.{Edition}
use Rattle.model.specs.Types.{Cell, Leaf, Store}
use Rattle.model.specs.InLeaf.{found}
use Rattle.model.specs.Change.{spot, old_chain}
use Rattle.model.specs.Calls.{Standing}

-- the element of a key among elements that have keys
unfoldable pub pick : {A : Type 0} → (A → List ℕ) → List ℕ → List A → Option A
pick key k [] = none
pick key k (x ∷ xs) = let further = pick key k xs in three (compare_keys k (key x)) none (some x) further

-- the first of the cells found, and there is no other
unfoldable pub first_found : List Cell → Option Cell
first_found [] = none
first_found (c ∷ cs) = some c

-- a cell of a leaf, where it stands in the image
unfoldable pub stands_in : Edition → Leaf → Cell → Standing
stands_in E l c = record { base = l.page * E.width; cell = c }

-- a search finds one cell, of its key, or none
pub data Only (k : List ℕ) : List Cell → Type 0 where
  found_none : Only k []
  found-one : (c : Cell) → c.key ≡ k → Only k (c ∷ [])

-- a key that the map has: its cell, in the leaf where it belongs
pub record Present (s : Store) (k v : List ℕ) : Type 0 where
  pub cell : Cell
  pub there : found k (spot s k).leaf.cells ≡ cell ∷ []
  pub key : cell.key ≡ k
  pub value : cell.value ≡ v
  pub chain : old_chain s k ≡ cell.chain
