-- Rules of change: in a leaf, and the rule by which a leaf's cells are split.
use Rattle.std.specs.Prelude.{List, [], ◌∷◌, ℕ, suc, ◌+◌, ◌*◌, ◌-◌, length, take, drop, leb, ltb}
use Rattle.octets.specs.Choice.{choose}
use Rattle.octets.specs.Keys.{compare_keys, three}
use Rattle.model.specs.Lists.{total}
use Rattle.model.specs.Types.{Cell, Leaf}
use Rattle.model.specs.Sizes.{cell_length, cost, costs}

-- what becomes of a node: one, or two halves with the separator between them
pub data Grown (A : Type 0) : Type 0 where
  one : A → Grown A
  two : A → List ℕ → A → Grown A

-- Cells in key order -------------------------------------------------------------------------------------------------------

unfoldable pub without : List ℕ → List Cell → List Cell
without k [] = []
without k (c ∷ cs) = let further = c ∷ without k cs in three (compare_keys k c.key) (c ∷ cs) cs further

-- with a cell added, or in the place of the one that has its key
unfoldable pub with : Cell → List Cell → List Cell
with x [] = x ∷ []
with x (c ∷ cs) = let further = c ∷ with x cs in three (compare_keys x.key c.key) (x ∷ c ∷ cs) (x ∷ cs) further

-- the cells of a key: one, or none
unfoldable pub found : List ℕ → List Cell → List Cell
found k [] = []
found k (c ∷ cs) = let further = found k cs in three (compare_keys k c.key) [] (c ∷ []) further

-- Removing and adding ------------------------------------------------------------------------------------------------------

-- "s stays"; the zeroed bytes, the slots closed up and the holes are those of the leaf without the cell
unfoldable pub removed : List ℕ → Leaf → Leaf
removed k l = record { page = l.page; start = l.start; cells = without k l.cells }

unfoldable pub moved : ℕ → Cell → Cell
moved o c = record { at = o; key = c.key; value = c.value; chain = c.chain }

-- "packs cells in slot order, the first ending at 512, each next one below it": the first ends at e
unfoldable pub packed : ℕ → List Cell → List Cell
packed e [] = []
packed e (c ∷ cs) = let o = e - cell_length c in moved o c ∷ packed o cs

-- "how many cells the left page keeps": "the fewest cells whose cost doubled is at least T"; `before` is the cost of those passed
unfoldable pub kept : ℕ → ℕ → List Cell → ℕ
kept T before [] = 0
kept T before (c ∷ cs) = let further = suc (kept T (before + cost c) cs) in choose (leb T (2 * before)) 0 further

unfoldable pub half : List Cell → ℕ
half cs = kept (costs cs) 0 cs

module _ (L : ℕ) where
  -- a page of these cells, packed: "holes become 0"
  unfoldable pub packed_leaf : ℕ → List Cell → Leaf
  packed_leaf p cs = record { page = p; start = L - total cell_length cs; cells = packed L cs }

  -- "if s − (12+2c) is less than length + 2, compact first"
  unfoldable pub room_for : ℕ → Leaf → Leaf
  room_for n l = choose (ltb (l.start - (12 + 2 * length l.cells)) (n + 2)) (packed_leaf l.page l.cells) l

  -- "then the cell goes right below s"
  unfoldable pub added : Cell → Leaf → Leaf
  added c l =
      let m = room_for (cell_length c) l in
      let o = m.start - cell_length c in
      record { page = m.page; start = o; cells = with (moved o c) m.cells }

  -- "both are written packed. The separator is the right page's first key"
  -- (a right page is never without a cell; if it were, the left page would have them all)
  unfoldable pub parted : ℕ → ℕ → List Cell → List Cell → Grown Leaf
  parted p q left [] = one (packed_leaf p left)
  parted p q left (c ∷ cs) = two (packed_leaf p left) c.key (packed_leaf q (c ∷ cs))

  -- the cells in a left page p and a right page q by the split rule
  unfoldable pub shared : ℕ → ℕ → List Cell → Grown Leaf
  shared p q cs = parted p q (take (half cs) cs) (drop (half cs) cs)
