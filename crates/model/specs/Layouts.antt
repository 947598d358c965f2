-- Page layouts: each kind of page as a value, with its bytes (to..) and its reading (of..). Neither needs another page.
-- The bytes are those of the usable length L. A reading is total: of any bytes it makes some page.
use Rattle.std.specs.Prelude.{List, [], ◌∷◌, ◌++◌, map, ℕ, ◌+◌, ◌*◌, ◌-◌, ◌/◌, min, length, get_or, drop, leb}
use Rattle.octets.specs.Choice.{choose}
use Rattle.octets.specs.Runs.{over, part, zeros}
use Rattle.octets.specs.Numbers.{word16, word32, bytes16, bytes32}
use Rattle.model.specs.Lists.{gather, total, from, pad}
use Rattle.model.specs.Types.{Sep}
use Rattle.model.specs.Sizes.{key_most, inline_most, inner_most}

-- Header -----------------------------------------------------------------------------------------------------------------
--    0..1   n
--    2..3   root
--    4..5   height
--    6..7   first free page
--    8..11  entry count
--   12..13  edition
--   rest    zero

pub record HeadPage : Type 0 where
  pub n : ℕ
  pub root : ℕ
  pub height : ℕ
  pub free : ℕ
  pub count : ℕ
  pub edition : ℕ

unfoldable pub to_head : ℕ → HeadPage → List ℕ
to_head L q =
    pad L (bytes16 q.n ++ (bytes16 q.root ++ (bytes16 q.height ++ (bytes16 q.free ++ (bytes32 q.count ++ bytes16 q.edition)))))

unfoldable pub of_head : List ℕ → HeadPage
of_head page =
    record { n = word16 page 0; root = word16 page 2; height = word16 page 4; free = word16 page 6; count = word32 page 8; edition = word16 page 12 }

-- Free page --------------------------------------------------------------------------------------------------------------
--    0      0
--    1      0
--    2..3   next free page
--   rest    zero

unfoldable pub to_free : ℕ → ℕ → List ℕ
to_free L next = pad L (0 ∷ 0 ∷ bytes16 next)

unfoldable pub of_free : List ℕ → ℕ
of_free page = word16 page 2

-- Leaf -------------------------------------------------------------------------------------------------------------------
--    0      1
--    1      0
--    2..3   slot count c
--    4..5   cell start s
--    6..7   hole bytes: L − s − all cell lengths
--    8..9   next leaf
--   10..11  0 (the edition's link back)
--   12..    slots, two bytes each: the offset of the cell, in key order
--   rest    zero, but for the cells' bytes
-- A cell:
--    0      key length
--    1..2   value length v
--    3..    key, then the value if v is at most 64, else the first overflow page (2)

-- some bytes at an offset
pub record Placed : Type 0 where
  pub at : ℕ
  pub bytes : List ℕ

pub record LeafPage : Type 0 where
  pub start : ℕ
  pub next : ℕ
  pub prev : ℕ
  pub cells : List Placed

unfoldable pub holes : ℕ → LeafPage → ℕ
holes L q = L - q.start - total (λ (c : Placed). length c.bytes) q.cells

unfoldable pub slot_bytes : Placed → List ℕ
slot_bytes c = bytes16 c.at

-- the bytes before the gap
unfoldable pub leaf_top : ℕ → LeafPage → List ℕ
leaf_top L q =
    1 ∷ 0 ∷ bytes16 (length q.cells) ++ (bytes16 q.start ++ (bytes16 (holes L q) ++ (bytes16 q.next ++ (bytes16 q.prev ++
    gather slot_bytes q.cells))))

-- the page with each cell's bytes at the cell's offset
unfoldable pub with_cells : List Placed → List ℕ → List ℕ
with_cells [] page = page
with_cells (c ∷ cs) page = with_cells cs (over page c.at c.bytes)

unfoldable pub to_leaf : ℕ → LeafPage → List ℕ
to_leaf L q = with_cells q.cells (pad L (leaf_top L q))

-- how many bytes the cell at the front of some bytes has
unfoldable pub cell_size : List ℕ → ℕ
cell_size b = 3 + get_or b 0 0 + choose (leb (word16 b 1) inline_most) (word16 b 1) 2

unfoldable pub placed_at : List ℕ → ℕ → Placed
placed_at page o = record { at = o; bytes = part page o (cell_size (drop o page)) }

-- the cell of slot i
unfoldable pub slot_of : List ℕ → ℕ → Placed
slot_of page i = placed_at page (word16 page (12 + 2 * i))

-- (no page has more slots than fit in it)
unfoldable pub of_leaf : ℕ → List ℕ → LeafPage
of_leaf L page =
    record { start = word16 page 4; next = word16 page 8; prev = word16 page 10; cells = map (slot_of page) (from 0 (min (L / 2) (word16 page 2))) }

-- Inner ------------------------------------------------------------------------------------------------------------------
--    0      2
--    1      0
--    2..3   record count
--    4..7   0
--    8..9   first child
--   10..11  0
--   12..    record i from 0, at 12 + 35i: key length (1), child (2), key padded with zeros to 32
--   rest    zero

pub record InnerPage : Type 0 where
  pub first : ℕ
  pub rest : List (Sep ℕ)

unfoldable pub record_bytes : Sep ℕ → List ℕ
record_bytes s = length s.key ∷ bytes16 s.child ++ pad key_most s.key

unfoldable pub to_inner : ℕ → InnerPage → List ℕ
to_inner L q = pad L (2 ∷ 0 ∷ bytes16 (length q.rest) ++ (zeros 4 ++ (bytes16 q.first ++ (0 ∷ 0 ∷ gather record_bytes q.rest))))

unfoldable pub record_of : List ℕ → ℕ → Sep ℕ
record_of page i = let o = 12 + 35 * i in record { key = part page (o + 3) (get_or page o 0); child = word16 page (o + 1) }

-- (no page has more than 14 records)
unfoldable pub of_inner : List ℕ → InnerPage
of_inner page = record { first = word16 page 8; rest = map (record_of page) (from 0 (min inner_most (word16 page 2))) }

-- Overflow ---------------------------------------------------------------------------------------------------------------
--    0      3
--    1      0
--    2..3   next
--    4..5   bytes held
--    6..7   0
--    8..    payload
--   rest    zero

pub record OverPage : Type 0 where
  pub next : ℕ
  pub held : List ℕ

unfoldable pub to_over : ℕ → OverPage → List ℕ
to_over L q = pad L (3 ∷ 0 ∷ bytes16 q.next ++ (bytes16 (length q.held) ++ (0 ∷ 0 ∷ q.held)))

unfoldable pub of_over : List ℕ → OverPage
of_over page = record { next = word16 page 2; held = part page 8 (word16 page 4) }
