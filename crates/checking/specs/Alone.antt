-- The rules of a page by itself, a test for each kind: the page is its own re-encoding, the lengths are within their limits, the cells
-- are inside and apart, the keys rise. Pages are given by their usable bytes.
use Rattle.std.specs.Prelude.{Bool, true, ◌&&◌, ◌||◌, List, [], ◌∷◌, map, ℕ, ◌+◌, ◌*◌, length, get_or, leb, eqb}
use Rattle.octets.specs.Runs.{part}
use Rattle.octets.specs.Numbers.{word16}
use Rattle.model.specs.Lists.{every, total, same}
use Rattle.model.specs.Edition.{Edition}
use Rattle.model.specs.Sizes.{key_most, value_most}
use Rattle.model.specs.Layouts.{LeafPage, Placed, to_head, of_head, to_free, of_free, to_leaf, of_leaf, cell_size, to_inner, of_inner, to_over, of_over}
use Rattle.model.specs.Accept.{between, key_fits, rising}

-- Header: its layout, the image's n, the height and the edition
unfoldable pub head_alone : Edition → ℕ → List ℕ → Bool
head_alone E n page =
    let q = of_head page in
    same page (to_head E.usable q) && eqb q.n n && between 1 E.most_levels q.height && eqb q.edition E.number

unfoldable pub free_alone : ℕ → List ℕ → Bool
free_alone L page = same page (to_free L (of_free page))

-- Overflow: what it says that it holds is inside
unfoldable pub over_alone : ℕ → List ℕ → Bool
over_alone L page = leb (8 + word16 page 4) L && same page (to_over L (of_over page))

-- Inner
unfoldable pub inner_alone : ℕ → List ℕ → Bool
inner_alone L page =
    let q = of_inner page in
    same page (to_inner L q) && every (λ s. key_fits s.key) q.rest && rising (map (λ s. s.key) q.rest)

-- Leaf -----------------------------------------------------------------------------------------------------------------------

-- of a cell's bytes: the key, and the length of the value
unfoldable pub key_of : List ℕ → List ℕ
key_of b = part b 3 (get_or b 0 0)

unfoldable pub value_length : List ℕ → ℕ
value_length b = word16 b 1

-- a cell from s on that ends in the page, as long as it says, with lengths within their limits
unfoldable pub cell_alone : ℕ → ℕ → Placed → Bool
cell_alone L s c =
    let b = c.bytes in
    leb s c.at && leb (c.at + length b) L && leb 3 (length b) && eqb (cell_size b) (length b)
    && between 1 key_most (get_or b 0 0) && leb (value_length b) (value_most L)

unfoldable pub apart_placed : Placed → Placed → Bool
apart_placed a b = leb (a.at + length a.bytes) b.at || leb (b.at + length b.bytes) a.at

unfoldable pub all_apart_placed : List Placed → Bool
all_apart_placed [] = true
all_apart_placed (c ∷ cs) = every (apart_placed c) cs && all_apart_placed cs

unfoldable pub leaf_alone : ℕ → List ℕ → Bool
leaf_alone L page =
    let q = of_leaf L page in
    same page (to_leaf L q) && between (12 + 2 * length q.cells) L q.start && every (cell_alone L q.start) q.cells
    && all_apart_placed q.cells && rising (map (λ (c : Placed). key_of c.bytes) q.cells)

-- what its cells cost
unfoldable pub page_cost : LeafPage → ℕ
page_cost q = total (λ (c : Placed). length c.bytes + 2) q.cells
