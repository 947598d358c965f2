-- Sizes and costs. What depends on a page's length is over its usable length L.
use Rattle.std.specs.Prelude.{List, ℕ, ◌+◌, ◌*◌, ◌-◌, ◌/◌, length, leb}
use Rattle.octets.specs.Choice.{choose}
use Rattle.model.specs.Lists.{total}
use Rattle.model.specs.Types.{Cell}

-- "keys of 1 to 32 bytes"
unfoldable pub key_most : ℕ
key_most = 32

-- "the value if v is at most 64"
unfoldable pub inline_most : ℕ
inline_most = 64

-- "a leaf that isn't the root costs at least 125"
unfoldable pub leaf_least : ℕ
leaf_least = 125

-- "an inner node has 7 to 14 records"
unfoldable pub inner_least : ℕ
inner_least = 7

unfoldable pub inner_most : ℕ
inner_most = 14

-- "a leaf holds a cost of at most 500"
unfoldable pub leaf_most : ℕ → ℕ
leaf_most L = L - 12

-- "payload from 8, 504 bytes at most"
unfoldable pub payload : ℕ → ℕ
payload L = L - 8

-- a value has at most 8 overflow pages
unfoldable pub chain_most : ℕ
chain_most = 8

-- "values of at most 4,032"
unfoldable pub value_most : ℕ → ℕ
value_most L = chain_most * payload L

-- "a value of v > 64 has exactly v/504 pages, rounded up"
unfoldable pub chain_length : ℕ → ℕ → ℕ
chain_length L v = choose (leb v inline_most) 0 ((v + (payload L - 1)) / payload L)

-- "key length (1), value length v (2), key, then the value if v is at most 64, else the first overflow page (2)"
unfoldable pub cell_length : Cell → ℕ
cell_length c = 3 + length c.key + choose (leb (length c.value) inline_most) (length c.value) 2

-- "a cell's cost is its length + 2"
unfoldable pub cost : Cell → ℕ
cost c = cell_length c + 2

unfoldable pub costs : List Cell → ℕ
costs cs = total cost cs
