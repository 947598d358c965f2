-- Rules of change: format, the free list, put and delete.
use Rattle.std.specs.Prelude.{Bool, ℕ, suc, ◌+◌, ◌-◌, length, take, drop, leb, ltb}
use mathlib.Core.List.{List, [], reverse_aux, tail}
use Rattle.octets.specs.Choice.{choose}
use Rattle.model.specs.Lists.{gather, head_or, from}
use Rattle.model.specs.Types.{Cell, Store}
use Rattle.model.specs.Sizes.{leaf_most, chain_length, costs}
use Rattle.model.specs.Context.{Spot, top, descend}
use Rattle.model.specs.InLeaf.{with, found, removed, added, shared}
use Rattle.model.specs.Growing.{grow_up, growth}
use Rattle.model.specs.Mending.{settled}

-- Format -------------------------------------------------------------------------------------------------------------------

-- "Page 1 is an empty leaf, s 512, and the root; 2, 3, .. n−1 are free, chained rising"
unfoldable pub formatted : ℕ → ℕ → Store
formatted L n = record { n = n; depth = 0; root = record { page = 1; start = L; cells = [] }; free = from 2 (n - 2) }

-- The leaf that a key belongs in ---------------------------------------------------------------------------------------------

unfoldable pub spot : (s : Store) → List ℕ → Spot s.depth
spot s k = descend s.depth top s.root k

-- the pages of the value that a key has
unfoldable pub old_chain : Store → List ℕ → List ℕ
old_chain s k = gather (λ c. c.chain) (found k (spot s k).leaf.cells)

-- The free list --------------------------------------------------------------------------------------------------------------

-- "Freeing puts it first": a chain "first page first", so that its last page is then first
unfoldable pub freed : List ℕ → List ℕ → List ℕ
freed chain free = reverse_aux chain free

-- the free list once the old chain is freed; "taking removes the first"
unfoldable pub pool : Store → List ℕ → List ℕ
pool s k = freed (old_chain s k) s.free

-- Put ------------------------------------------------------------------------------------------------------------------------

module _ (L : ℕ) where
  -- "(iii) take the new chain's pages, first to last"; where the cell stands in its leaf is not settled yet
  unfoldable pub new_cell : Store → List ℕ → List ℕ → Cell
  new_cell s k v = record { at = 0; key = k; value = v; chain = take (chain_length L (length v)) (pool s k) }

  -- "if its cost would pass 500, split instead"
  unfoldable pub splits : Store → List ℕ → List ℕ → Bool
  splits s k v = ltb (leaf_most L) (costs (with (new_cell s k v) (spot s k).leaf.cells))

  -- "Pages taken = new chain and, only if the leaf splits, 1 for it, 1 for each full inner node .., and 1 if the root split"
  unfoldable pub taken : Store → List ℕ → List ℕ → ℕ
  taken s k v = chain_length L (length v) + choose (splits s k v) (suc (growth (spot s k).around)) 0

  -- "(i) the pages taken must not outnumber the free pages plus the old value's chain"
  unfoldable pub has_room : Store → List ℕ → List ℕ → Bool
  has_room s k v = leb (taken s k v) (length s.free + length (old_chain s k))

  -- "(iv) change the leaf; if its cost would pass 500, split instead"; "replacing is removing, then adding"; (v) is `settled`
  unfoldable pub placed_in : (s : Store) → Spot s.depth → Cell → List ℕ → Store
  placed_in s w x free =
      let cs = with x w.leaf.cells in
      let changed = settled L s.n w.around (added L x (removed x.key w.leaf)) free in
      let split = grow_up s.n w.around (shared L w.leaf.page (head_or 0 free) cs) (tail free) in
      choose (leb (costs cs) (leaf_most L)) changed split

  -- "(ii) free the old chain", (iii), (iv), (v)
  unfoldable pub put_done : Store → List ℕ → List ℕ → Store
  put_done s k v = placed_in s (spot s k) (new_cell s k v) (drop (chain_length L (length v)) (pool s k))

  -- Delete -------------------------------------------------------------------------------------------------------------------

  -- "Free the chain, first page first; remove the cell; then mend a leaf under 125 that isn't the root"
  unfoldable pub delete_done : Store → List ℕ → Store
  delete_done s k = settled L s.n (spot s k).around (removed k (spot s k).leaf) (pool s k)
