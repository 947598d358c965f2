-- What a put takes, and whether it is there: each definition is a test or a choice, and says what it tests.
use mathlib.Core.Path.{◌≡◌, ap}
use mathlib.Core.Logic.{◌↔◌}
use mathlib.Core.Bool.{true, false}
use mathlib.Core.List.{List}
use Prim.Native.Nat.{ℕ, suc, ◌+◌, ◌≤◌, ◌<◌}
use native.Mathlib.Omega.{arith}
use lib.ListN.{length, length-reverse_aux}
use Rattle.octets.proofs.Choice.{choose-true, choose-false}
use Rattle.model.specs.Types.{Store}
use Rattle.model.specs.Sizes.{leaf_most, chain_length, costs}
use Rattle.model.specs.InLeaf.{with}
use Rattle.model.specs.Growing.{growth}
use Rattle.model.specs.Change.{spot, old_chain, freed, pool, new_cell, splits, taken, has_room}
use borrow.Author.Tests.{lt-leb}
use Rattle.model.proofs.Tests.{leb_iff, leb-not}

-- the free pages and the old chain
pub length-pool : (s : Store) (k : List ℕ) → length (pool s k) ≡ length s.free + length (old_chain s k)
unfolding pool freed
length-pool s k = omega (arith, length-reverse_aux (old_chain s k) s.free)

module _ (L : ℕ) (s : Store) (k v : List ℕ) where
  -- ---- the split
  -- The leaf splits exactly if its cells with the new one pass what a leaf holds.

  pub splits_iff : (splits L s k v ≡ true) ↔ (leaf_most L < costs (with (new_cell L s k v) (spot s k).leaf.cells))
  unfolding splits
  splits_iff = leb_iff (suc (leaf_most L)) (costs (with (new_cell L s k v) (spot s k).leaf.cells))

  pub splits-not : splits L s k v ≡ false → costs (with (new_cell L s k v) (spot s k).leaf.cells) ≤ leaf_most L
  unfolding splits
  splits-not e = omega (arith, leb-not (suc (leaf_most L)) (costs (with (new_cell L s k v) (spot s k).leaf.cells)) e)

  -- ---- the pages
  -- Those of the new chain, and where the leaf splits one for it and those for the nodes above.

  pub taken-split : splits L s k v ≡ true → taken L s k v ≡ chain_length L (length v) + suc (growth (spot s k).around)
  unfolding taken
  taken-split e = ap (λ (n : ℕ). chain_length L (length v) + n) (choose-true _ _ _ e)

  pub taken-whole : splits L s k v ≡ false → taken L s k v ≡ chain_length L (length v)
  unfolding taken
  taken-whole e = omega (arith, choose-false (splits L s k v) (suc (growth (spot s k).around)) 0 e)

  pub taken-chain : chain_length L (length v) ≤ taken L s k v
  unfolding taken
  taken-chain = omega arith

  -- ---- room
  -- "the pages taken must not outnumber the free pages plus the old value's chain"

  pub room_iff : (has_room L s k v ≡ true) ↔ (taken L s k v ≤ length s.free + length (old_chain s k))
  unfolding has_room
  room_iff = leb_iff (taken L s k v) (length s.free + length (old_chain s k))

  pub no_room_iff : (has_room L s k v ≡ false) ↔ (length s.free + length (old_chain s k) < taken L s k v)
  unfolding has_room
  no_room_iff =
      (leb-not (taken L s k v) (length s.free + length (old_chain s k)), lt-leb (taken L s k v) (length s.free + length (old_chain s k)))

  pub room-pool : has_room L s k v ≡ true → taken L s k v ≤ length (pool s k)
  room-pool has = omega (arith, length-pool s k, room_iff.0 has)
