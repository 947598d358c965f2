-- Room: the free list after a put is the pool without the pages taken, with those that mending freed before it; so the pages taken are exactly `taken`.
use mathlib.Core.Path.{◌≡◌, ap, ◌∙◌}
use mathlib.Core.Bool.{true, false}
use mathlib.Core.List.{List, ◌++◌, tail}
use Prim.Native.Nat.{ℕ, suc, ◌+◌, ◌≤◌}
use native.Mathlib.Omega.{arith}
use lib.Dec.{leb}
use lib.ListN.{length, drop, length-drop, length-append}
use lib.Seq.{drop-drop}
use Rattle.octets.specs.Choice.{choose}
use Rattle.octets.proofs.Choice.{either_by, choose-true, choose-false}
use Rattle.model.specs.Lists.{head_or}
use Rattle.model.specs.Types.{Leaf, Store}
use Rattle.model.specs.Sizes.{leaf_most, value_most, chain_length, costs}
use Rattle.model.specs.InLeaf.{with, half, added, removed, shared}
use Rattle.model.specs.Growing.{growth}
use Rattle.model.specs.Change.{spot, old_chain, pool, new_cell, splits, taken, has_room, placed_in, put_done, delete_done}
use borrow.Author.Tests.{lt-leb}
use Rattle.model.proofs.Tests.{leb_iff}
use Rattle.model.proofs.Lists.{drop-tail}
use Rattle.laws_size.proofs.Full.{KeyFit, FullStore}
use Rattle.laws_size.proofs.Taken.{length-pool, splits_iff, splits-not, taken-split, taken-whole, room-pool}
use Rattle.laws_size.proofs.Growth.{asks, grow_up-free}
use Rattle.laws_size.proofs.Kept.{shared-asks}
use Rattle.laws_size.proofs.Once.{split_has}
use Rattle.laws_size.proofs.Mended.{mended, settled-free}

module _ (L : ℕ) (s : Store) (k v : List ℕ) where
  -- the leaf as a put changes it, where it does not split
  unfoldable pub changed : Leaf
  changed = added L (new_cell L s k v) (removed k (spot s k).leaf)

  -- ---- the free list after a put
  -- The chain takes its pages first, the right half the next, and the nodes above those after it; mending puts its pages before what is left.

  put-free-split : splits L s k v ≡ true → 1 ≤ length (drop (half (with (new_cell L s k v) (spot s k).leaf.cells)) (with (new_cell L s k v) (spot s k).leaf.cells))
      → (put_done L s k v).free ≡ drop (taken L s k v) (pool s k)
  unfolding put_done placed_in
  put-free-split e right =
      let w = spot s k in
      let cs = with (new_cell L s k v) w.leaf.cells in
      let n = chain_length L (length v) in
      let m = growth w.around in
      let free = drop n (pool s k) in
      let g = shared L w.leaf.page (head_or 0 free) cs in
      let split = choose-false (leb (costs cs) (leaf_most L)) _ _ (lt-leb (costs cs) (leaf_most L) ((splits_iff L s k v).0 e)) in
      let above = grow_up-free s.n w.around g (tail free) in
      let asked : asks w.around g ≡ m = shared-asks w.around L w.leaf.page (head_or 0 free) cs right in
      ap (λ (r : Store). r.free) split ∙ (above ∙ rw (asked, taken-split L s k v e) (drop-tail m free ∙ drop-drop (suc m) n (pool s k)))

  pub put-free-whole : splits L s k v ≡ false → (put_done L s k v).free ≡ mended L (spot s k).around changed ++ drop (taken L s k v) (pool s k)
  unfolding put_done placed_in changed new_cell
  put-free-whole e =
      let w = spot s k in
      let cs = with (new_cell L s k v) w.leaf.cells in
      let free = drop (chain_length L (length v)) (pool s k) in
      let whole = choose-true (leb (costs cs) (leaf_most L)) _ _ ((leb_iff (costs cs) (leaf_most L)).1 (splits-not L s k v e)) in
      ap (λ (r : Store). r.free) whole ∙ rw (taken-whole L s k v e) (settled-free L s.n w.around changed free)

  -- ---- how many are free after it
  -- Where there is room, all that is taken is there to be taken.

  pub room_whole : has_room L s k v ≡ true → splits L s k v ≡ false
      → length (put_done L s k v).free + taken L s k v ≡ length s.free + length (old_chain s k) + length (mended L (spot s k).around changed)
  room_whole has e =
      let left = drop (taken L s k v) (pool s k) in
      omega (
        arith,
        ap length (put-free-whole e),
        length-append (mended L (spot s k).around changed) left,
        length-drop (taken L s k v) (pool s k),
        room-pool L s k v has,
        length-pool s k,
      )

  pub room_split : 508 ≤ L → KeyFit k → length v ≤ value_most L → FullStore L s → has_room L s k v ≡ true → splits L s k v ≡ true
      → ((put_done L s k v).free ≡ drop (taken L s k v) (pool s k))
      × (length (put_done L s k v).free + taken L s k v ≡ length s.free + length (old_chain s k))
  room_split room key value full has e =
      let r = put-free-split e (split_has L room s k v key value has full ((splits_iff L s k v).0 e)).right in
      (r, omega (arith, ap length r, length-drop (taken L s k v) (pool s k), room-pool L s k v has, length-pool s k))

  pub room-put : 508 ≤ L → KeyFit k → length v ≤ value_most L → FullStore L s → has_room L s k v ≡ true
      → length (put_done L s k v).free + taken L s k v
      ≡ length s.free + length (old_chain s k) + choose (splits L s k v) 0 (length (mended L (spot s k).around changed))
  room-put room key value full has =
      either_by (λ (n : ℕ). length (put_done L s k v).free + taken L s k v ≡ length s.free + length (old_chain s k) + n) (splits L s k v) _ _
      (λ e. omega (arith, (room_split room key value full has e).1)) (λ e. room_whole has e)

-- ---- after a delete
-- Nothing is taken.

pub delete-free : (L : ℕ) (s : Store) (k : List ℕ) → (delete_done L s k).free ≡ mended L (spot s k).around (removed k (spot s k).leaf) ++ pool s k
unfolding delete_done
delete-free L s k = settled-free L s.n (spot s k).around (removed k (spot s k).leaf) (pool s k)

pub room-delete : (L : ℕ) (s : Store) (k : List ℕ)
    → length (delete_done L s k).free ≡ length s.free + length (old_chain s k) + length (mended L (spot s k).around (removed k (spot s k).leaf))
room-delete L s k =
    omega (arith, ap length (delete-free L s k), length-append (mended L (spot s k).around (removed k (spot s k).leaf)) (pool s k), length-pool s k)
