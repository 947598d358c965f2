-- Put and delete keep every node full: the way down finds a full tree around the leaf, the leaf stays in bounds or parts, and the way up keeps the rest.
use mathlib.Core.Path.{◌≡◌}
use mathlib.Core.Bool.{true}
use mathlib.Core.List.{List, [], ◌∷◌}
use Prim.Native.Nat.{ℕ, zero, suc, ◌+◌, ◌-◌, ◌≤◌, ◌<◌}
use native.Mathlib.Nat.{zero-add}
use native.Mathlib.Omega.{arith}
use lib.Dec.{leb}
use lib.ListN.{length, length-take}
use Rattle.octets.proofs.Choice.{either, either_by}
use Rattle.model.specs.Types.{Cell, Leaf, Sep, Tree, Store}
use Rattle.model.specs.Sizes.{key_most, inline_most, leaf_least, leaf_most, value_most, chain_length, cell_length, cost, costs}
use Rattle.model.specs.Context.{Left, Context, top, under, Opened, Spot, seek, descend}
use Rattle.model.specs.InLeaf.{Grown, with, moved, packed_leaf, room_for, added, removed}
use Rattle.model.specs.Change.{spot, pool, new_cell, has_room, placed_in, put_done, delete_done}
use Rattle.model.proofs.Tests.{leb_iff, leb-not}
use Rattle.model.proofs.Each.{All, nil, cons}
use Rattle.laws_size.proofs.Full.{KeyFit, CellFit, LeafFull, SepFull, Full, FullUnder, FullStore, LeftFull, least_cost, least_records, Around, GrownFull, still, parts}
use Rattle.laws_size.proofs.Cells.{all-with, all_without, all-packed, fit-moved, cell_most, cost-moved, cost-most, costs-with, costs-without, costs-room}
use Rattle.laws_size.proofs.Places.{added-placed, removed-placed}
use Rattle.laws_size.proofs.Taken.{taken-chain, room-pool}
use Rattle.laws_size.proofs.Trees.{as_root, grow_up-full, shared-full, settled-full}

-- ---- the way down
-- A full tree opened at a child is a full frame and a full child.

module _ {A : Type 0} (P : A → Type 0) where
  record Opens (n : ℕ) (o : Opened A) : Type 0 where
    child : P o.child
    left : All (LeftFull P) o.frame.lefts
    right : All (SepFull P) o.frame.rights
    count : length o.frame.lefts + length o.frame.rights ≡ n

  seek_opens : (k : List ℕ) (p n : ℕ) (ls : List (Left A)) (a : A) {ss : List (Sep A)} → All (LeftFull P) ls → P a → All (SepFull P) ss → length ls + length ss ≡ n
      → Opens n (seek k p ls a ss)
  unfolding seek
  seek_opens k p n ls a l x nil e = record { child = x; left = l; right = nil; count = e }
  seek_opens k p n ls a l x (cons {x = s} {xs = ss} c r) e =
      either (Opens n) _ _ _
      (record { child = x; left = l; right = cons c r; count = e })
      (seek_opens k p n (record { child = a; key = s.key } ∷ ls) s.child (cons (record { key = c.key; child = x }) l) c.child r (omega arith))

module _ (L : ℕ) where
  pub record Reached {d : ℕ} (w : Spot d) : Type 0 where
    pub around : Around L w.around
    pub leaf : LeafFull L 0 w.leaf

  reached : {d : ℕ} (h : ℕ) (c : Context d h) (t : Tree h) (k : List ℕ) → Around L c → Full L h (least_cost c) (least_records c) t → Reached (descend h c t k)
  unfolding descend
  reached zero c t k a f = record { around = a; leaf = record { enough = omega arith; most = f.most; each = f.each; placed = f.placed } }
  reached (suc h) c t k a f =
      let q = seek k t.page [] t.first t.rest in
      let o = seek_opens (FullUnder L h) k t.page (length t.rest) [] t.first nil f.head f.others (zero-add _) in
      reached h (under q.frame c) q.child k
      (record { enough = omega (arith, o.count, f.enough); most = omega (arith, o.count, f.most); left = o.left; right = o.right }, a) o.child

  pub spot-reached : (s : Store) (k : List ℕ) → FullStore L s → Reached (spot s k)
  unfolding spot
  spot-reached s k f = reached s.depth top s.root k tt f

-- ---- in the leaf
-- A cell fewer, or one more where there is room for it.

module _ (L : ℕ) where
  removed-full : (k : List ℕ) (l : Leaf) → LeafFull L 0 l → LeafFull L 0 (removed k l)
  removed-full k l f =
      record {
        enough = omega arith;
        most = unfold removed in omega (arith, costs-without k l.cells, f.most);
        each = unfold removed in all_without k f.each;
        placed = removed-placed L k l f.placed;
      }

  room-each : (n : ℕ) (l : Leaf) → All (CellFit L) l.cells → All (CellFit L) (room_for L n l).cells
  unfolding room_for packed_leaf
  room-each n l a = either (λ (m : Leaf). All (CellFit L) m.cells) _ _ _ (all-packed fit-moved L a) a

  added_full : (x : Cell) (l : Leaf) → 12 ≤ L → CellFit L x → LeafFull L 0 l → costs l.cells + cost x ≤ leaf_most L → LeafFull L 0 (added L x l)
  added_full x l long g f h =
      let m = room_for L (cell_length x) l in
      let o = m.start - cell_length x in
      let y = moved o x in
      record {
        enough = omega arith;
        most = unfold added in omega (arith, costs-with y m.cells, costs-without y.key m.cells, costs-room L (cell_length x) l, cost-moved o x);
        each = unfold added in all-with y (fit-moved o x g) (room-each (cell_length x) l f.each);
        placed = added-placed L x l long f.placed h;
      }

  -- "replacing is removing, then adding"
  replaced_full : (x : Cell) (l : Leaf) → 12 ≤ L → CellFit L x → LeafFull L 0 l → costs (with x l.cells) ≤ leaf_most L
      → LeafFull L 0 (added L x (removed x.key l))
  replaced_full x l long g f h = added_full x (removed x.key l) long g (removed-full x.key l f) (unfold removed in omega (arith, costs-with x l.cells))

-- ---- the new cell
-- Where there is room, the pool has the pages that the chain takes.

pub new-fit : (L : ℕ) (s : Store) (k v : List ℕ) → KeyFit k → length v ≤ value_most L → has_room L s k v ≡ true → CellFit L (new_cell L s k v)
unfolding new_cell
new-fit L s k v key value has =
    let n = length-take (chain_length L (length v)) (pool s k) in
    record { key = key; value = value; chain = omega (arith, taken-chain L s k v, room-pool L s k v has) }

-- ---- put and delete
-- Both change one leaf and go up from it.

-- a cell costs less than a leaf must have, so the cells of a leaf that splits are those of two
pub with-few : (L : ℕ) (x : Cell) (l : Leaf) → KeyFit x.key → LeafFull L 0 l → costs (with x l.cells) < leaf_most L + leaf_least
unfolding leaf_least cell_most key_most inline_most
with-few L x l k f = omega (arith, f.most, cost-most x k, costs-with x l.cells, costs-without x.key l.cells)

module _ (L : ℕ) (room : 508 ≤ L) where
  as_around : {d : ℕ} (c : Context d 0) {g : Grown Leaf} → GrownFull (FullUnder L 0) (FullUnder L 0) g
      → GrownFull (Full L 0 (least_cost c) (least_records c)) (FullUnder L 0) g
  as_around top (still {a = a} p) = still (as_root L 0 a p)
  as_around top (parts p k q) = parts p k q
  as_around (under f c) o = o

  placed_in-full : (s : Store) (w : Spot s.depth) (x : Cell) (free : List ℕ) → Reached L w → CellFit L x → FullStore L (placed_in L s w x free)
  unfolding placed_in
  placed_in-full s w x free r f =
      let cs = with x w.leaf.cells in
      either_by (FullStore L) (leb (costs cs) (leaf_most L)) _ _
      (λ e. settled-full L room s.n w.around _ free r.around (replaced_full L x w.leaf (omega arith) f r.leaf ((leb_iff (costs cs) (leaf_most L)).0 e)))
      (λ e. let g = shared-full L room _ _ cs (all-with x f r.leaf.each) (leb-not (costs cs) (leaf_most L) e) (with-few L x w.leaf f.key r.leaf) in
      grow_up-full L s.n w.around _ _ r.around (as_around w.around g))

  pub put_done-full : (s : Store) (k v : List ℕ) → KeyFit k → length v ≤ value_most L → has_room L s k v ≡ true → FullStore L s → FullStore L (put_done L s k v)
  unfolding put_done
  put_done-full s k v key value has f = placed_in-full s (spot s k) (new_cell L s k v) _ (spot-reached L s k f) (new-fit L s k v key value has)

  pub delete_done-full : (s : Store) (k : List ℕ) → FullStore L s → FullStore L (delete_done L s k)
  unfolding delete_done
  delete_done-full s k f =
      let r = spot-reached L s k f in
      settled-full L room s.n (spot s k).around _ _ r.around (removed-full L k (spot s k).leaf r.leaf)
