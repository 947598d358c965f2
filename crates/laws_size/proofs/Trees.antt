-- A whole tree stays full: what each rule of change leaves at a node is what the rule at the node above asks for, up to the root.
use mathlib.Core.List.{List, [], ◌∷◌, ◌++◌}
use Prim.Native.Nat.{ℕ, zero, suc, ◌+◌, ◌-◌, ◌≤◌, ◌<◌}
use native.Mathlib.Omega.{arith}
use lib.ListN.{length, take, drop, take-append-drop}
use Rattle.octets.proofs.Choice.{either_by}
use Rattle.model.specs.Types.{Cell, Leaf, Sep, Inner, Tree}
use Rattle.model.specs.Sizes.{leaf_least, leaf_most, inner_least, inner_most, costs}
use Rattle.model.specs.Context.{Frame, Context, top, under, fill}
use Rattle.model.specs.InLeaf.{Grown, one, two, half, packed_leaf, parted, shared}
use Rattle.model.specs.Growing.{Step, new_root, grow_up}
use Rattle.model.specs.Mending.{join_leaves, mend_leaf, low_root, mend_up, settled}
use Rattle.model.proofs.Tests.{leb_iff, leb-not}
use Rattle.model.proofs.Each.{All, nil, cons, all_cons, all_append, all-parts}
use Rattle.laws_size.proofs.Full.{CellFit, LeafFull, SepFull, NodeFull, Full, FullUnder, FullStore, FrameFull, least_cost, least_records, Around, GrownFull, still, parts}
use Rattle.laws_size.proofs.Cells.{all-packed, fit-moved, costs-append, costs-packed, costs-most}
use Rattle.laws_size.proofs.Halves.{halves}
use Rattle.laws_size.proofs.Places.{packed-placed}
use Rattle.laws_size.proofs.Nodes.{kids-full, close-kids, fewer, grow_full, partnered-full, mend_full}

-- ---- going up
-- A node above has its other children as they were, and at most a record more or fewer.

some_record : {d h : ℕ} (c : Context d h) → 1 ≤ least_records c
unfolding inner_least
some_record top = omega arith
some_record (under f c) = omega arith

module _ (L : ℕ) where
  root-full : (n d : ℕ) (g : Grown (Tree d)) (free : List ℕ) → GrownFull (Full L d 0 1) (FullUnder L d) g → FullStore L (new_root n d g free)
  unfolding new_root inner_most
  root-full n d (one t) free (still p) = p
  root-full n d (two a k b) free (parts p kk q) = record { enough = omega arith; most = omega arith; head = p; others = cons (record { key = kk; child = q }) nil }

  pub grow_up-full : {d h : ℕ} (n : ℕ) (c : Context d h) (g : Grown (Tree h)) (free : List ℕ) → Around L c
      → GrownFull (Full L h (least_cost c) (least_records c)) (FullUnder L h) g → FullStore L (grow_up n c g free)
  unfolding grow_up
  grow_up-full {d} n top g free a o = root-full n d g free o
  grow_up-full n (under {h} f c) g free a o = grow_up-full n c _ _ a.1 (grow_full (FullUnder L h) free a.0 o)

  -- a tree that becomes the whole
  pub as_root : (h : ℕ) (t : Tree h) → FullUnder L h t → Full L h 0 1 t
  unfolding inner_least
  as_root zero t p = record { enough = omega arith; most = p.most; each = p.each; placed = p.placed }
  as_root (suc h) t p = fewer (FullUnder L h) (omega arith) p

  low-full : (n h p : ℕ) (a : Tree h) (ss : List (Sep (Tree h))) (free : List ℕ) → FullUnder L h a → All (SepFull (FullUnder L h)) ss → length ss ≤ inner_most
      → FullStore L (low_root n h p a ss free)
  unfolding low_root
  low-full n h p a [] free x r m = as_root h a x
  low-full n h p a (s ∷ ss) free x r m = record { enough = omega arith; most = m; head = x; others = r }

  pub mend_up-full : {d h : ℕ} (n : ℕ) (c : Context d (suc h)) (t : Inner (Tree h)) (free : List ℕ) → Around L c
      → NodeFull (FullUnder L h) (least_records c - 1) t → FullStore L (mend_up n c t free)
  unfolding mend_up
  mend_up-full {h = h} n top t free a s = low-full n h t.page t.first t.rest free s.head s.others s.most
  mend_up-full {h = h} n (under f c) t free a s = mend_up-full n c _ _ a.1 (mend_full (FullUnder L h) free a.0 (some_record c) s)

-- ---- leaves
-- Cells that fit make a packed page; cells that do not make two.

module _ (L : ℕ) (room : 508 ≤ L) where
  packed-full : (least p : ℕ) (cs : List Cell) → least ≤ costs cs → costs cs ≤ leaf_most L → All (CellFit L) cs → LeafFull L least (packed_leaf L p cs)
  packed-full least p cs h g a =
      record {
        enough = unfold packed_leaf in omega (arith, costs-packed L cs);
        most = unfold packed_leaf in omega (arith, costs-packed L cs);
        each = unfold packed_leaf in all-packed fit-moved L a;
        placed = packed-placed L p cs (omega arith) g;
      }

  parted-full : (p q : ℕ) (xs ys : List Cell) → FullUnder L 0 (packed_leaf L p xs) → FullUnder L 0 (packed_leaf L q ys) → All (CellFit L) ys
      → GrownFull (FullUnder L 0) (FullUnder L 0) (parted L p q xs ys)
  unfolding parted
  parted-full p q xs [] a b e = still a
  parted-full p q xs (y ∷ ys) a b e = parts a (all_cons e).0.key b

  pub shared-full : (p q : ℕ) (cs : List Cell) → All (CellFit L) cs → leaf_most L < costs cs → costs cs < leaf_most L + leaf_least
      → GrownFull (FullUnder L 0) (FullUnder L 0) (shared L p q cs)
  unfolding shared
  shared-full p q cs a over few =
      let left = take (half cs) cs in
      let right = drop (half cs) cs in
      let h = halves L cs room (costs-most a) over few in
      let all : All (CellFit L) (left ++ right) = rw take-append-drop a in
      parted-full p q left right
      (packed-full leaf_least p left h.left-enough h.left-most (all-parts left all).0)
      (packed-full leaf_least q right h.right-enough h.right-most (all-parts left all).1)
      (all-parts left all).1

  leaves-full : (a : Leaf) (k : List ℕ) (b : Leaf) → All (CellFit L) a.cells → All (CellFit L) b.cells
      → leaf_least ≤ costs a.cells + costs b.cells → costs a.cells + costs b.cells < leaf_most L + leaf_least
      → GrownFull (FullUnder L 0) (FullUnder L 0) (join_leaves L a k b)
  unfolding join_leaves
  leaves-full a k b x y least few =
      let cs = a.cells ++ b.cells in
      let n = costs-append a.cells b.cells in
      let each : All (CellFit L) cs = all_append x y in
      either_by (GrownFull (FullUnder L 0) (FullUnder L 0)) _ _ _
      (λ e. still (packed-full leaf_least a.page cs (omega arith) ((leb_iff (costs cs) (leaf_most L)).0 e) each))
      (λ e. shared-full a.page b.page cs each (leb-not (costs cs) (leaf_most L) e) (omega arith))

  mend_leaf-full : {least : ℕ} {f : Frame Leaf} (l : Leaf) (free : List ℕ) → FrameFull (FullUnder L 0) least f → 1 ≤ least → LeafFull L 0 l
      → NodeFull (FullUnder L 0) (least - 1) (mend_leaf L f l free).node
  unfolding mend_leaf fill
  mend_leaf-full {least} {f} l free o h s =
      either_by (λ (x : Step (Inner Leaf)). NodeFull (FullUnder L 0) (least - 1) x.node) _ _ _
      (λ e. kids-full (FullUnder L 0) (close-kids (FullUnder L 0) f.page o.left
      (record { enough = (leb_iff leaf_least (costs l.cells)).0 e; most = s.most; each = s.each; placed = s.placed }) o.right) (omega (arith, o.enough)) o.most)
      (λ e. partnered-full (FullUnder L 0) (λ (i : Leaf). LeafFull L 0 i × (costs i.cells < leaf_least)) (λ i. i.page) (join_leaves L)
      (λ a k b x kk y. leaves-full a k b x.0.each y.each (omega (arith, y.enough)) (omega (arith, x.1, y.most)))
      (λ a k b x kk y. leaves-full a k b x.each y.0.each (omega (arith, x.enough)) (omega (arith, y.1, x.most)))
      free o h (s, leb-not leaf_least (costs l.cells) e))

  pub settled-full : {d : ℕ} (n : ℕ) (c : Context d 0) (l : Leaf) (free : List ℕ) → Around L c → LeafFull L 0 l → FullStore L (settled L n c l free)
  unfolding settled
  settled-full n top l free a s = s
  settled-full n (under f c) l free a s = mend_up-full L n c _ _ a.1 (mend_leaf-full l free a.0 (some_record c) s)
