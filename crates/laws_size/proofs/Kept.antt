-- Put and delete leave the store as heavy as before, whatever a page weighs: each rule moves pages between tree, chains and free list.
use mathlib.Core.Path.{◌≡◌, refl, sym, ap, ◌∙◌}
use mathlib.Core.List.{List, [], ◌∷◌, tail}
use Prim.Native.Nat.{ℕ, suc, ◌+◌, ◌-◌, ◌≤◌, ◌<◌}
use native.Mathlib.Omega.{arith}
use lib.Dec.{leb}
use lib.ListN.{length, take, drop, take-append-drop}
use Rattle.octets.proofs.Choice.{either, either_by}
use Rattle.model.specs.Lists.{gather, total, head_or}
use Rattle.model.specs.Types.{Cell, Leaf, Tree, Store}
use Rattle.model.specs.Sizes.{leaf_most, cell_length, chain_length, costs}
use Rattle.model.specs.Context.{Frame, Context, top, under, Spot, fill, plug}
use Rattle.model.specs.InLeaf.{with, without, found, half, moved, packed_leaf, room_for, added, removed, parted, shared}
use Rattle.model.specs.Growing.{growth}
use Rattle.model.specs.Change.{spot, old_chain, freed, pool, new_cell, placed_in, put_done, delete_done}
use Rattle.model.proofs.Tests.{leb-not}
use Rattle.model.proofs.Lists.{total-append, length-tail}
use Rattle.model.proofs.Sums.{total-front, total-gather, total-reverse}
use Rattle.model.proofs.Descent.{descend-plug}
use Rattle.laws_size.proofs.Cells.{total-with, total-found, total_absent, total-room, found-room}
use Rattle.laws_size.proofs.Growth.{asks}
use Rattle.laws_size.proofs.Upward.{leaf-is, chain-moved, grow_up-weight, shared-weight, settled-weight}
use Rattle.laws_size.proofs.Weights.{frame, frees, chains, weight, around, whole, fill-weight}

-- ---- the leaf
-- What is around it, and it.

module _ (w : ℕ → ℕ) where
  plug-weight : {d h : ℕ} (c : Context d h) (t : Tree h) → weight w d (plug c t) ≡ around w c + weight w h t
  unfolding plug around
  plug-weight top t = omega arith
  plug-weight (under {h} f c) t = omega (arith, plug-weight c (fill f t), filled h f t)
    where
      filled : (h : ℕ) (f : Frame (Tree h)) (t : Tree h) → weight w (suc h) (fill f t) ≡ frame w (weight w h) f + weight w h t
      filled h f t = unfold weight in fill-weight w (weight w h) f t

  spot-weight : (s : Store) (k : List ℕ) → weight w s.depth s.root ≡ around w (spot s k).around + weight w 0 (spot s k).leaf
  unfolding spot plug
  spot-weight s k = ap (λ (t : Tree s.depth). weight w s.depth t) (sym (descend-plug s.depth top s.root k)) ∙ plug-weight (spot s k).around (spot s k).leaf

  removed-weight : (k : List ℕ) (l : Leaf) → weight w 0 (removed k l) ≡ w l.page + chains w (without k l.cells)
  unfolding removed weight
  removed-weight k l = refl

  -- the key is absent, so adding takes no other cell's place
  added-weight : (L : ℕ) (x : Cell) (l : Leaf) → found x.key l.cells ≡ [] → weight w 0 (added L x l) ≡ weight w 0 l + total w x.chain
  unfolding added weight chains
  added-weight L x l e =
      let chain : Cell → ℕ = λ c. total w c.chain in
      let m = room_for L (cell_length x) l in
      let y = moved (m.start - cell_length x) x in
      let c : total chain (with y m.cells) ≡ total chain (without x.key m.cells) + total w x.chain = unfold moved in total-with chain y m.cells in
      omega (arith, total_absent chain x.key m.cells (found-room x.key L (cell_length x) l e), total-room chain (chain-moved w) L (cell_length x) l, room-page)
    where
      room-page : w (room_for L (cell_length x) l).page ≡ w l.page
      room-page = unfold room_for packed_leaf in either (λ (m : Leaf). w m.page ≡ w l.page) _ _ _ refl refl

  -- ---- the old value's chain
  -- It goes to the free list.

  pool-weight : (s : Store) (k : List ℕ) → total w (pool s k) + chains w (without k (spot s k).leaf.cells) ≡ chains w (spot s k).leaf.cells + total w s.free
  unfolding pool freed old_chain chains
  pool-weight s k =
      let chain : Cell → ℕ = λ c. total w c.chain in
      let cs = (spot s k).leaf.cells in
      omega (arith, total-reverse w (gather (λ c. c.chain) (found k cs)) s.free, total-gather w (λ c. c.chain) (found k cs), total-found chain k cs)

  -- ---- delete

  pub delete_done-weight : (L : ℕ) (s : Store) (k : List ℕ) → whole w (delete_done L s k) ≡ whole w s
  unfolding delete_done whole
  delete_done-weight L s k =
      omega (
        arith,
        settled-weight w L s.n (spot s k).around (removed k (spot s k).leaf) (pool s k),
        removed-weight k (spot s k).leaf,
        pool-weight s k,
        spot-weight s k,
        leaf-is w (spot s k).leaf,
      )

-- ---- put
-- Its chain comes off the pool, and so do the pages of a split.

-- what a split needs: a page for the right half and those for the nodes above, and that there is a right half
pub record CanSplit {d : ℕ} (c : Context d 0) (cs : List Cell) (free : List ℕ) : Type 0 where
  pub pages : suc (growth c) ≤ length free
  pub right : 1 ≤ length (drop (half cs) cs)

-- with a right half there are two, whose page is not freed
pub shared-asks : {d : ℕ} (c : Context d 0) (L p q : ℕ) (cs : List Cell) → 1 ≤ length (drop (half cs) cs) → asks c (shared L p q cs) ≡ growth c
unfolding shared
shared-asks c L p q cs h = go (take (half cs) cs) (drop (half cs) cs) h
  where
    go : (xs ys : List Cell) → 1 ≤ length ys → asks c (parted L p q xs ys) ≡ growth c
    go xs [] h = absurd (omega arith)
    go xs (y ∷ ys) h = unfold parted asks in refl

shared-frees : (w : ℕ → ℕ) (L p q : ℕ) (cs : List Cell) → 1 ≤ length (drop (half cs) cs) → frees w q (shared L p q cs) ≡ 0
unfolding shared
shared-frees w L p q cs h = go (take (half cs) cs) (drop (half cs) cs) h
  where
    go : (xs ys : List Cell) → 1 ≤ length ys → frees w q (parted L p q xs ys) ≡ 0
    go xs [] h = absurd (omega arith)
    go xs (y ∷ ys) h = unfold parted frees in refl

module _ (w : ℕ → ℕ) where
  with-chains : (x : Cell) (cs : List Cell) → chains w (with x cs) ≡ chains w (without x.key cs) + total w x.chain
  unfolding chains
  with-chains x cs = total-with (λ c. total w c.chain) x cs

  placed_in-weight : (L : ℕ) (s : Store) (v : Spot s.depth) (x : Cell) (free : List ℕ) → found x.key (without x.key v.leaf.cells) ≡ []
      → (leaf_most L < costs (with x v.leaf.cells) → CanSplit v.around (with x v.leaf.cells) free)
      → whole w (placed_in L s v x free)
      ≡ around w v.around + (w v.leaf.page + (chains w (without x.key v.leaf.cells) + (total w x.chain + total w free)))
  unfolding placed_in
  placed_in-weight L s v x free absent room =
      let cs = with x v.leaf.cells in
      let p = v.leaf.page in
      let q = head_or 0 free in
      let gone = removed x.key v.leaf in
      let rest = chains w (without x.key v.leaf.cells) in
      either_by (λ (r : Store). whole w r ≡ around w v.around + (w p + (rest + (total w x.chain + total w free)))) (leb (costs cs) (leaf_most L)) _ _
      (λ e. omega (
        arith,
        settled-weight w L s.n v.around (added L x gone) free,
        added-weight w L x gone (unfold removed in absent),
        removed-weight w x.key v.leaf,
      ))
      (λ e. let r = room (leb-not (costs cs) (leaf_most L) e) in
      let enough : asks v.around (shared L p q cs) ≤ length (tail free) = omega (arith, shared-asks v.around L p q cs r.right, r.pages, length-tail free) in
      omega (
        arith,
        grow_up-weight w s.n v.around (shared L p q cs) (tail free) enough,
        shared-weight w L p q cs,
        shared-frees w L p q cs r.right,
        with-chains x v.leaf.cells,
        total-front w 0 free (omega (arith, r.pages)),
      ))

  pub put_done-weight : (L : ℕ) (s : Store) (k v : List ℕ) → found k (without k (spot s k).leaf.cells) ≡ []
      → (leaf_most L < costs (with (new_cell L s k v) (spot s k).leaf.cells)
      → CanSplit (spot s k).around (with (new_cell L s k v) (spot s k).leaf.cells) (drop (chain_length L (length v)) (pool s k)))
      → whole w (put_done L s k v) ≡ whole w s
  unfolding put_done new_cell whole
  put_done-weight L s k v absent room =
      let n = chain_length L (length v) in
      let new = take n (pool s k) in
      let left = drop n (pool s k) in
      let cut : total w new + total w left ≡ total w (pool s k) = sym (total-append w new left) ∙ rw take-append-drop in
      omega (
        arith,
        placed_in-weight L s (spot s k) (new_cell L s k v) left absent room,
        pool-weight w s k,
        spot-weight w s k,
        leaf-is w (spot s k).leaf,
      )
