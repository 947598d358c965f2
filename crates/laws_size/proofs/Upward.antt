-- Going up keeps the weight: at each node tree and free list change together, so what is around a node, the node and the free list weigh what the store then weighs.
use mathlib.Core.Path.{◌≡◌, refl, sym, ap, ◌∙◌}
use mathlib.Core.List.{List, [], ◌∷◌, ◌++◌}
use Prim.Native.Nat.{ℕ, suc, ◌+◌, ◌≤◌}
use native.Mathlib.Omega.{arith}
use lib.ListN.{length, take, drop, take-append-drop, length-drop}
use Rattle.octets.proofs.Choice.{either}
use Rattle.model.specs.Lists.{total}
use Rattle.model.specs.Types.{Cell, Leaf, Sep, Inner, Tree}
use Rattle.model.specs.Context.{Frame, Context, top, under}
use Rattle.model.specs.InLeaf.{Grown, one, two, half, moved, packed_leaf, parted, shared}
use Rattle.model.specs.Growing.{Step, grow_step, new_root, grow_up, growth}
use Rattle.model.specs.Mending.{join_leaves, mend_leaf, mend_inner, low_root, mend_up, settled}
use Rattle.model.proofs.Lists.{total-nil, total-cons, total-append}
use Rattle.model.proofs.Sums.{total-front}
use Rattle.laws_size.proofs.Cells.{total-packed}
use Rattle.laws_size.proofs.Growth.{growth-full, asks, step_takes}
use Rattle.laws_size.proofs.Weights.{by_sep, of_grown, node, frame, frees, chains, weight, around, whole, fill-weight, PageFor, step-weight, partnered-weight, mend_weight}

-- ---- growing up
-- Where there are the pages that growing takes, each is taken off the free list.

room_of : (w : ℕ → ℕ) {d h : ℕ} (f : Frame (Tree h)) (c : Context d (suc h)) (g : Grown (Tree h)) (free : List ℕ) → asks (under f c) g ≤ length free
    → PageFor w (weight w h) f g free
unfolding asks
room_of w f c (one a) free h = tt
room_of w f c (two a k b) free h = λ e. omega (arith, growth-full f c e)

asks-step : {d h : ℕ} (f : Frame (Tree h)) (c : Context d (suc h)) (g : Grown (Tree h)) (free : List ℕ) → asks (under f c) g ≤ length free
    → asks c (grow_step f g free).node ≤ length (grow_step f g free).free
asks-step f c g free h =
    let t = step_takes f c g free in
    omega (arith, t.rest, ap length t.left, length-drop t.j free)

module _ (w : ℕ → ℕ) where
  pub leaf-is : (l : Leaf) → weight w 0 l ≡ w l.page + chains w l.cells
  unfolding weight
  leaf-is l = refl

  node-is : (h : ℕ) (t : Inner (Tree h)) → node w (weight w h) t ≡ w t.page + (weight w h t.first + total (by_sep (weight w h)) t.rest)
  unfolding node
  node-is h t = refl

  root-weight : (n d : ℕ) (g : Grown (Tree d)) (free : List ℕ) → asks {d = d} top g ≤ length free → whole w (new_root n d g free) ≡ of_grown (weight w d) g + total w free
  unfolding new_root whole of_grown asks growth weight node
  root-weight n d (one t) free h = refl
  root-weight n d (two a k b) free h =
      let s : Sep (Tree d) = record { key = k; child = b } in
      omega (arith, total-front w 0 free h, total-cons (by_sep (weight w d)) s [], total-nil (by_sep (weight w d)))

  one_up : (h : ℕ) (g : Grown (Inner (Tree h))) → of_grown (weight w (suc h)) g ≡ of_grown (node w (weight w h)) g
  unfolding of_grown weight
  one_up h (one t) = refl
  one_up h (two a k b) = refl

  pub grow_up-weight : {d h : ℕ} (n : ℕ) (c : Context d h) (g : Grown (Tree h)) (free : List ℕ) → asks c g ≤ length free
      → whole w (grow_up n c g free) ≡ around w c + (of_grown (weight w h) g + total w free)
  unfolding grow_up around
  grow_up-weight {d} n top g free h = omega (arith, root-weight n d g free h)
  grow_up-weight n (under {h = i} f c) g free h =
      omega (
        arith,
        grow_up-weight n c (grow_step f g free).node (grow_step f g free).free (asks-step f c g free h),
        step-weight w (weight w i) f g free (room_of w f c g free h),
        one_up i (grow_step f g free).node,
      )

  -- ---- mending up
  -- What a step frees is on the free list.

  low-weight : (n h p : ℕ) (a : Tree h) (ss : List (Sep (Tree h))) (free : List ℕ)
      → whole w (low_root n h p a ss free) ≡ (w p + (weight w h a + total (by_sep (weight w h)) ss)) + total w free
  unfolding low_root whole weight node
  low-weight n h p a [] free = omega (arith, total-cons w p free, total-nil (by_sep (weight w h)))
  low-weight n h p a (s ∷ ss) free = refl

  mend_at : (h : ℕ) (f : Frame (Tree (suc h))) (t : Inner (Tree h)) (free : List ℕ)
      → node w (weight w (suc h)) (mend_inner f t free).node + total w (mend_inner f t free).free ≡ frame w (weight w (suc h)) f + (node w (weight w h) t + total w free)
  unfolding weight
  mend_at h f t free = mend_weight w (weight w h) f t free

  mend_up-weight : {d h : ℕ} (n : ℕ) (c : Context d (suc h)) (t : Inner (Tree h)) (free : List ℕ)
      → whole w (mend_up n c t free) ≡ around w c + (node w (weight w h) t + total w free)
  unfolding mend_up around
  mend_up-weight {h = h} n top t free = omega (arith, low-weight n h t.page t.first t.rest free, node-is h t)
  mend_up-weight {h = h} n (under f c) t free =
      omega (arith, mend_up-weight n c (mend_inner f t free).node (mend_inner f t free).free, mend_at h f t free)

  -- ---- leaves
  -- Packing, sharing, removing and adding move cells, and with them their chains.

  pub chain-moved : (o : ℕ) (c : Cell) → total w (moved o c).chain ≡ total w c.chain
  unfolding moved
  chain-moved o c = refl

  chains-append : (xs ys : List Cell) → chains w (xs ++ ys) ≡ chains w xs + chains w ys
  unfolding chains
  chains-append xs ys = total-append _ xs ys

  packed-weight : (L p : ℕ) (cs : List Cell) → weight w 0 (packed_leaf L p cs) ≡ w p + chains w cs
  unfolding weight packed_leaf chains
  packed-weight L p cs = ap (λ (n : ℕ). w p + n) (total-packed (λ c. total w c.chain) chain-moved L cs)

  parted-weight : (L p q : ℕ) (xs ys : List Cell) → of_grown (weight w 0) (parted L p q xs ys) + frees w q (parted L p q xs ys) ≡ (w p + w q) + (chains w xs + chains w ys)
  unfolding parted of_grown frees
  parted-weight L p q xs [] = unfold chains in omega (arith, packed-weight L p xs, total-nil (λ (c : Cell). total w c.chain))
  parted-weight L p q xs (y ∷ ys) = omega (arith, packed-weight L p xs, packed-weight L q (y ∷ ys))

  pub shared-weight : (L p q : ℕ) (cs : List Cell) → of_grown (weight w 0) (shared L p q cs) + frees w q (shared L p q cs) ≡ (w p + w q) + chains w cs
  unfolding shared
  shared-weight L p q cs =
      let left = take (half cs) cs in
      let right = drop (half cs) cs in
      let e : chains w left + chains w right ≡ chains w cs = sym (chains-append left right) ∙ rw take-append-drop in
      omega (arith, parted-weight L p q left right)

  leaves-weight : (L : ℕ) (a : Leaf) (k : List ℕ) (b : Leaf)
      → of_grown (weight w 0) (join_leaves L a k b) + frees w b.page (join_leaves L a k b) ≡ weight w 0 a + weight w 0 b
  unfolding join_leaves of_grown frees
  leaves-weight L a k b =
      let cs = a.cells ++ b.cells in
      let sum = chains-append a.cells b.cells in
      either (λ (x : Grown Leaf). of_grown (weight w 0) x + frees w b.page x ≡ weight w 0 a + weight w 0 b) _ _ _
      (omega (arith, packed-weight L a.page cs, leaf-is a, leaf-is b))
      (omega (arith, shared-weight L a.page b.page cs, leaf-is a, leaf-is b))

  mend_leaf-weight : (L : ℕ) (f : Frame Leaf) (l : Leaf) (free : List ℕ)
      → node w (weight w 0) (mend_leaf L f l free).node + total w (mend_leaf L f l free).free ≡ frame w (weight w 0) f + (weight w 0 l + total w free)
  unfolding mend_leaf
  mend_leaf-weight L f l free =
      either (λ (x : Step (Inner Leaf)). node w (weight w 0) x.node + total w x.free ≡ frame w (weight w 0) f + (weight w 0 l + total w free)) _ _ _
      (omega (arith, fill-weight w (weight w 0) f l))
      (partnered-weight w (weight w 0) (λ m. m.page) (join_leaves L) (leaves-weight L) f l free)

  pub settled-weight : {d : ℕ} (L n : ℕ) (c : Context d 0) (l : Leaf) (free : List ℕ)
      → whole w (settled L n c l free) ≡ around w c + (weight w 0 l + total w free)
  unfolding settled around
  settled-weight L n top l free = unfold whole in omega arith
  settled-weight L n (under f c) l free =
      omega (arith, mend_up-weight n c (mend_leaf L f l free).node (mend_leaf L f l free).free, mend_leaf-weight L f l free)
