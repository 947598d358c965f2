-- Each page is still met once: how often a page is met, and how many are met, are weights, and put and delete keep every weight.
use mathlib.Core.Path.{◌≡◌, sym, ap, ◌∙◌}
use mathlib.Core.Bool.{true}
use mathlib.Core.List.{List, [], ◌∷◌, ◌++◌, map}
use Prim.Native.Nat.{ℕ, zero, suc, ◌+◌, ◌-◌, ◌≤◌, ◌<◌}
use native.Mathlib.Omega.{arith}
use lib.Dec.{eqb}
use lib.ListN.{length, drop, length-drop}
use Rattle.octets.specs.Choice.{choose}
use Rattle.model.specs.Lists.{gather, total, from, times}
use Rattle.model.specs.Types.{Inner, Tree, Store, Mark, across, marked, walk, walked, met}
use Rattle.model.specs.Sizes.{leaf_least, leaf_most, value_most, chain_length, costs}
use Rattle.model.specs.Accept.{once_each}
use Rattle.model.specs.InLeaf.{with, without, found, half}
use Rattle.model.specs.Change.{spot, pool, new_cell, has_room, put_done, delete_done}
use Rattle.model.proofs.Lists.{total-cons, total-append, total-map, length-total, times-total, every-same}
use Rattle.model.proofs.Each.{all-each}
use Rattle.model.proofs.Sums.{total_ext, total-gather}
use Rattle.model.proofs.OnceEach.{once_iff}
use Rattle.laws_size.proofs.Full.{KeyFit, FullStore}
use Rattle.laws_size.proofs.Cells.{all-with, costs-most, some-cell}
use Rattle.laws_size.proofs.Halves.{halves}
use Rattle.laws_size.proofs.Filling.{spot-reached, new-fit, with-few}
use Rattle.laws_size.proofs.Taken.{splits_iff, taken-split, room-pool}
use Rattle.laws_size.proofs.Weights.{by_sep, node, chains, weight, whole}
use Rattle.laws_size.proofs.Kept.{CanSplit, put_done-weight, delete_done-weight}

-- ---- the walk
-- It meets what the store weighs.

module _ (w : ℕ → ℕ) where
  -- the weight of a mark
  abbrev by_mark : Mark → ℕ
  by_mark m = w m.page

  node-same : {A : Type 0} (f g : A → ℕ) → ((x : A) → f x ≡ g x) → (t : Inner A) → node w f t ≡ node w g t
  unfolding node
  node-same f g e t = omega (arith, e t.first, total_ext (by_sep f) (by_sep g) (all-each (λ s. e s.child) t.rest))

  across-weight : {A : Type 0} (m : A → List Mark) (t : Inner A) → total by_mark (marked 2 t.page ∷ across m t) ≡ node w (λ a. total by_mark (m a)) t
  unfolding across node marked
  across-weight m t =
      let others = gather (λ s. m s.child) t.rest in
      omega (arith, total-cons by_mark (marked 2 t.page) (m t.first ++ others), total-append by_mark (m t.first) others, total-gather by_mark (λ s. m s.child) t.rest)

  walk-weight : (h : ℕ) (t : Tree h) → total by_mark (walk h t) ≡ weight w h t
  unfolding walk weight chains
  walk-weight zero t =
      let pages = gather (λ c. c.chain) t.cells in
      unfold marked in omega (arith, total-cons by_mark (marked 1 t.page) (map (marked 3) pages), total-map by_mark (marked 3) pages, total-gather w (λ c. c.chain) t.cells)
  walk-weight (suc h) t = across-weight (walk h) t ∙ node-same (λ a. total by_mark (walk h a)) (weight w h) (walk-weight h) t

  pub met-weight : (s : Store) → total w (met s) ≡ whole w s
  unfolding met walked whole marked
  met-weight s =
      let tree = walk s.depth s.root in
      let free = map (marked 4) s.free in
      omega (arith, total-map w (λ (m : Mark). m.page) (tree ++ free), total-append by_mark tree free, walk-weight s.depth s.root, total-map by_mark (marked 4) s.free)

-- ---- the test
-- It counts, so it tells lists apart only by weights.

pub once-same : (n : ℕ) (ps qs : List ℕ) → ((w : ℕ → ℕ) → total w ps ≡ total w qs) → once_each n ps ≡ once_each n qs
unfolding once_each
once-same n ps qs e =
    let l : length ps ≡ length qs = length-total ps ∙ (e (λ q. 1) ∙ sym (length-total qs)) in
    let t : (p : ℕ) → times p ps ≡ times p qs = λ p. times-total p ps ∙ (e (λ q. choose (eqb p q) 1 0) ∙ sym (times-total p qs)) in
    rw (l, every-same (λ p. eqb (times p ps) 1) (λ p. eqb (times p qs) 1) (λ p. ap (λ (x : ℕ). eqb x 1) (t p)) (from 1 (n - 1)))

pub same_once : (n : ℕ) (s t : Store) → ((w : ℕ → ℕ) → whole w s ≡ whole w t) → once_each n (met s) ≡ once_each n (met t)
same_once n s t e = once-same n (met s) (met t) (λ w. met-weight w s ∙ (e w ∙ sym (met-weight w t)))

-- how many pages tree and chains have, and the free list
pub whole-count : (s : Store) → whole (λ p. 1) s ≡ weight (λ p. 1) s.depth s.root + length s.free
unfolding whole
whole-count s = omega (arith, length-total s.free)

-- each page but the header is met
pub once-length : (n : ℕ) (s : Store) → once_each n (met s) ≡ true → whole (λ p. 1) s ≡ n - 1
once-length n s e = omega (arith, ((once_iff n (met s)).0 e).size, length-total (met s), met-weight (λ p. 1) s)

-- ---- put and delete
-- Both keep every weight; a put that splits needs the pages for it and something for the right page.

-- a put that splits has a right half, and the pages that it takes
pub split_has : (L : ℕ) → 508 ≤ L → (s : Store) (k v : List ℕ) → KeyFit k → length v ≤ value_most L → has_room L s k v ≡ true → FullStore L s
    → leaf_most L < costs (with (new_cell L s k v) (spot s k).leaf.cells)
    → CanSplit (spot s k).around (with (new_cell L s k v) (spot s k).leaf.cells) (drop (chain_length L (length v)) (pool s k))
split_has L room s k v key value has full over =
    let x = new_cell L s k v in
    let fit = new-fit L s k v key value has in
    let r = spot-reached L s k full in
    let cs = with x (spot s k).leaf.cells in
    let each = all-with x fit r.leaf.each in
    let h = halves L cs room (costs-most each) over (with-few L x (spot s k).leaf fit.key r.leaf) in
    record {
      pages = omega (arith, taken-split L s k v ((splits_iff L s k v).1 over), room-pool L s k v has, length-drop (chain_length L (length v)) (pool s k));
      right = some-cell (drop (half cs) cs) (unfold leaf_least in omega (arith, h.right-enough));
    }

pub delete_done-once : (L : ℕ) (s : Store) (k : List ℕ) (n : ℕ) → once_each n (met (delete_done L s k)) ≡ once_each n (met s)
delete_done-once L s k n = same_once n (delete_done L s k) s (λ w. delete_done-weight w L s k)

module _ (L : ℕ) (room : 508 ≤ L) (s : Store) (k v : List ℕ) (key : KeyFit k) (value : length v ≤ value_most L) (has : has_room L s k v ≡ true)
    (full : FullStore L s) (absent : found k (without k (spot s k).leaf.cells) ≡ []) where
  pub put_done-whole : (w : ℕ → ℕ) → whole w (put_done L s k v) ≡ whole w s
  put_done-whole w = put_done-weight w L s k v absent (split_has L room s k v key value has full)

  pub put_done-once : (n : ℕ) → once_each n (met (put_done L s k v)) ≡ once_each n (met s)
  put_done-once n = same_once n (put_done L s k v) s put_done-whole
