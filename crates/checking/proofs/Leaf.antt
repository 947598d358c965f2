-- A leaf is walked through exactly if it is reached: its page is its own re-encoding with cells that sit in it, so it stands between its neighbours,
-- and what the tests say of the bytes is said of the cells that are read from them.
use mathlib.Core.Path.{◌≡◌, refl, sym, ap, subst, ◌∙◌}
use mathlib.Core.Bool.{Bool, true, false, ◌&&◌, and-eq-true_iff}
use mathlib.Core.List.{List, [], ◌∷◌, map, map-map}
use mathlib.Core.Option.{Option, some, some-injective}
use Prim.Native.Nat.{ℕ, ◌+◌, ◌≤◌}
use native.Mathlib.Omega.{arith}
use lib.ListN.{length, get_or, length-map}
use lib.Dec.{eqb}
use borrow.Author.Tests.{leb-true, eqb-true, eq-eqb}
use Rattle.octets.specs.Runs.{part}
use Rattle.model.specs.Lists.{total}
use Rattle.model.specs.Edition.{Edition}
use Rattle.model.specs.Types.{Leaf, entry, entries, marked, walk}
use Rattle.model.specs.Sizes.{leaf_least, leaf_most, costs}
use Rattle.model.specs.Layouts.{LeafPage, Placed, of_leaf}
use Rattle.model.specs.Image.{first_leaf, last_leaf, placed}
use Rattle.model.specs.Decode.{cell_from, cell_of, leaf_of, tree_at}
use Rattle.model.specs.Accept.{throughout, rising, all_rising}
use Rattle.model.proofs.Tests.{leb_iff}
use Rattle.laws_image.proofs.LeafPages.{Cells}
use Rattle.laws_image.proofs.Again.{LeafStands, standing-leaf, leaf-standing}
use Rattle.laws_order.specs.Line.{line}
use Rattle.laws_size.proofs.Full.{LeafFull}
use Rattle.checking.specs.Alone.{leaf_alone, key_of, page_cost}
use Rattle.checking.specs.Walk.{State, meet, cells_walk, first_fits, last_fits, leaf_full, follows, leaf_walk}
use Rattle.checking.proofs.Small.{Small, small_cells_lem}
use Rattle.checking.proofs.Steps.{then_some, some_then, when-some, some-when, meet-meets}
use Rattle.checking.proofs.Marking.{mark_then, then_mark}
use Rattle.checking.proofs.Alone.{LeafAlone, leaf_iff}
use Rattle.checking.proofs.Packing.{cells-packed}
use Rattle.checking.proofs.Cells.{limits, chain_marks, cells-sound, cells_whole}
use Rattle.checking.proofs.Written.{Cellwise, again-cells, chains-cells, fit-cells, cellwise, cells-written, written-cells, good-written, page_cost-total, costs-written}
use Rattle.checking.proofs.Between.{keys_iff, items}
use Rattle.checking.proofs.Reached.{least_cost, Reached}
use Rattle.model.proofs.Each.{all_of}

-- ---- how full
-- A leaf that is not the root costs something, so it is not empty.

full-cost : (root : Bool) (q : LeafPage) → leaf_full root q ≡ true → least_cost root ≤ page_cost q
unfolding leaf_full
full-cost true q t = omega arith
full-cost false q t = leb-true _ _ t

cost-full : (root : Bool) (q : LeafPage) → least_cost root ≤ page_cost q → leaf_full root q ≡ true
unfolding leaf_full
cost-full true q h = refl
cost-full false q h = (leb_iff leaf_least (page_cost q)).1 h

no_cost : (cs : List Placed) → length cs ≡ 0 → total (λ (c : Placed). length c.bytes) cs ≡ 0
unfolding total
no_cost [] e = refl
no_cost (c ∷ cs) e = absurd (omega arith)

open_above : (root : Bool) (high : List ℕ) (q : LeafPage) → (root ≡ true → high ≡ []) → least_cost root ≤ page_cost q → length q.cells ≡ 0 → high ≡ []
unfolding leaf_least
open_above true high q o h e = o refl
open_above false high q o h e = absurd (omega (arith, page_cost-total q, no_cost q.cells e))

-- ---- the leaf of a page

module _ (E : Edition) (room : 9 ≤ E.usable) (n : ℕ) (ps : List (List ℕ)) (p : ℕ) where
  abbrev L : ℕ
  L = E.usable

  abbrev page : List ℕ
  page = get_or ps p []

  abbrev q : LeafPage
  q = of_leaf L page

  abbrev x : Leaf
  x = tree_at L ps 0 p

  first_leaf_lem : first_leaf 0 x ≡ p
  unfolding first_leaf tree_at leaf_of
  first_leaf_lem = refl

  last_leaf_lem : last_leaf 0 x ≡ p
  unfolding last_leaf tree_at leaf_of
  last_leaf_lem = refl

  cells-leaf : x.cells ≡ map (cell_of L ps) q.cells
  unfolding tree_at leaf_of
  cells-leaf = refl

  length-entries : length (entries 0 x) ≡ length q.cells
  unfolding entries tree_at leaf_of
  length-entries = length-map (map (cell_of L ps) q.cells) entry ∙ length-map q.cells (cell_of L ps)

  line-leaf : line 0 x ≡ items L ps q.cells
  unfolding line entries tree_at leaf_of
  line-leaf = refl

  walk-leaf : walk 0 x ≡ marked 1 p ∷ chain_marks L ps q.cells
  unfolding walk tree_at leaf_of
  walk-leaf = refl

  rising-leaf : all_rising 0 x ≡ rising (map (λ (c : Placed). key_of c.bytes) q.cells)
  unfolding all_rising throughout tree_at leaf_of cell_of cell_from key_of part
  rising-leaf = ap rising (map-map _ _ q.cells)

  leaf-full : (root : Bool) → LeafAlone L page → Cellwise L ps q.cells → leaf_full root q ≡ true → LeafFull L (least_cost root) x
  unfolding tree_at leaf_of leaf_most
  leaf-full root a k t =
      let ds = map (cell_of L ps) q.cells in
      let e = again-cells L ps k in
      let b : Cells L q.start (map placed ds) = rw e a.good.cells in
      let w = written-cells ds b in
      let c : costs ds ≡ page_cost q = costs-written ds q e in
      let m : length ds ≡ length q.cells = length-map q.cells (cell_of L ps) in
      record {
        enough = omega (arith, full-cost root q t);
        most = omega (arith, page_cost-total q, cells-packed a.good.start a.good.cells, a.good.slots);
        each = fit-cells L ps k;
        placed = record { low = omega (arith, a.good.slots); high = a.good.start; inside = w.0; apart = w.1 };
      }

  module _ (root : Bool) (low high : List ℕ) (t to : State) where
    abbrev tests : Bool
    tests = follows t p && leaf_alone L page && eqb q.prev (E.back t.last) && leaf_full root q && first_fits low q.cells && last_fits high q.cells

    abbrev after : List ℕ → State
    after work = record { work = work; entries = t.entries + length q.cells; last = p; next = q.next }

    pub leaf-sound : Small (get_or ps p []) → (root ≡ true → high ≡ []) → leaf_walk E n ps root low high p t ≡ some to
        → Reached E n ps 0 root low high (tree_at E.usable ps 0 p) t to × (1 ≤ to.last)
    unfolding leaf_walk
    leaf-sound small o e =
        let m = some_then (meet n 1 p t.work) _ to e in
        let w = some-when tests _ to m.1.1 in
        let c = some_then (cells_walk L n ps q.cells m.0) _ to w.1 in
        let d : after c.0 ≡ to = some-injective _ _ c.1.1 in
        let k = simp and-eq-true_iff at w.0 in
        let follow = k.0.0.0.0.0 in
        let a = (leaf_iff L page).0 k.0.0.0.0.1 in
        let back = eqb-true _ _ k.0.0.0.1 in
        let cost = k.0.0.1 in
        let r = cells-sound L room n ps m.0 c.0 (small_cells_lem L page small) a.good.cells a.limits c.1.0 in
        let stands : LeafStands E ps t.last q.next p =
        record { layout = a.layout; forth = refl; back = back; cells = again-cells L ps r.0; chains = chains-cells L ps r.0 } in
        let order = (keys_iff L ps low high q.cells (open_above root high q o (full-cost root q cost))).0
        (record { rises = a.rises; first = k.0.1; last = k.1 }) in
        let reached : Reached E n ps 0 root low high x t (after c.0) =
        record {
          stands = standing-leaf E ps t.last q.next p stands;
          joined = rw first_leaf_lem follow;
          ends = sym last_leaf_lem;
          counts = rw length-entries;
          full = leaf-full root a r.0 cost;
          rises = rising-leaf ∙ a.rises;
          order = rw line-leaf order;
          marks = rw walk-leaf (mark_then n t.work 1 p _ m.1.0 r.1);
        } in
        let some-leaf : 1 ≤ p = (meet-meets n 1 p t.work m.0 m.1.0).some-page in
        subst (λ (z : State). Reached E n ps 0 root low high x t z × (1 ≤ z.last)) d (reached, some-leaf)

    pub leaf-whole : (root ≡ true → high ≡ []) → Reached E n ps 0 root low high (tree_at E.usable ps 0 p) t to → leaf_walk E n ps root low high p t ≡ some to
    unfolding leaf_walk
    leaf-whole o k =
        let f : LeafFull L (least_cost root) x = k.full in
        let s = leaf-standing E ps t.last to.next p (good-written (E.back t.last) to.next x f.placed) k.stands in
        let c = cellwise L ps q.cells s.cells s.chains (rw cells-leaf at f.each) in
        let cost : least_cost root ≤ page_cost q = omega (arith, f.enough, costs-leaf s) in
        let keys = (keys_iff L ps low high q.cells (open_above root high q o cost)).1 (rw line-leaf at k.order) in
        let alone = (leaf_iff L page).1 (leaf-alone f s c keys.rises) in
        let m = then_mark n t.work 1 p _ (rw walk-leaf at k.marks) in
        let follow = rw first_leaf_lem at k.joined in
        let good : tests ≡ true = simp and-eq-true_iff (((((follow, alone), eq-eqb _ _ s.back), cost-full root q cost), keys.first), keys.last) in
        then_some (meet n 1 p t.work) _ m.1.0 (when-some tests _ good
        (then_some (cells_walk L n ps q.cells m.0) _ (cells_whole L room n ps m.0 to.work c m.1.1) (ap {B = Option State} some (ends s k))))
      where
        costs-leaf : LeafStands E ps t.last to.next p → costs x.cells ≡ page_cost q
        costs-leaf s = rw cells-leaf (costs-written (map (cell_of L ps) q.cells) q s.cells)

        leaf-alone : LeafFull L (least_cost root) x → LeafStands E ps t.last to.next p → Cellwise L ps q.cells
            → rising (map (λ (c : Placed). key_of c.bytes) q.cells) ≡ true → LeafAlone L page
        leaf-alone f s c r =
            unfold tree_at in unfold leaf_of in
            record {
              layout = s.layout;
              good = record {
                slots = omega (arith, f.placed.low, length-map q.cells (cell_of L ps));
                start = f.placed.high;
                cells = rw s.cells at (cells-written f.placed.inside f.placed.apart);
              };
              limits = all_of (λ c k. limits L (cell_of L ps c) c k.again k.fit) c;
              rises = r;
            }

        ends : LeafStands E ps t.last to.next p → Reached E n ps 0 root low high x t to → after to.work ≡ to
        ends s k =
            let e : t.entries + length q.cells ≡ to.entries = sym (k.counts ∙ rw length-entries) in
            let l : p ≡ to.last = sym (k.ends ∙ last_leaf_lem) in
            let f : q.next ≡ to.next = s.forth in
            λ i. record { work = to.work; entries = e i; last = l i; next = f i }
