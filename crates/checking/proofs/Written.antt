-- A leaf's cells and their bytes: cells written sit in the page and are clear of each other exactly if the cells are inside and apart, and what
-- the bytes cost is what the cells cost.
use mathlib.Core.Path.{◌≡◌, refl, sym, ◌∙◌}
use mathlib.Core.Logic.{inl, inr}
use mathlib.Core.List.{List, [], ◌∷◌, map}
use Prim.Native.Nat.{ℕ, ◌+◌, ◌*◌}
use native.Mathlib.Omega.{arith}
use lib.ListN.{length, length-map}
use Rattle.model.specs.Lists.{gather, total}
use Rattle.model.specs.Types.{Cell, Leaf}
use Rattle.model.specs.Sizes.{cell_length, cost, costs}
use Rattle.model.specs.Layouts.{Placed, LeafPage}
use Rattle.model.specs.Image.{Page, placed, leaf_page, chain_pages}
use Rattle.model.specs.Decode.{cell_of}
use Rattle.model.proofs.Lists.{total-map}
use Rattle.laws_image.proofs.LeafPages.{Sits, Clear, Cells, no_cell, a-cell, GoodLeaf}
use Rattle.laws_image.proofs.Standing.{Standing}
use Rattle.laws_image.proofs.Cell.{length-cell_bytes, cell_size-cell_bytes}
use Rattle.laws_size.proofs.Full.{CellFit, Inside, Apart, before, after, Placed as PlacedSized}
use Rattle.checking.specs.Alone.{page_cost}
use Rattle.checking.proofs.Cells.{CellStands}
use Rattle.model.proofs.Each.{All, nil, cons, all_append, all-parts, Pairwise, lone, joint, all-each}
use Rattle.model.proofs.Sums.{total_ext}

-- ---- places

sits : {s L : ℕ} (c : Cell) → Inside s L c → Sits L s (placed c)
unfolding placed cell_length
sits c k =
    let n = length-cell_bytes c in
    record { low = k.low; high = omega (arith, k.high); some = omega arith; size = cell_size-cell_bytes c ∙ sym n }

inside : {s L : ℕ} (c : Cell) → Sits L s (placed c) → Inside s L c
unfolding placed
inside c k = record { low = k.low; high = omega (arith, length-cell_bytes c, k.high) }

clear : (c : Cell) {ds : List Cell} → All (Apart c) ds → Clear (placed c).at (length (placed c).bytes) (map placed ds)
unfolding placed
clear c nil = nil
clear c (cons {x = d} (before h) a) = cons {x = placed d} (inl (omega (arith, length-cell_bytes c))) (clear c a)
clear c (cons {x = d} (after h) a) = cons {x = placed d} (inr (omega (arith, length-cell_bytes d))) (clear c a)

apart : (c : Cell) (ds : List Cell) → Clear (placed c).at (length (placed c).bytes) (map placed ds) → All (Apart c) ds
unfolding placed
apart c [] nil = nil
apart c (d ∷ ds) (cons (inl h) a) = cons {x = d} (before (omega (arith, length-cell_bytes c))) (apart c ds a)
apart c (d ∷ ds) (cons (inr h) a) = cons {x = d} (after (omega (arith, length-cell_bytes d))) (apart c ds a)

pub cells-written : {s L : ℕ} {ds : List Cell} → All (Inside s L) ds → Pairwise Apart ds → Cells L s (map placed ds)
cells-written nil lone = no_cell
cells-written (cons {x = d} k ks) (joint a far) = a-cell (sits d k) (clear d a) (cells-written ks far)

pub written-cells : {s L : ℕ} (ds : List Cell) → Cells L s (map placed ds) → All (Inside s L) ds × Pairwise Apart ds
written-cells [] no_cell = (nil, lone)
written-cells (d ∷ ds) (a-cell f o fs) =
    let r = written-cells ds fs in
    (cons (inside d f) r.0, joint (apart d ds o) r.1)

pub good-written : {L : ℕ} (prev next : ℕ) (l : Leaf) → PlacedSized L l → GoodLeaf L (leaf_page prev next l)
unfolding leaf_page
good-written prev next l k =
    record { slots = omega (arith, length-map l.cells placed, k.low); start = k.high; cells = cells-written k.inside k.apart }

-- ---- costs

bytes-cost : (cs : List Placed) → total (λ (c : Placed). length c.bytes + 2) cs ≡ total (λ (c : Placed). length c.bytes) cs + 2 * length cs
unfolding total
bytes-cost [] = refl
bytes-cost (c ∷ cs) = omega (arith, bytes-cost cs)

pub page_cost-total : (q : LeafPage) → page_cost q ≡ total (λ (c : Placed). length c.bytes) q.cells + 2 * length q.cells
unfolding page_cost
page_cost-total q = bytes-cost q.cells

placed-cost : (c : Cell) → length (placed c).bytes + 2 ≡ cost c
unfolding placed cost
placed-cost c = rw (length-cell_bytes c)

pub costs-written : (ds : List Cell) (q : LeafPage) → map placed ds ≡ q.cells → costs ds ≡ page_cost q
unfolding costs page_cost
costs-written ds q e =
    rw (← e) (sym (total-map (λ (c : Placed). length c.bytes + 2) placed ds ∙ total_ext (λ c. length (placed c).bytes + 2) cost (all-each placed-cost ds)))

-- ---- all that is said of each cell

module _ (L : ℕ) (ps : List (List ℕ)) where
  abbrev pub Cellwise : List Placed → Type 0
  Cellwise cs = All (CellStands L ps) cs

  abbrev pub chains_of : List Cell → List Page
  chains_of ds = gather (λ c. chain_pages L c.chain c.value) ds

  pub again-cells : {cs : List Placed} → Cellwise cs → map placed (map (cell_of L ps) cs) ≡ cs
  again-cells nil = refl
  again-cells (cons k ks) = rw (k.again, again-cells ks)

  pub chains-cells : {cs : List Placed} → Cellwise cs → Standing ps (chains_of (map (cell_of L ps) cs))
  unfolding gather
  chains-cells nil = nil
  chains-cells (cons k ks) = all_append k.chain (chains-cells ks)

  pub fit-cells : {cs : List Placed} → Cellwise cs → All (CellFit L) (map (cell_of L ps) cs)
  fit-cells nil = nil
  fit-cells (cons k ks) = cons k.fit (fit-cells ks)

  pub cellwise : (cs : List Placed) → map placed (map (cell_of L ps) cs) ≡ cs → Standing ps (chains_of (map (cell_of L ps) cs))
      → All (CellFit L) (map (cell_of L ps) cs) → Cellwise cs
  unfolding gather
  cellwise [] e g f = nil
  cellwise (c ∷ cs) e g (cons k ks) =
      let d = cell_of L ps c in
      let q = all-parts (chain_pages L d.chain d.value) g in
      let h : placed d ≡ c = cc in
      let r : map placed (map (cell_of L ps) cs) ≡ cs = cc in
      cons (record { again = h; chain = q.0; fit = k }) (cellwise cs r q.1 ks)
