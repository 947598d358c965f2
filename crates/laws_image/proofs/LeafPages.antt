-- The cells of a good leaf lie behind its slots and apart from each other, so none is written over another or over a slot, and the leaf is read back.
use mathlib.Core.Path.{◌≡◌, refl, sym, ap, ◌∙◌}
use mathlib.Core.List.{List, [], ◌∷◌, ◌++◌, map, append_assoc}
use mathlib.Core.Logic.{◌⊎◌, inl}
use Prim.Native.Nat.{ℕ, suc, ◌+◌, ◌*◌, ◌/◌, ◌≤◌, min}
use native.Mathlib.Nat.{add-zero}
use native.Mathlib.Omega.{arith}
use lib.ListN.{length, take, drop, take-append-drop}
use lib.Seq.{drop-drop}
use Rattle.octets.specs.Runs.{over, part}
use Rattle.octets.specs.Numbers.{word16, bytes16}
use Rattle.octets.proofs.Over.{length_over}
use Rattle.octets.proofs.Part.{part-over-out, part-here}
use Rattle.octets.proofs.Words.{word16-over-out, word16-front}
use Rattle.model.specs.Lists.{gather, from, pad}
use Rattle.model.specs.Layouts.{Placed, LeafPage, slot_bytes, leaf_top, with_cells, to_leaf, cell_size, placed_at, slot_of, of_leaf}
use Rattle.model.proofs.Each.{All, nil, cons, all_cons}
use Rattle.model.proofs.Lists.{length-pad, Reads, none, one, map-from}
use Rattle.laws_image.proofs.Sundry.{word16-drop}

-- ---- good leaves

-- a cell from `start` on, whose first bytes say its length
pub record Sits (L start : ℕ) (c : Placed) : Type 0 where
  pub low : start ≤ c.at
  pub high : c.at + length c.bytes ≤ L
  pub some : 3 ≤ length c.bytes
  pub size : cell_size c.bytes ≡ length c.bytes

-- the n bytes from j on are in none of the cells
abbrev pub Clear : ℕ → ℕ → List Placed → Type 0
Clear j n cs = All (λ c. (j + n ≤ c.at) ⊎ (c.at + length c.bytes ≤ j)) cs

pub data Cells (L start : ℕ) : List Placed → Type 0 where
  no_cell : Cells L start []
  a-cell : {c : Placed} {cs : List Placed} → Sits L start c → Clear c.at (length c.bytes) cs → Cells L start cs → Cells L start (c ∷ cs)

pub record GoodLeaf (L : ℕ) (q : LeafPage) : Type 0 where
  pub slots : 12 + 2 * length q.cells ≤ q.start
  pub start : q.start ≤ L
  pub cells : Cells L q.start q.cells

-- ---- writing the cells
-- It keeps the page's length and what is clear of the cells, as all before the cell start is.

pub length-with_cells : (cs : List Placed) (page : List ℕ) → length (with_cells cs page) ≡ length page
unfolding with_cells
length-with_cells [] page = refl
length-with_cells (c ∷ cs) page = length-with_cells cs (over page c.at c.bytes) ∙ length_over page c.at c.bytes

pub part-with_cells : {cs : List Placed} (page : List ℕ) (j n : ℕ) → j + n ≤ length page → Clear j n cs → part (with_cells cs page) j n ≡ part page j n
unfolding with_cells
part-with_cells {cs = []} page j n h x = refl
part-with_cells {cs = c ∷ cs} page j n h x =
    let r = all_cons x in
    let e : length (over page c.at c.bytes) ≡ length page = length_over page c.at c.bytes in
    part-with_cells (over page c.at c.bytes) j n (omega arith) r.1 ∙ part-over-out page c.at c.bytes j n h r.0

pub word16-with_cells : {cs : List Placed} (page : List ℕ) (j : ℕ) → Clear j 2 cs → word16 (with_cells cs page) j ≡ word16 page j
unfolding with_cells
word16-with_cells {cs = []} page j x = refl
word16-with_cells {cs = c ∷ cs} page j x =
    let r = all_cons x in
    word16-with_cells (over page c.at c.bytes) j r.1 ∙ word16-over-out page c.at c.bytes j r.0

pub clear-below : {L start : ℕ} {cs : List Placed} (j n : ℕ) → j + n ≤ start → Cells L start cs → Clear j n cs
clear-below j n h no_cell = nil
clear-below j n h (a-cell {c} f o cs) = cons {x = c} (inl (omega arith)) (clear-below j n h cs)

-- ---- reading a cell
-- Its length is in its first three bytes, so it is found where they stand.

cell_size-front : (b rest : List ℕ) → 3 ≤ length b → cell_size (b ++ rest) ≡ cell_size b
unfolding cell_size word16
cell_size-front [] rest h = absurd (omega arith)
cell_size-front (x ∷ []) rest h = absurd (omega arith)
cell_size-front (x ∷ y ∷ []) rest h = absurd (omega arith)
cell_size-front (x ∷ y ∷ z ∷ b) rest h = refl

pub placed_at-stands : {L start : ℕ} (page : List ℕ) (c : Placed) → Sits L start c
    → part page c.at (length c.bytes) ≡ c.bytes → placed_at page c.at ≡ c
unfolding placed_at part
placed_at-stands page c f e =
    let b = c.bytes in
    let rest = drop c.at page in
    let d : rest ≡ b ++ drop (length b) rest = sym (take-append-drop (length b) rest) ∙ ap (λ (l : List ℕ). l ++ drop (length b) rest) e in
    let z : cell_size rest ≡ length b = ap cell_size d ∙ cell_size-front b _ f.some ∙ f.size in
    let r : take (cell_size rest) rest ≡ b = ap (λ (n : ℕ). take n rest) z ∙ e in
    λ i. record { at = c.at; bytes = r i }

-- ---- reading the slots
-- `top` is the page before its cells are written, and `before` the page when those of the slots up to i are.

module _ (L start : ℕ) (page top : List ℕ) (alike : (j : ℕ) → j + 2 ≤ start → word16 page j ≡ word16 top j) where
  slot_reads : (i : ℕ) (c : Placed) (rest : List ℕ) → drop (12 + 2 * i) top ≡ slot_bytes c ++ rest
      → 12 + 2 * i + 2 ≤ start → word16 page (12 + 2 * i) ≡ c.at
  unfolding slot_bytes
  slot_reads i c rest e h = alike (12 + 2 * i) h ∙ (rw add-zero at (sym (word16-drop top (12 + 2 * i) 0))) ∙ rw e (word16-front c.at rest)

  slot_rest : (i : ℕ) (c : Placed) (rest : List ℕ) → drop (12 + 2 * i) top ≡ slot_bytes c ++ rest → drop (12 + 2 * suc i) top ≡ rest
  unfolding slot_bytes bytes16
  slot_rest i c rest e =
      let k : 12 + 2 * i + 2 ≡ 12 + 2 * suc i = omega arith in
      (rw k at (sym (drop-drop 2 (12 + 2 * i) top))) ∙ rw e

  cells-read : (before : List ℕ) (i : ℕ) {cs : List Placed} (rest : List ℕ) → length before ≡ L → page ≡ with_cells cs before → Cells L start cs
      → drop (12 + 2 * i) top ≡ gather slot_bytes cs ++ rest → 12 + 2 * (i + length cs) ≤ start → Reads (slot_of page) i cs
  unfolding gather slot_of with_cells
  cells-read before i rest l w no_cell e h = none
  cells-read before i rest l w (a-cell {c} {cs} f o fs) e h =
      let tail : List ℕ = gather slot_bytes cs ++ rest in
      let e₁ : drop (12 + 2 * i) top ≡ slot_bytes c ++ tail = e ∙ append_assoc (slot_bytes c) (gather slot_bytes cs) rest in
      let a : word16 page (12 + 2 * i) ≡ c.at = slot_reads i c tail e₁ (omega arith) in
      let after : List ℕ = over before c.at c.bytes in
      let l₁ : length after ≡ L = length_over before c.at c.bytes ∙ l in
      let fits : c.at + length c.bytes ≤ L = f.high in
      let s : part page c.at (length c.bytes) ≡ c.bytes =
      rw w (part-with_cells after c.at (length c.bytes) (omega arith) o ∙ part-here before c.at c.bytes (omega arith)) in
      one {i = i} {x = c} (rw a (placed_at-stands page c f s)) (cells-read after (suc i) rest l₁ w fs (slot_rest i c tail e₁) (omega arith))

-- ---- the page

pub length-slots : (cs : List Placed) → length (gather slot_bytes cs) ≡ 2 * length cs
unfolding gather slot_bytes bytes16
length-slots [] = refl
length-slots (c ∷ cs) = omega (arith, length-slots cs)

pub length-leaf_top : (L : ℕ) (q : LeafPage) → length (leaf_top L q) ≡ 12 + 2 * length q.cells
unfolding leaf_top bytes16
length-leaf_top L q = omega (arith, length-slots q.cells)

top_reads : (L : ℕ) (q : LeafPage) → let p = pad L (leaf_top L q) in
    (word16 p 2 ≡ length q.cells) × ((word16 p 4 ≡ q.start) × ((word16 p 8 ≡ q.next) × ((word16 p 10 ≡ q.prev)
    × ((z : List ℕ) × (drop 12 p ≡ gather slot_bytes q.cells ++ z)))))
unfolding leaf_top pad bytes16 word16
top_reads L q = (omega arith, (omega arith, (omega arith, (omega arith, (_, refl)))))

pub length-to_leaf : (L : ℕ) (q : LeafPage) → 12 + 2 * length q.cells ≤ L → length (to_leaf L q) ≡ L
unfolding to_leaf
length-to_leaf L q h = length-with_cells q.cells _ ∙ length-pad L (leaf_top L q) (rw length-leaf_top h)

pub of_leaf-to_leaf : (L : ℕ) (q : LeafPage) → GoodLeaf L q → of_leaf L (to_leaf L q) ≡ q
unfolding of_leaf to_leaf
of_leaf-to_leaf L q g =
    let top : List ℕ = pad L (leaf_top L q) in
    let page : List ℕ = with_cells q.cells top in
    let same : (j : ℕ) → j + 2 ≤ q.start → word16 page j ≡ word16 top j = λ j h. word16-with_cells top j (clear-below j 2 h g.cells) in
    let l : length top ≡ L = length-pad L (leaf_top L q) (rw length-leaf_top (omega arith)) in
    let t = top_reads L q in
    let n : word16 page 2 ≡ length q.cells = same 2 (omega arith) ∙ t.0 in
    let a : word16 page 4 ≡ q.start = same 4 (omega arith) ∙ t.1.0 in
    let b : word16 page 8 ≡ q.next = same 8 (omega arith) ∙ t.1.1.0 in
    let c : word16 page 10 ≡ q.prev = same 10 (omega arith) ∙ t.1.1.1.0 in
    let m : min (L / 2) (word16 page 2) ≡ length q.cells = omega arith in
    let d : map (slot_of page) (from 0 (min (L / 2) (word16 page 2))) ≡ q.cells =
    rw m (map-from (cells-read L q.start page top same top 0 t.1.1.1.1.0 l refl g.cells t.1.1.1.1.1 (omega arith))) in
    λ i. record { start = a i; next = b i; prev = c i; cells = d i }
