-- A cell's chain is as long as the cell says its value is, so a cell is walked through exactly if it is written again as it was read, its chain
-- stands and fits, and the chain's pages are marked; and so a leaf's cells.
use mathlib.Core.Path.{◌≡◌, refl, sym, ap, ◌∙◌}
use mathlib.Core.Bool.{true, false, true≢false}
use mathlib.Core.List.{List, [], ◌∷◌, ◌++◌, map}
use mathlib.Core.Option.{some}
use Prim.Native.Nat.{ℕ, zero, suc, ◌+◌, ◌*◌, ◌≤◌, min}
use native.Mathlib.Omega.{arith}
use lib.ListN.{length, get_or, drop}
use lib.Seq.{drop-drop}
use lib.Dec.{leb}
use borrow.Author.Tests.{leb-false}
use Rattle.octets.specs.Numbers.{word16, bytes16}
use Rattle.octets.proofs.Choice.{choose-true, choose-false}
use Rattle.model.specs.Lists.{gather}
use Rattle.model.specs.Types.{Cell, Mark, marked}
use Rattle.model.specs.Sizes.{inline_most, payload, chain_most, value_most, chain_length}
use Rattle.model.specs.Layouts.{Placed}
use Rattle.model.specs.Image.{cell_bytes, placed, chain_pages}
use Rattle.model.specs.Decode.{chain_from, held_by, cell_from, cell_of}
use Rattle.model.proofs.Lists.{map-append}
use Rattle.laws_image.proofs.LeafPages.{Sits, Cells, a-cell}
use Rattle.laws_image.proofs.Standing.{Standing}
use Rattle.laws_image.proofs.Cell.{chain_length-short, chain-holds, chain_needs, chain-most}
use Rattle.laws_image.proofs.Again.{ChainStands, standing-chain, chain-standing, placed-cell_of}
use Rattle.laws_size.proofs.Full.{CellFit}
use Rattle.checking.specs.Alone.{value_length}
use Rattle.checking.specs.Walk.{chain_walk, cell_walk, cells_walk}
use Rattle.checking.proofs.Small.{Small}
use Rattle.checking.proofs.Steps.{then_some, some_then}
use Rattle.checking.proofs.Marking.{marking, marking-none, marks-join, marks-part}
use Rattle.checking.proofs.Alone.{Limits}
use Rattle.checking.proofs.Chains.{Chained, chain-sound, chain-whole}
use Rattle.laws_image.proofs.Sundry.{word16-drop}
use Rattle.model.proofs.Each.{All, nil, cons}
use Rattle.model.proofs.Tests.{cases}

-- ---- what a cell's bytes say

key-said : (c : Cell) → get_or (cell_bytes c) 0 0 ≡ length c.key
unfolding cell_bytes
key-said c = refl

value-said : (c : Cell) → word16 (cell_bytes c) 1 ≡ length c.value
unfolding cell_bytes word16 bytes16
value-said c = omega arith

bytes-placed : (c : Cell) (d : Placed) → placed c ≡ d → cell_bytes c ≡ d.bytes
unfolding placed
bytes-placed c d e = ap (λ (q : Placed). q.bytes) e

pub key-length : (c : Cell) (d : Placed) → placed c ≡ d → get_or d.bytes 0 0 ≡ length c.key
key-length c d e = rw (← bytes-placed c d e) (key-said c)

pub value-length : (c : Cell) (d : Placed) → placed c ≡ d → word16 d.bytes 1 ≡ length c.value
value-length c d e = rw (← bytes-placed c d e) (value-said c)

pub limits : (L : ℕ) (c : Cell) (d : Placed) → placed c ≡ d → CellFit L c → Limits L d.bytes
unfolding value_length
limits L c d e f =
    record {
      some = omega (arith, key-length c d e, f.key.some);
      few = omega (arith, key-length c d e, f.key.few);
      value = omega (arith, value-length c d e, f.value);
    }

-- a cell that is written again as it was read, whose chain stands and fits
pub record CellStands (L : ℕ) (ps : List (List ℕ)) (c : Placed) : Type 0 where
  pub again : placed (cell_of L ps c) ≡ c
  pub chain : Standing ps (chain_pages L (cell_of L ps c).chain (cell_of L ps c).value)
  pub fit : CellFit L (cell_of L ps c)

-- the marks of the cells' chains
abbrev pub chain_marks : ℕ → List (List ℕ) → List Placed → List Mark
chain_marks L ps cs = map (marked 3) (gather (λ c. c.chain) (map (cell_of L ps) cs))

module _ (L : ℕ) (room : 9 ≤ L) (n : ℕ) (ps : List (List ℕ)) where
  -- ---- a cell as it is read

  abbrev read : Placed → Cell
  read c = cell_of L ps c

  -- where its chain begins
  abbrev first : List ℕ → ℕ
  first b = word16 b (3 + get_or b 0 0)

  first_read : (b : List ℕ) → word16 (drop (get_or b 0 0) (drop 3 b)) 0 ≡ first b
  first_read b =
      let k = get_or b 0 0 in
      let e : 3 + k + 0 ≡ 3 + k = omega arith in
      ap (λ (l : List ℕ). word16 l 0) (drop-drop k 3 b) ∙ word16-drop b (3 + k) 0 ∙ rw e

  chain-read : (c : Placed) → word16 c.bytes 1 ≤ value_most L → (read c).chain ≡ chain_from ps (chain_length L (word16 c.bytes 1)) (first c.bytes)
  unfolding cell_of cell_from
  chain-read c h =
      let v = word16 c.bytes 1 in
      let m : min chain_most (chain_length L v) ≡ chain_length L v = omega (arith, chain-most L room v h) in
      ap (λ (k : ℕ). chain_from ps k (word16 (drop (get_or c.bytes 0 0) (drop 3 c.bytes)) 0)) m ∙ ap (chain_from ps (chain_length L v)) (first_read c.bytes)

  value_read : (c : Placed) → leb (word16 c.bytes 1) inline_most ≡ false → (read c).value ≡ held_by ps (read c).chain
  unfolding cell_of cell_from
  value_read c t = choose-false _ _ _ t

  length-chain : (k p : ℕ) → length (chain_from ps k p) ≡ k
  unfolding chain_from
  length-chain zero p = refl
  length-chain (suc k) p = ap suc (length-chain k _)

  chain_zero : (p : ℕ) → chain_from ps 0 p ≡ []
  unfolding chain_from
  chain_zero p = refl

  fits : (c : Placed) → placed (read c) ≡ c → Limits L c.bytes → CellFit L (read c)
  unfolding value_length
  fits c e l =
      let v = value-length (read c) c e in
      let k = key-length (read c) c e in
      record {
        key = record { some = omega (arith, l.some); few = omega (arith, l.few) };
        value = omega (arith, l.value);
        chain = ap length (chain-read c l.value) ∙ length-chain _ _ ∙ ap (chain_length L) v;
      }

  -- ---- a chain
  -- A value that is not in its cell has some pages, and none to spare.

  enough : 8 ≤ L
  enough = omega arith

  chained : (k v p : ℕ) (work met : List ℕ) → chain_length L v ≡ k → v ≤ k * payload L → 1 ≤ v → chain_walk L n ps k v p work ≡ some met
      → Chained L n ps k v p work met
  chained zero v p work met e h s w = absurd (omega arith)
  chained (suc k) v p work met e h s w = chain-sound L enough n ps k v p work met (chain_needs L room v k e) w

  stood : (k v p : ℕ) → chain_length L v ≡ k → v ≤ k * payload L → 1 ≤ v → length (held_by ps (chain_from ps k p)) ≡ v
      → Standing ps (chain_pages L (chain_from ps k p) (held_by ps (chain_from ps k p))) → ChainStands L ps k p
  stood zero v p e h s b g = absurd (omega arith)
  stood (suc k) v p e h s b g = chain-standing L ps k p (omega (arith, chain_needs L room v k e, b)) g

  none-stand : (v : List ℕ) → Standing ps (chain_pages L [] v)
  unfolding chain_pages
  none-stand v = nil

  -- ---- a cell that is walked through

  module _ (c : Placed) (work met : List ℕ) where
    abbrev v : ℕ
    v = word16 c.bytes 1

    abbrev chain_of : List ℕ
    chain_of = chain_from ps (chain_length L v) (first c.bytes)

    walk-short : leb v inline_most ≡ true → cell_walk L n ps c.bytes work ≡ some work
    unfolding cell_walk value_length
    walk-short t = choose-true _ _ _ t

    walk-long : leb v inline_most ≡ false → cell_walk L n ps c.bytes work ≡ chain_walk L n ps (chain_length L v) v (first c.bytes) work
    unfolding cell_walk value_length
    walk-long t = choose-false _ _ _ t

    short-chain : leb v inline_most ≡ true → v ≤ value_most L → (read c).chain ≡ []
    short-chain t h = chain-read c h ∙ ap (λ (k : ℕ). chain_from ps k (first c.bytes)) (chain_length-short L v t) ∙ chain_zero _

    short-marks : leb v inline_most ≡ true → v ≤ value_most L → marking n (map (marked 3) (read c).chain) work ≡ some work
    short-marks t h = rw (short-chain t h) (marking-none n work)

    long-some : leb v inline_most ≡ false → 1 ≤ v
    long-some t = omega (arith, leb-false v inline_most t)

    pub cell-sound : {s : ℕ} → Small c.bytes → Sits L s c → Limits L c.bytes → cell_walk L n ps c.bytes work ≡ some met
        → CellStands L ps c × (marking n (map (marked 3) (cell_of L ps c).chain) work ≡ some met)
    cell-sound small sits l e =
        let h : v ≤ value_most L = unfold value_length in l.value in
        cases (leb v inline_most)
        (λ t. let a = placed-cell_of L room ps c small (sym sits.size) (λ f. absurd (true≢false (sym t ∙ f))) in
        (record { again = a; chain = rw (short-chain t h) (none-stand _); fit = fits c a l }, short-marks t h ∙ sym (walk-short t) ∙ e))
        (λ t. let k = chained (chain_length L v) v (first c.bytes) work met refl (chain-holds L room v t) (long-some t) (sym (walk-long t) ∙ e) in
        let b : length (read c).value ≡ v = ap length (value_read c t) ∙ ap (λ (q : List ℕ). length (held_by ps q)) (chain-read c h) ∙ k.holds in
        let a = placed-cell_of L room ps c small (sym sits.size) (λ f. b) in
        (record { again = a; chain = rw (value_read c t, chain-read c h) (standing-chain L ps k.stands); fit = fits c a l }, rw (chain-read c h) k.marks))

    pub cell-whole : CellStands L ps c → marking n (map (marked 3) (cell_of L ps c).chain) work ≡ some met → cell_walk L n ps c.bytes work ≡ some met
    cell-whole k m =
        let e : v ≡ length (read c).value = value-length (read c) c k.again in
        let h : v ≤ value_most L = omega (arith, k.fit.value) in
        cases (leb v inline_most)
        (λ t. walk-short t ∙ sym (short-marks t h) ∙ m)
        (λ t. let b : length (held_by ps chain_of) ≡ v =
        sym (e ∙ ap length (value_read c t) ∙ ap (λ (q : List ℕ). length (held_by ps q)) (chain-read c h)) in
        let s = stood (chain_length L v) v (first c.bytes) refl (chain-holds L room v t) (long-some t) b (rw (value_read c t, chain-read c h) at k.chain) in
        walk-long t ∙ chain-whole L enough n ps s v work met b (rw (chain-read c h) at m))

  -- ---- the cells of a leaf

  marks-more : (c : Placed) (cs : List Placed) → chain_marks L ps (c ∷ cs) ≡ map (marked 3) (read c).chain ++ chain_marks L ps cs
  unfolding gather
  marks-more c cs = map-append (marked 3) (read c).chain _

  marks-none : chain_marks L ps [] ≡ []
  unfolding gather
  marks-none = refl

  pub cells-sound : {s : ℕ} {cs : List Placed} (work met : List ℕ) → All (λ c. Small c.bytes) cs → Cells L s cs
      → All (λ c. Limits L c.bytes) cs → cells_walk L n ps cs work ≡ some met → All (CellStands L ps) cs × (marking n (chain_marks L ps cs) work ≡ some met)
  unfolding cells_walk
  cells-sound work met nil g nil e = (nil, rw marks-none (marking-none n work ∙ e))
  cells-sound work met (cons {x = c} {xs = cs} b bs) (a-cell f o fs) (cons l ls) e =
      let k = some_then (cell_walk L n ps c.bytes work) (cells_walk L n ps cs) met e in
      let a = cell-sound c work k.0 b f l k.1.0 in
      let r = cells-sound k.0 met bs fs ls k.1.1 in
      (cons a.0 r.0, rw (marks-more c cs) (marks-join n work (map (marked 3) (read c).chain) (chain_marks L ps cs) a.1 r.1))

  pub cells_whole : {cs : List Placed} (work met : List ℕ) → All (CellStands L ps) cs → marking n (chain_marks L ps cs) work ≡ some met
      → cells_walk L n ps cs work ≡ some met
  unfolding cells_walk
  cells_whole work met nil m = sym (marking-none n work) ∙ (rw marks-none at m)
  cells_whole work met (cons {x = c} {xs = cs} k ks) m =
      let q = marks-part n work (map (marked 3) (read c).chain) (chain_marks L ps cs) (rw (marks-more c cs) at m) in
      then_some (cell_walk L n ps c.bytes work) (cells_walk L n ps cs) (cell-whole c work q.0 k q.1.0) (cells_whole q.0 met ks q.1.1)
