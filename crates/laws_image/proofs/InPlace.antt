-- A leaf's page stands in the image and its cells stand apart in the page, so each cell's bytes stand in the image, and an inline value with them.
use mathlib.Core.Path.{◌≡◌, refl, sym, ap, ◌∙◌}
use mathlib.Core.Bool.{true}
use mathlib.Core.List.{List, [], ◌∷◌, ◌++◌}
use Prim.Native.Nat.{ℕ, zero, suc, ◌+◌, ◌*◌, ◌≤◌, ◌<◌}
use native.Mathlib.Nat.{mul-le-mul_right}
use native.Mathlib.Omega.{arith}
use lib.ListN.{length, get_or, take, drop, length-map, get_or-eq_default}
use lib.Dec.{leb, ltb}
use borrow.Author.Tests.{ltb-true, ltb-false}
use Rattle.octets.specs.Runs.{over, part}
use Rattle.octets.specs.Numbers.{bytes16}
use Rattle.octets.proofs.Choice.{choose-true}
use Rattle.octets.proofs.Over.{length_over}
use Rattle.octets.proofs.Part.{part-here, part-part, part-second}
use Rattle.model.specs.Lists.{gather, head_or}
use Rattle.model.specs.Edition.{Edition}
use Rattle.model.specs.Types.{Cell, Leaf, Sep, Tree, across, leaves}
use Rattle.model.specs.Sizes.{inline_most, cell_length}
use Rattle.model.specs.Layouts.{Placed, LeafPage, leaf_top, with_cells, to_leaf}
use Rattle.model.specs.Image.{Page, cell_bytes, placed, leaf_page, first_leaf, last_leaf, linked, tree_pages}
use Rattle.model.specs.Decode.{cut, decode}
use Rattle.model.specs.Accept.{accepts}
use Rattle.model.proofs.Editions.{Lawful}
use Rattle.model.proofs.Tests.{cases}
use Rattle.model.proofs.Each.{All, nil, cons, all_cons, all_append, all-parts, all_of, all_of_map}
use Rattle.model.proofs.Lists.{length-pad}
use Rattle.laws_image.proofs.LeafPages.{Cells, no_cell, a-cell, GoodLeaf, part-with_cells, length-leaf_top, length-to_leaf}
use Rattle.laws_image.proofs.Standing.{Standing}
use Rattle.laws_image.proofs.Cell.{length-cell_bytes}
use Rattle.laws_image.proofs.Tree.{SoundLeaf, SoundSep, Sound, tree_pages-leaf, tree_pages-inner}
use Rattle.laws_image.proofs.Valid.{sound}
use Rattle.laws_image.proofs.Whole.{pages_iff}
use Rattle.laws_image.proofs.ByPages.{size, cut_pages, open_pages, usable-width, get_or-open_pages, pages-accepted}

-- ---- in a page
-- What is written after a cell leaves it.

pub record Stands (L : ℕ) (page : List ℕ) (at : ℕ) (bytes : List ℕ) : Type 0 where
  pub within : at + length bytes ≤ L
  pub there : part page at (length bytes) ≡ bytes

cells-stand : {L start : ℕ} {cs : List Placed} (page : List ℕ) → length page ≡ L → Cells L start cs → All (λ c. Stands L (with_cells cs page) c.at c.bytes) cs
unfolding with_cells
cells-stand page e no_cell = nil
cells-stand {L} page e (a-cell {c} {cs} f o fs) =
    let after : List ℕ = over page c.at c.bytes in
    let l : length after ≡ L = length_over page c.at c.bytes ∙ e in
    let fits : c.at + length c.bytes ≤ L = f.high in
    cons (record { within = fits; there = part-with_cells after c.at (length c.bytes) (omega arith) o ∙ part-here page c.at c.bytes (omega arith) })
    (cells-stand after l fs)

leaf-stands : (L : ℕ) (q : LeafPage) → GoodLeaf L q → All (λ c. Stands L (to_leaf L q) c.at c.bytes) q.cells
unfolding to_leaf
leaf-stands L q g = cells-stand _ (length-pad L (leaf_top L q) (rw length-leaf_top (omega arith))) g.cells

-- ---- in a tree
-- So where its pages stand, by induction on the level.

-- the page of a leaf is long enough, and has the bytes of the leaf's cells
pub record InPlace (L : ℕ) (ps : List (List ℕ)) (l : Leaf) : Type 0 where
  pub long : length (get_or ps l.page []) ≡ L
  pub cells : All (λ c. Stands L (get_or ps l.page []) c.at (cell_bytes c)) l.cells

module _ (E : Edition) (ps : List (List ℕ)) where
  abbrev L : ℕ
  L = E.usable

  leaf-place : (prev next : ℕ) (t : Leaf) → SoundLeaf L t → Standing ps (tree_pages E 0 prev next t) → InPlace L ps t
  unfolding leaf_page placed
  leaf-place prev next t o g =
      let q = all_cons (rw tree_pages-leaf at g) in
      let page = leaf_page (E.back prev) next t in
      let good = o.page (E.back prev) next in
      record {
        long = rw q.0 (length-to_leaf L page (omega (arith, good.slots, good.start)));
        cells = rw q.0 (all_of_map _ placed t.cells (leaf-stands L page good));
      }

  kids-place : {A : Type 0} (first last : A → ℕ) (m : ℕ → ℕ → A → List Page) (P : A → Type 0) (ls : A → List Leaf)
      → ((prev next : ℕ) (x : A) → P x → Standing ps (m prev next x) → All (InPlace L ps) (ls x))
      → (prev next : ℕ) (a : A) {ss : List (Sep A)} → P a → All (SoundSep P) ss → Standing ps (linked first last m prev next a ss)
      → All (InPlace L ps) (ls a ++ gather (λ s. ls s.child) ss)
  unfolding linked gather
  kids-place first last m P ls f prev next a p nil g = all_append (f prev next a p g) nil
  kids-place first last m P ls f prev next a p (cons {x = s} k ks) g =
      let gs = all-parts (m prev (first s.child) a) g in
      all_append (f prev (first s.child) a p gs.0) (kids-place first last m P ls f (last a) next s.child k.child ks gs.1)

  leaves-place : (h prev next : ℕ) (t : Tree h) → Sound L h t → Standing ps (tree_pages E h prev next t) → All (InPlace L ps) (leaves h t)
  unfolding leaves across
  leaves-place zero prev next t o g = cons (leaf-place prev next t o g) nil
  leaves-place (suc h) prev next t o g =
      kids-place (first_leaf h) (last_leaf h) (tree_pages E h) (Sound L h) (leaves h) (leaves-place h) prev next t.first o.1.0 o.1.1
      (all_cons (rw tree_pages-inner at g)).1

-- ---- in the image
-- The page stands at its number times the width.

value-part : (c : Cell) → leb (length c.value) inline_most ≡ true → part (cell_bytes c) (3 + length c.key) (length c.value) ≡ c.value
unfolding cell_bytes bytes16
value-part c t =
    let v = length c.value in
    let lengths : List ℕ = length c.key ∷ bytes16 v ++ c.key in
    rw (choose-true (leb v inline_most) c.value (bytes16 (head_or 0 c.chain)) t) (part-second lengths c.value (3 + length c.key) v (omega arith) refl)

-- so where the cell stands, an inline value stands after the lengths and the key
pub value-stands : (img : List ℕ) (at : ℕ) (c : Cell) → leb (length c.value) inline_most ≡ true → Stands (length img) img at (cell_bytes c)
    → Stands (length img) img (at + (3 + length c.key)) c.value
unfolding cell_length
value-stands img at c t p =
    let bytes = cell_bytes c in
    let k : length bytes ≡ 3 + length c.key + length c.value =
    length-cell_bytes c ∙ ap (λ (m : ℕ). 3 + length c.key + m) (choose-true (leb (length c.value) inline_most) (length c.value) 2 t) in
    let w = p.within in
    let e = part-part img at (length bytes) (3 + length c.key) (length c.value) (omega arith) (omega arith) in
    record { within = omega arith; there = sym e ∙ rw p.there (value-part c t) }

stands_in_lem : {L : ℕ} (img page : List ℕ) (o at : ℕ) (bytes : List ℕ) → part img o L ≡ page → o + L ≤ length img → Stands L page at bytes
    → Stands (length img) img (o + at) bytes
stands_in_lem {L} img page o at bytes e h p =
    let w = p.within in
    record { within = omega arith; there = sym (part-part img o L at (length bytes) h w) ∙ rw e p.there }

length_cut : (W n : ℕ) (img : List ℕ) → length (cut W n img) ≡ n
unfolding cut
length_cut W zero img = refl
length_cut W (suc n) img = ap suc (length_cut W n (drop W img))

module _ (E : Edition) (lawful : Lawful E) (img : List ℕ) (t : accepts E img ≡ true) where
  below : (l : Leaf) → InPlace E.usable (open_pages E img) l → l.page < size E img
  below l p =
      let room = lawful.room in
      cases (ltb l.page (size E img)) (λ b. ltb-true _ _ b)
      (λ b. let h : size E img ≤ l.page = ltb-false _ _ b in
      let k : length (open_pages E img) ≤ l.page = omega (arith, length-map (cut_pages E img) (take E.usable), length_cut E.width (size E img) img) in
      absurd (omega (arith, p.long, ap length (get_or-eq_default (open_pages E img) [] k))))

  in_image : (l : Leaf) → InPlace E.usable (open_pages E img) l → All (λ c. Stands (length img) img (l.page * E.width + c.at) (cell_bytes c)) l.cells
  in_image l p =
      let b = below l p in
      let e = sym (get_or-open_pages E lawful img l.page b) in
      let k = mul-le-mul_right E.width b in
      let h : l.page * E.width + E.usable ≤ length img = omega (arith, usable-width E lawful, (pages-accepted E lawful img t).whole) in
      all_of (λ c q. stands_in_lem img _ (l.page * E.width) c.at (cell_bytes c) e h q) p.cells

  -- each cell of each leaf
  pub cells-place : let s = decode E img in All (λ l. All (λ c. Stands (length img) img (l.page * E.width + c.at) (cell_bytes c)) l.cells) (leaves s.depth s.root)
  cells-place =
      let s = decode E img in
      let b = pages-accepted E lawful img t in
      let q = (pages_iff E s (open_pages E img)).0 b.stand in
      all_of in_image (leaves-place E (open_pages E img) s.depth 0 0 s.root (sound E s b.right) q.1.0)
