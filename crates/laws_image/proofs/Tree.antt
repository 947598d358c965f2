-- Each node is read back from its page, and its children by their numbers in it: so a tree is read back where its pages stand, by induction on the level.
use mathlib.Core.Path.{◌≡◌, refl, ap, ◌∙◌}
use mathlib.Core.List.{List, [], ◌∷◌, map}
use Prim.Native.Nat.{ℕ, zero, suc, ◌≤◌}
use native.Mathlib.Omega.{arith}
use lib.ListN.{length, get_or, length-map}
use Rattle.model.specs.Lists.{gather}
use Rattle.model.specs.Edition.{Edition}
use Rattle.model.specs.Types.{Cell, Leaf, Sep, Inner, Tree, page_of}
use Rattle.model.specs.Sizes.{key_most, inner_most}
use Rattle.model.specs.Layouts.{to_leaf, to_inner, of_inner, of_leaf}
use Rattle.model.specs.Image.{Page, chain_pages, numbered, first_leaf, last_leaf, linked, tree_pages, placed, leaf_page, inner_page}
use Rattle.model.specs.Decode.{reach, inner_of, cell_of, leaf_of, tree_at}
use Rattle.model.proofs.Each.{All, nil, cons, all_cons, all-parts}
use Rattle.laws_image.proofs.Standing.{Standing}
use Rattle.laws_image.proofs.LeafPages.{GoodLeaf, of_leaf-to_leaf}
use Rattle.laws_image.proofs.Layouts.{ShortKeys, of_inner-to_inner}
use Rattle.laws_image.proofs.Cell.{Fine, cell_of-placed}

-- ---- sound trees
-- What has to hold of a tree's nodes that their pages can be read back.

pub record SoundLeaf (L : ℕ) (l : Leaf) : Type 0 where
  pub page : (prev next : ℕ) → GoodLeaf L (leaf_page prev next l)
  pub cells : All (Fine L) l.cells

pub record SoundSep {A : Type 0} (P : A → Type 0) (s : Sep A) : Type 0 where
  pub short : length s.key ≤ key_most
  pub child : P s.child

abbrev pub Sound : (L h : ℕ) → Tree h → Type 0
Sound L zero t = SoundLeaf L t
Sound L (suc h) t = (length t.rest ≤ inner_most) × (Sound L h t.first × All (SoundSep (Sound L h)) t.rest)

-- ---- an inner node

short-numbered : (h : ℕ) {P : Tree h → Type 0} {ss : List (Sep (Tree h))} → All (SoundSep P) ss → ShortKeys (map (numbered h) ss)
unfolding numbered
short-numbered h nil = nil
short-numbered h (cons k ks) = cons k.short (short-numbered h ks)

pub short-keys : (h : ℕ) {P : Tree h → Type 0} (t : Inner (Tree h)) → All (SoundSep P) t.rest → ShortKeys (inner_page h t).rest
unfolding inner_page
short-keys h t ks = short-numbered h ks

pub few-records : (h : ℕ) (t : Inner (Tree h)) → length t.rest ≤ inner_most → length (inner_page h t).rest ≤ inner_most
unfolding inner_page
few-records h t k = omega (arith, length-map t.rest (numbered h))

-- the children to the right of separators are read back
abbrev Kids : (h : ℕ) → (ℕ → Tree h) → List (Sep (Tree h)) → Type 0
Kids h at ss = All (λ s. at (page_of h s.child) ≡ s.child) ss

reach-numbered : (h : ℕ) (at : ℕ → Tree h) {ss : List (Sep (Tree h))} → Kids h at ss → map (reach at) (map (numbered h) ss) ≡ ss
unfolding numbered reach
reach-numbered h at nil = refl
reach-numbered h at (cons c ks) = rw (c, reach-numbered h at ks)

inner_of-inner_page : (h : ℕ) (at : ℕ → Tree h) (t : Inner (Tree h)) → at (page_of h t.first) ≡ t.first → Kids h at t.rest
    → inner_of at t.page (inner_page h t) ≡ t
unfolding inner_of inner_page
inner_of-inner_page h at t f ks = let e = reach-numbered h at ks in λ i. record { page = t.page; first = f i; rest = e i }

kids-read : (ps : List (List ℕ)) (h : ℕ) (at : ℕ → Tree h) (first last : Tree h → ℕ) (m : ℕ → ℕ → Tree h → List Page) (P : Tree h → Type 0)
    → ((prev next : ℕ) (x : Tree h) → P x → Standing ps (m prev next x) → at (page_of h x) ≡ x)
    → (prev next : ℕ) (a : Tree h) {ss : List (Sep (Tree h))} → P a → All (SoundSep P) ss → Standing ps (linked first last m prev next a ss)
    → (at (page_of h a) ≡ a) × Kids h at ss
unfolding linked
kids-read ps h at first last m P f prev next a p nil g = (f prev next a p g, nil)
kids-read ps h at first last m P f prev next a p (cons {x = s} k ks) g =
    let gs = all-parts (m prev (first s.child) a) g in
    let r = kids-read ps h at first last m P f (last a) next s.child k.child ks gs.1 in
    (f prev (first s.child) a p gs.0, cons r.0 r.1)

-- ---- the tree

pub tree_pages-leaf : (E : Edition) (prev next : ℕ) (t : Leaf) → tree_pages E 0 prev next t
    ≡ record { number = t.page; bytes = to_leaf E.usable (leaf_page (E.back prev) next t) }
    ∷ gather (λ c. chain_pages E.usable c.chain c.value) t.cells
unfolding tree_pages
tree_pages-leaf E prev next t = refl

pub tree_pages-inner : (E : Edition) (h prev next : ℕ) (t : Inner (Tree h)) → tree_pages E (suc h) prev next t
    ≡ record { number = t.page; bytes = to_inner E.usable (inner_page h t) }
    ∷ linked (first_leaf h) (last_leaf h) (tree_pages E h) prev next t.first t.rest
unfolding tree_pages
tree_pages-inner E h prev next t = refl

pub tree_at-inner : (L : ℕ) (ps : List (List ℕ)) (h p : ℕ) → tree_at L ps (suc h) p ≡ inner_of (tree_at L ps h) p (of_inner (get_or ps p []))
unfolding tree_at
tree_at-inner L ps h p = refl

page_of-inner : (h : ℕ) (t : Inner (Tree h)) → page_of (suc h) t ≡ t.page
unfolding page_of
page_of-inner h t = refl

module _ (E : Edition) (room : 9 ≤ E.usable) (ps : List (List ℕ)) where
  abbrev L : ℕ
  L = E.usable

  cells-read : {cs : List Cell} → All (Fine L) cs → Standing ps (gather (λ c. chain_pages L c.chain c.value) cs)
      → map (cell_of L ps) (map placed cs) ≡ cs
  unfolding gather
  cells-read nil g = refl
  cells-read (cons {x = c} f fs) g =
      let gs = all-parts (chain_pages L c.chain c.value) g in
      rw (cell_of-placed L room ps c f gs.0, cells-read fs gs.1)

  leaf-read : (prev next : ℕ) (t : Leaf) → SoundLeaf L t → Standing ps (tree_pages E 0 prev next t) → tree_at L ps 0 (page_of 0 t) ≡ t
  unfolding tree_at page_of leaf_of leaf_page
  leaf-read prev next t o g =
      let q = all_cons (rw tree_pages-leaf at g) in
      let e = cells-read o.cells q.1 in
      ap (λ (b : List ℕ). leaf_of L ps t.page (of_leaf L b)) q.0
      ∙ ap (leaf_of L ps t.page) (of_leaf-to_leaf L (leaf_page (E.back prev) next t) (o.page (E.back prev) next))
      ∙ (λ i. record { page = t.page; start = t.start; cells = e i })

  pub tree_at-standing : (h prev next : ℕ) (t : Tree h) → Sound L h t → Standing ps (tree_pages E h prev next t) → tree_at L ps h (page_of h t) ≡ t
  tree_at-standing zero prev next t o g = leaf-read prev next t o g
  tree_at-standing (suc h) prev next t o g =
      let q = all_cons (rw tree_pages-inner at g) in
      let r = kids-read ps h (tree_at L ps h) (first_leaf h) (last_leaf h) (tree_pages E h) (Sound L h) (tree_at-standing h)
      prev next t.first o.1.0 o.1.1 q.1 in
      ap (tree_at L ps (suc h)) (page_of-inner h t) ∙ tree_at-inner L ps h t.page
      ∙ ap (inner_of (tree_at L ps h) t.page) (ap of_inner q.0 ∙ of_inner-to_inner L (inner_page h t) (short-keys h t o.1.1) (few-records h t o.0))
      ∙ inner_of-inner_page h (tree_at L ps h) t r.0 r.1
