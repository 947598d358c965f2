-- What `valid` says of a store, clause by clause, and that the tree of a valid store is sound: each clause is a test of every node.
use mathlib.Core.Path.{◌≡◌, refl, sym, ◌∙◌}
use mathlib.Core.Bool.{Bool, true, false, ◌||◌, and-eq-true_iff}
use mathlib.Core.List.{List, [], ◌∷◌, map}
use mathlib.Core.Logic.{◌⊎◌, inl, inr}
use Prim.Native.Nat.{ℕ, zero, suc, ◌+◌, ◌*◌, ◌≤◌}
use native.Mathlib.Omega.{arith}
use lib.ListN.{length, length-map}
use lib.Dec.{leb}
use borrow.Author.Tests.{leb-true, le-leb, eqb-true}
use Rattle.model.specs.Lists.{every}
use Rattle.model.specs.Edition.{Edition}
use Rattle.model.specs.Types.{Cell, Leaf, Sep, Inner, Tree, Store, met}
use Rattle.model.specs.Sizes.{key_most, inner_least, inner_most, cell_length}
use Rattle.model.specs.Image.{cell_bytes, placed, leaf_page}
use Rattle.model.specs.Accept.{every_child, throughout, key_fits, cell_fits, lengths_fit, inside, apart, all_apart, cells_placed, leaves_placed, all_rising, all_bounded, full, full_below, once_each, valid}
use Rattle.model.proofs.Tests.{between_iff}
use Rattle.model.proofs.Each.{All, nil, cons, all_of, every→all}
use Rattle.laws_image.proofs.LeafPages.{Sits, Clear, Cells, no_cell, a-cell, GoodLeaf}
use Rattle.laws_image.proofs.Cell.{Fine, length-cell_bytes, cell_size-cell_bytes}
use Rattle.laws_image.proofs.Tree.{SoundLeaf, SoundSep, Sound}

-- ---- the clauses

pub record Clauses (E : Edition) (s : Store) : Type 0 where
  pub pages : (2 ≤ s.n) × (s.n ≤ E.most_pages)
  pub levels : suc s.depth ≤ E.most_levels
  pub lengths : lengths_fit E.usable s.depth s.root ≡ true
  pub placed : leaves_placed E.usable s.depth s.root ≡ true
  pub rising : all_rising s.depth s.root ≡ true
  pub bounded : all_bounded s.depth s.root ≡ true
  pub full : full_below s.depth s.root ≡ true
  pub once : once_each s.n (met s) ≡ true

pub clauses : (E : Edition) (s : Store) → valid E s ≡ true → Clauses E s
unfolding valid
clauses E s t =
    let k = simp and-eq-true_iff at t in
    record {
      pages = (between_iff 2 E.most_pages s.n).0 k.0.0.0.0.0.0.0;
      levels = leb-true _ _ k.0.0.0.0.0.0.1;
      lengths = k.0.0.0.0.0.1;
      placed = k.0.0.0.0.1;
      rising = k.0.0.0.1;
      bounded = k.0.0.1;
      full = k.0.1;
      once = k.1;
    }

pub valid-clauses : (E : Edition) (s : Store) → Clauses E s → valid E s ≡ true
unfolding valid
valid-clauses E s k =
    let a = (between_iff 2 E.most_pages s.n).1 k.pages in
    let b = le-leb _ _ k.levels in
    simp and-eq-true_iff (((((((a, b), k.lengths), k.placed), k.rising), k.bounded), k.full), k.once)

-- ---- a leaf
-- Its cells lie inside and apart, and have the lengths that they should have.

long : (c : Cell) → 3 ≤ cell_length c
unfolding cell_length
long c = omega arith

sits : (L start : ℕ) (c : Cell) → inside start L c ≡ true → Sits L start (placed c)
unfolding inside placed
sits L start c t =
    let k = simp and-eq-true_iff at t in
    let n = length-cell_bytes c in
    let h : c.at + cell_length c ≤ L = leb-true _ _ k.1 in
    record { low = leb-true _ _ k.0; high = omega arith; some = omega (arith, long c); size = cell_size-cell_bytes c ∙ sym n }

one_side : (a : Bool) (i j k l : ℕ) → leb i j ≡ a → a || leb k l ≡ true → (i ≤ j) ⊎ (k ≤ l)
one_side true i j k l p t = inl (leb-true _ _ p)
one_side false i j k l p t = inr (leb-true _ _ t)

apart-placed : (c x : Cell) → apart c x ≡ true
    → (c.at + length (cell_bytes c) ≤ x.at) ⊎ (x.at + length (cell_bytes x) ≤ c.at)
unfolding apart
apart-placed c x t = rw (length-cell_bytes c, length-cell_bytes x) (one_side _ _ _ _ _ refl t)

clear : (c : Cell) (cs : List Cell) → every (apart c) cs ≡ true → Clear c.at (length (cell_bytes c)) (map placed cs)
unfolding every placed
clear c [] t = nil
clear c (x ∷ cs) t = let k = simp and-eq-true_iff at t in cons (apart-placed c x k.0) (clear c cs k.1)

all_sit : (L start : ℕ) (cs : List Cell) → every (inside start L) cs ≡ true → all_apart cs ≡ true → Cells L start (map placed cs)
unfolding every all_apart placed
all_sit L start [] t u = no_cell
all_sit L start (c ∷ cs) t u =
    let k = simp and-eq-true_iff at t in
    let m = simp and-eq-true_iff at u in
    a-cell (sits L start c k.0) (clear c cs m.0) (all_sit L start cs k.1 m.1)

fine : (L : ℕ) (c : Cell) → cell_fits L c ≡ true → Fine L c
unfolding cell_fits
fine L c t = let k = simp and-eq-true_iff at t in record { value = leb-true _ _ k.0.1; chain = eqb-true _ _ k.1 }

good-leaf : (L : ℕ) (l : Leaf) (prev next : ℕ) → cells_placed L l ≡ true → GoodLeaf L (leaf_page prev next l)
unfolding cells_placed leaf_page
good-leaf L l prev next t =
    let k = simp and-eq-true_iff at t in
    let b = (between_iff (12 + 2 * length l.cells) L l.start).0 k.1 in
    record { slots = omega (arith, length-map l.cells placed); start = b.1; cells = all_sit L l.start l.cells k.0.0 k.0.1 }

-- ---- a tree
-- Each of the clauses holds of every node, so a tree is sound by induction on the level.

pub throughout-inner : (leaf : Leaf → Bool) (inner : (h : ℕ) → Inner (Tree h) → Bool) (h : ℕ) (t : Inner (Tree h))
    → throughout leaf inner (suc h) t ≡ true → (inner h t ≡ true) × (every_child (throughout leaf inner h) t ≡ true)
unfolding throughout
throughout-inner leaf inner h t e = let k = simp and-eq-true_iff at e in k

pub children : {A : Type 0} (f : A → Bool) (t : Inner A) → every_child f t ≡ true → (f t.first ≡ true) × (every (λ s. f s.child) t.rest ≡ true)
unfolding every_child
children f t e = let k = simp and-eq-true_iff at e in k

short : (k : List ℕ) → key_fits k ≡ true → length k ≤ key_most
unfolding key_fits
short k t = ((between_iff 1 key_most (length k)).0 t).1

module _ (L : ℕ) where
  sound-leaf : (t : Leaf) → lengths_fit L 0 t ≡ true → leaves_placed L 0 t ≡ true → SoundLeaf L t
  unfolding lengths_fit leaves_placed throughout
  sound-leaf t a b =
      let k = simp and-eq-true_iff at a in
      record { page = λ prev next. good-leaf L t prev next b; cells = all_of (fine L) (every→all (cell_fits L) t.cells k.0) }

  lengths-inner : (h : ℕ) (t : Inner (Tree h)) → lengths_fit L (suc h) t ≡ true
      → (every (λ s. key_fits s.key) t.rest ≡ true) × (every_child (lengths_fit L h) t ≡ true)
  unfolding lengths_fit
  lengths-inner h t e = throughout-inner _ _ h t e

  placed-inner : (h : ℕ) (t : Inner (Tree h)) → leaves_placed L (suc h) t ≡ true → every_child (leaves_placed L h) t ≡ true
  unfolding leaves_placed
  placed-inner h t e = (throughout-inner _ _ h t e).1

  full-inner : (h : ℕ) (t : Inner (Tree h)) → full (suc h) t ≡ true → (length t.rest ≤ inner_most) × (every_child (full h) t ≡ true)
  unfolding full
  full-inner h t e = let k = throughout-inner _ _ h t e in (((between_iff inner_least inner_most (length t.rest)).0 k.0).1, k.1)

  module _ (h : ℕ) (below : (x : Tree h) → lengths_fit L h x ≡ true → leaves_placed L h x ≡ true → full h x ≡ true → Sound L h x) where
    seps-sound : (ss : List (Sep (Tree h))) → every (λ s. key_fits s.key) ss ≡ true → every (λ s. lengths_fit L h s.child) ss ≡ true
        → every (λ s. leaves_placed L h s.child) ss ≡ true → every (λ s. full h s.child) ss ≡ true → All (SoundSep (Sound L h)) ss
    unfolding every
    seps-sound [] a b c d = nil
    seps-sound (s ∷ ss) a b c d =
        let i = simp and-eq-true_iff at a in
        let j = simp and-eq-true_iff at b in
        let k = simp and-eq-true_iff at c in
        let l = simp and-eq-true_iff at d in
        cons (record { short = short s.key i.0; child = below s.child j.0 k.0 l.0 }) (seps-sound ss i.1 j.1 k.1 l.1)

    sound-inner : (t : Inner (Tree h)) → lengths_fit L (suc h) t ≡ true → leaves_placed L (suc h) t ≡ true → length t.rest ≤ inner_most
        → every_child (full h) t ≡ true → Sound L (suc h) t
    sound-inner t a b few d =
        let i = lengths-inner h t a in
        let j = children (lengths_fit L h) t i.1 in
        let k = children (leaves_placed L h) t (placed-inner h t b) in
        let l = children (full h) t d in
        (few, (below t.first j.0 k.0 l.0, seps-sound t.rest i.0 j.1 k.1 l.1))

  sound-below : (h : ℕ) (t : Tree h) → lengths_fit L h t ≡ true → leaves_placed L h t ≡ true → full h t ≡ true → Sound L h t
  sound-below zero t a b d = sound-leaf t a b
  sound-below (suc h) t a b d = let k = full-inner h t d in sound-inner h (sound-below h) t a b k.0 k.1

  full-root : (h : ℕ) (t : Inner (Tree h)) → full_below (suc h) t ≡ true → (length t.rest ≤ inner_most) × (every_child (full h) t ≡ true)
  unfolding full_below
  full-root h t e = let k = simp and-eq-true_iff at e in (((between_iff 1 inner_most (length t.rest)).0 k.0).1, k.1)

  sound-root : (h : ℕ) (t : Tree h) → lengths_fit L h t ≡ true → leaves_placed L h t ≡ true → full_below h t ≡ true → Sound L h t
  sound-root zero t a b d = sound-leaf t a b
  sound-root (suc h) t a b d = let k = full-root h t d in sound-inner h (sound-below h) t a b k.0 k.1

pub sound : (E : Edition) (s : Store) → valid E s ≡ true → Sound E.usable s.depth s.root
sound E s t = let k = clauses E s t in sound-root E.usable s.depth s.root k.lengths k.placed k.full
