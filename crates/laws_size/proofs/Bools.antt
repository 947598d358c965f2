-- The clauses of `valid` that do not speak of order hold exactly if the store is full: each test says its field.
use mathlib.Core.Path.{◌≡◌, refl, sym, ap, ◌∙◌}
use mathlib.Core.Logic.{◌↔◌}
use mathlib.Core.Bool.{Bool, true, false, ◌&&◌, ◌||◌, and-eq-true_iff}
use mathlib.Core.List.{List, [], ◌∷◌}
use Prim.Native.Nat.{ℕ, zero, suc, ◌+◌, ◌*◌, ◌≤◌}
use native.Mathlib.Omega.{arith}
use lib.Dec.{leb}
use lib.ListN.{length}
use Rattle.model.specs.Lists.{every}
use Rattle.model.specs.Types.{Cell, Leaf, Sep, Inner, Tree, Store}
use Rattle.model.specs.Sizes.{key_most, leaf_least, leaf_most, inner_least, inner_most, value_most, chain_length, cell_length, costs}
use Rattle.model.specs.Accept.{every_child, throughout, between, key_fits, cell_fits, lengths_fit, inside, apart, all_apart, cells_placed, leaves_placed, full, full_below}
use Rattle.model.specs.Refusals.{good_key, good_value}
use borrow.Author.Tests.{lt-leb}
use Rattle.model.proofs.Tests.{leb_iff, leb-not, eqb_iff, not-true, and-true, between_iff}
use Rattle.model.proofs.Each.{All, nil, cons, all_of, every_iff, Pairwise, lone, joint}
use Rattle.laws_size.proofs.Full.{KeyFit, CellFit, Inside, Apart, before, after, Placed, LeafFull, SepFull, NodeFull, Full, FullUnder, FullStore}
use Rattle.laws_size.proofs.Throughout.{Children, every_child-and, every_child_iff, throughout-and, throughout_iff}

-- ---- lengths
-- Of keys and cells.

pub key_iff : (k : List ℕ) → (key_fits k ≡ true) ↔ KeyFit k
unfolding key_fits
key_iff k =
    let r = between_iff 1 key_most (length k) in
    (λ e. let q = r.0 e in record { some = q.0; few = q.1 }, λ f. r.1 (f.some, f.few))

-- what the calls ask of a key and a value
pub good_key_iff : (k : List ℕ) → (good_key (length k) ≡ true) ↔ KeyFit k
unfolding good_key key_fits
good_key_iff k = key_iff k

pub good_value_iff : (L v : ℕ) → (good_value L v ≡ true) ↔ (v ≤ value_most L)
unfolding good_value
good_value_iff L v =
    (λ e. omega (arith, leb-not (suc (value_most L)) v (not-true _ e)), λ h. rw (lt-leb (suc (value_most L)) v (omega arith)))

cell_iff : (L : ℕ) (c : Cell) → (cell_fits L c ≡ true) ↔ CellFit L c
unfolding cell_fits
cell_iff L c =
    let key = key_iff c.key in
    let value = leb_iff (length c.value) (value_most L) in
    let chain = eqb_iff (length c.chain) (chain_length L (length c.value)) in (
      λ e. let q = simp and-eq-true_iff at e in record { key = key.0 q.0.0; value = value.0 q.0.1; chain = chain.0 q.1 },
      λ f. simp and-eq-true_iff ((key.1 f.key, value.1 f.value), chain.1 f.chain),
    )

-- ---- places
-- Of the cells in a leaf.

inside_iff : (s L : ℕ) (c : Cell) → (inside s L c ≡ true) ↔ Inside s L c
unfolding inside
inside_iff s L c =
    let low = leb_iff s c.at in
    let high = leb_iff (c.at + cell_length c) L in
    (λ e. let q = simp and-eq-true_iff at e in record { low = low.0 q.0; high = high.0 q.1 }, λ f. simp and-eq-true_iff (low.1 f.low, high.1 f.high))

or_right : (x : Bool) → (x || true) ≡ true
or_right true = refl
or_right false = refl

apart_iff : (c d : Cell) → (apart c d ≡ true) ↔ Apart c d
unfolding apart
apart_iff c d = (λ e. to (leb (c.at + cell_length c) d.at) refl e, back)
  where
    to : (x : Bool) → leb (c.at + cell_length c) d.at ≡ x → (x || leb (d.at + cell_length d) c.at) ≡ true → Apart c d
    to true p e = before ((leb_iff _ _).0 p)
    to false p e = after ((leb_iff _ _).0 e)

    back : Apart c d → (leb (c.at + cell_length c) d.at || leb (d.at + cell_length d) c.at) ≡ true
    back (before h) = rw ((leb_iff (c.at + cell_length c) d.at).1 h)
    back (after h) = rw ((leb_iff (d.at + cell_length d) c.at).1 h) (or_right (leb (c.at + cell_length c) d.at))

joint-all : {c : Cell} {cs : List Cell} → Pairwise Apart (c ∷ cs) → All (Apart c) cs × Pairwise Apart cs
joint-all (joint a p) = (a, p)

all_apart_iff : (cs : List Cell) → (all_apart cs ≡ true) ↔ Pairwise Apart cs
unfolding all_apart
all_apart_iff [] = (λ e. lone, λ p. refl)
all_apart_iff (c ∷ cs) =
    let here = every_iff (apart c) (Apart c) (apart_iff c) cs in
    let there = all_apart_iff cs in
    (λ e. let q = simp and-eq-true_iff at e in joint (here.0 q.0) (there.0 q.1), λ p. let q = joint-all p in and-true _ _ (here.1 q.0) (there.1 q.1))

placed_iff : (L : ℕ) (l : Leaf) → (cells_placed L l ≡ true) ↔ Placed L l
unfolding cells_placed
placed_iff L l =
    let each = every_iff (inside l.start L) (Inside l.start L) (inside_iff l.start L) l.cells in
    let far = all_apart_iff l.cells in
    let start = between_iff (12 + 2 * length l.cells) L l.start in (
      λ e. let q = simp and-eq-true_iff at e in
          let b = start.0 q.1 in
          record { low = b.0; high = b.1; inside = each.0 q.0.0; apart = far.0 q.0.1 },
      λ f. simp and-eq-true_iff ((each.1 f.inside, far.1 f.apart), start.1 (f.low, f.high)),
    )

-- ---- nodes
-- The tests of a leaf, and of an inner node with what holds of its children.

leaf_iff : (L least : ℕ) (l : Leaf)
    → (((every (cell_fits L) l.cells && leb (costs l.cells) (leaf_most L)) && cells_placed L l && leb least (costs l.cells)) ≡ true) ↔ LeafFull L least l
leaf_iff L least l =
    let each = every_iff (cell_fits L) (CellFit L) (cell_iff L) l.cells in
    let most = leb_iff (costs l.cells) (leaf_most L) in
    let placed = placed_iff L l in
    let enough = leb_iff least (costs l.cells) in (
      λ e. let q = simp and-eq-true_iff at e in
          record { enough = enough.0 q.1; most = most.0 q.0.0.1; each = each.0 q.0.0.0; placed = placed.0 q.0.1 },
      λ f. simp and-eq-true_iff (((each.1 f.each, most.1 f.most), placed.1 f.placed), enough.1 f.enough),
    )

seps-of : {A : Type 0} {P : A → Type 0} {ss : List (Sep A)} → All (λ (s : Sep A). KeyFit s.key) ss → All (λ (s : Sep A). P s.child) ss
    → All (SepFull P) ss
seps-of nil nil = nil
seps-of (cons k ks) (cons p ps) = cons (record { key = k; child = p }) (seps-of ks ps)

node_iff : {A : Type 0} (P : A → Type 0) (least : ℕ) (t : Inner A)
    → ((((every (λ s. key_fits s.key) t.rest && true) && between least inner_most (length t.rest)) ≡ true) × Children P t) ↔ NodeFull P least t
node_iff {A} P least t =
    let keys = every_iff (λ (s : Sep A). key_fits s.key) (λ s. KeyFit s.key) (λ s. key_iff s.key) t.rest in
    let count = between_iff least inner_most (length t.rest) in (
      λ e. let q = simp and-eq-true_iff at e.0 in
          let b = count.0 q.1 in
          record { enough = b.0; most = b.1; head = e.1.0; others = seps-of (keys.0 q.0.0) e.1.1 },
      λ f. (
        simp and-eq-true_iff ((keys.1 (all_of (λ s p. p.key) f.others), refl), count.1 (f.enough, f.most)),
        (f.head, all_of (λ s p. p.child) f.others),
      ),
    )

-- ---- trees
-- Below a root the three clauses are one test all over; at the root they are that of each child, and the root's own.

and_regroup : (k c d b f : Bool) → ((((k && c) && d) && (b && f)) ≡ true) ↔ ((((k && true) && b) ≡ true) × (((c && d) && f) ≡ true))
and_regroup k c d b f = (
  λ e. let q = simp and-eq-true_iff at e in
      (simp and-eq-true_iff ((q.0.0.0, refl), q.1.0), simp and-eq-true_iff ((q.0.0.1, q.0.1), q.1.1)),
  λ p. let q = simp and-eq-true_iff at p.0 in
      let r = simp and-eq-true_iff at p.1 in
      simp and-eq-true_iff (((q.0.0, r.0.0), r.0.1), (q.1, r.1)),
)

module _ (L : ℕ) where
  pub under_iff : (h : ℕ) (t : Tree h) → ((lengths_fit L h t && leaves_placed L h t && full h t) ≡ true) ↔ FullUnder L h t
  unfolding lengths_fit leaves_placed full
  under_iff h t =
      let lengths : Leaf → Bool = λ l. every (cell_fits L) l.cells && leb (costs l.cells) (leaf_most L) in
      let enough : Leaf → Bool = λ l. leb leaf_least (costs l.cells) in
      let keys : (i : ℕ) → Inner (Tree i) → Bool = λ i u. every (λ s. key_fits s.key) u.rest in
      let any : (i : ℕ) → Inner (Tree i) → Bool = λ i u. true in
      let count : (i : ℕ) → Inner (Tree i) → Bool = λ i u. between inner_least inner_most (length u.rest) in
      let two = throughout-and lengths (cells_placed L) keys any h t in
      let three = throughout-and (λ l. lengths l && cells_placed L l) enough (λ i u. keys i u && any i u) count h t in
      let e = three ∙ ap (λ (b : Bool). b && throughout enough count h t) two in
      let leaf : Leaf → Bool = λ l. (lengths l && cells_placed L l) && enough l in
      let inner : (i : ℕ) → Inner (Tree i) → Bool = λ i u. (keys i u && any i u) && count i u in
      let r = throughout_iff leaf inner (FullUnder L) (leaf_iff L leaf_least) (λ i u. node_iff (FullUnder L i) inner_least u) h t in
      (λ q. r.0 (e ∙ q), λ f. sym e ∙ r.1 f)

  children_iff : (h : ℕ) (t : Inner (Tree h)) → ((every_child (lengths_fit L h) t && every_child (leaves_placed L h) t && every_child (full h) t) ≡ true) ↔ Children (FullUnder L h) t
  children_iff h t =
      let r = every_child_iff (λ a. lengths_fit L h a && leaves_placed L h a && full h a) (FullUnder L h) (under_iff h) t in
      let two = every_child-and (lengths_fit L h) (leaves_placed L h) t in
      let three = every_child-and (λ a. lengths_fit L h a && leaves_placed L h a) (full h) t in
      let e = three ∙ ap (λ (b : Bool). b && every_child (full h) t) two in
      (λ q. r.0 (e ∙ q), λ p. sym e ∙ r.1 p)

  pub tree_iff : (h : ℕ) (t : Tree h) → ((lengths_fit L h t && leaves_placed L h t && full_below h t) ≡ true) ↔ Full L h 0 1 t
  unfolding lengths_fit leaves_placed full full_below throughout
  tree_iff zero t =
      let r = leaf_iff L 0 t in
      let both = lengths_fit L 0 t && leaves_placed L 0 t in
      let least = leb 0 (costs t.cells) in (
        λ e. r.0 (and-true both least ((and-eq-true_iff both true).0 e).0 ((leb_iff 0 (costs t.cells)).1 (omega arith))),
        λ f. and-true both true ((and-eq-true_iff both least).0 (r.1 f)).0 refl,
      )
  tree_iff (suc h) t =
      let keys = every (λ s. key_fits s.key) t.rest in
      let count = between 1 inner_most (length t.rest) in
      let g = and_regroup keys (every_child (lengths_fit L h) t) (every_child (leaves_placed L h) t) count (every_child (full h) t) in
      let node = node_iff (FullUnder L h) 1 t in
      let children = children_iff h t in
      (λ e. let q = g.0 e in node.0 (q.0, children.0 q.1), λ p. let q = node.1 p in g.1 (q.0, children.1 q.1))

  pub full_iff : (s : Store)
      → ((lengths_fit L s.depth s.root && leaves_placed L s.depth s.root && full_below s.depth s.root) ≡ true) ↔ FullStore L s
  full_iff s = tree_iff s.depth s.root
