-- Keys rising in each leaf and bounded below each child are one sorted line: as no leaf but the root is empty, every separator stands between entries.
use mathlib.Core.Path.{◌≡◌, refl, ap}
use mathlib.Core.Logic.{◌↔◌}
use mathlib.Core.Bool.{Bool, true, not, ◌&&◌, and-eq-true_iff}
use mathlib.Core.List.{List, [], ◌∷◌, ◌++◌, append_assoc, append-nil, map, map-map}
use mathlib.Core.Option.{Option, none, some}
use Prim.Native.Nat.{ℕ, zero, suc}
use Rattle.octets.specs.Keys.{before}
use Rattle.octets.proofs.Order.{◌≺◌, before→≺, ≺→before, not_before→, not_before←}
use Rattle.model.specs.Lists.{gather, every}
use Rattle.model.specs.Edition.{Edition}
use Rattle.model.specs.Types.{Cell, Leaf, Sep, Inner, Tree, Store, Entry, entry, entries}
use Rattle.model.specs.Accept.{every_child, throughout, rising, all_rising, not_below, below, bounded, all_bounded, full, full_below, valid}
use Rattle.model.proofs.Tests.{not-true, and-true}
use Rattle.model.proofs.Each.{All, nil, cons, all_of, all-each, all_both, all_of_map, every→all, all→every, all-parts}
use Rattle.laws_order.proofs.Sundry.{≺_between}
use Rattle.laws_order.specs.Reading.{strung, rights}
use Rattle.laws_order.specs.Line.{Item, real, wall, Above, Sorted, more-sorted, AllUnder, reals, fence, line, of_store}
use Rattle.laws_order.proofs.Items.{above_trans, above-tail, sorted-left, sorted-right, sorted-under, sorted-join, all-reals}
use Rattle.laws_order.proofs.Neighbours.{rising_iff}
use Rattle.laws_order.proofs.Line.{line-reals}
use Rattle.laws_order.proofs.Peopled.{Peopled, ends_pass, line-peopled}

-- Bounds to a line ------------------------------------------------------------------------------------------------------

-- the separator left of a child, where there is one
abbrev walled : Option (List ℕ) → List Item → List Item
walled none xs = xs
walled (some b) xs = wall b ∷ xs

wall-before : (low : Option (List ℕ)) (e : Entry) (ys : List Item) → not_below low e.key ≡ true → Sorted (real e ∷ ys) → Sorted (walled low (real e ∷ ys))
unfolding not_below
wall-before none e ys t s = s
wall-before (some b) e ys t s =
    let u : e.key ≺ b → ⊥ = not_before→ e.key b (not-true _ t) in
    more-sorted (cons u (above_trans (wall b) (real e) u (above-tail s))) s

-- a line that is peopled, so walled
walled-sorted : (low : Option (List ℕ)) (xs ys : List Item) → (p : Peopled xs) → not_below low p.first.key ≡ true → Sorted (xs ++ ys) → Sorted (walled low (xs ++ ys))
walled-sorted low xs ys p t s = rw p.starts (wall-before low p.first (p.onwards ++ ys) t (rw p.starts at s))

-- and closed by a separator above its last entry
joined-sorted : (xs : List Item) (k : List ℕ) (ys : List Item) → (p : Peopled xs) → before p.last.key k ≡ true → Sorted xs → Sorted (wall k ∷ ys)
    → Sorted (xs ++ (wall k ∷ ys))
joined-sorted xs k ys p t s r =
    rw (p.ends, append_assoc) (sorted-join p.front (real p.last) (wall k) ys (rw p.ends at s) (before→≺ p.last.key k t) r)

-- a child that is peopled and sorted
record Good (xs : List Item) : Type 0 where
  peopled : Peopled xs
  sorted : Sorted xs

module _ {A : Type 0} (m : A → List Item) (es : A → List Entry) (same : (a : A) → reals (m a) ≡ es a) where
  bounded-sorted : (low : Option (List ℕ)) (a : A) (ss : List (Sep A)) → Good (m a) → All (λ s. Good (m s.child)) ss → bounded es low a ss ≡ true
      → Sorted (walled low (m a ++ rights fence m ss))
  unfolding bounded rights gather below
  bounded-sorted low a [] g nil t =
      let k = ends_pass (λ e. not_below low e.key) g.peopled (rw (← same a) at t) in
      walled-sorted low (m a) [] g.peopled k.0 (rw append-nil g.sorted)
  bounded-sorted low a (s ∷ ss) g (cons h hs) t =
      let k = simp and-eq-true_iff at t in
      let q = ends_pass (λ e. not_below low e.key && below (some s.key) e.key) g.peopled (rw (← same a) at k.0) in
      let first = simp and-eq-true_iff at q.0 in
      let last = simp and-eq-true_iff at q.1 in
      let R = m s.child ++ rights fence m ss in
      walled-sorted low (m a) (wall s.key ∷ R) g.peopled first.0
      (joined-sorted (m a) s.key R g.peopled last.1 g.sorted (bounded-sorted (some s.key) s.child ss h hs k.1))

-- A line to bounds ------------------------------------------------------------------------------------------------------

low_pass : (low : Option (List ℕ)) (xs ys : List Item) → Sorted (walled low (xs ++ ys)) → All (λ e. not_below low e.key ≡ true) (reals xs)
unfolding not_below
low_pass none xs ys s = all-each (λ e. refl) (reals xs)
low_pass (some b) xs ys s =
    all_of (λ e u. ap not (not_before← e.key b u)) (all_of_map _ real (reals xs) (all-reals xs (all-parts xs (above-tail s)).0))

high_pass : (xs : List Item) (k : List ℕ) (ys : List Item) → Sorted (xs ++ (wall k ∷ ys)) → All (λ e. below (some k) e.key ≡ true) (reals xs)
unfolding below
high_pass xs k ys s = all_of (λ e u. ≺→before u) (all_of_map _ real (reals xs) (all-reals xs (sorted-under xs (wall k) ys s)))

unwalled : (low : Option (List ℕ)) (xs : List Item) → Sorted (walled low xs) → Sorted xs
unwalled none xs s = s
unwalled (some b) xs s = sorted-right (wall b ∷ []) xs s

-- a peopled child between two separators
apart : (j k : List ℕ) (xs ys : List Item) → Peopled xs → Sorted (wall j ∷ (xs ++ (wall k ∷ ys))) → j ≺ k
apart j k xs ys p (more-sorted a s) = go (rw p.starts at a) (rw p.starts at (sorted-under xs (wall k) ys s))
  where
    go : Above (wall j) (real p.first ∷ (p.onwards ++ (wall k ∷ ys))) → AllUnder k (real p.first ∷ p.onwards) → j ≺ k
    go (cons u b) (cons v c) = ≺_between u v

module _ {A : Type 0} (m : A → List Item) (es : A → List Entry) (same : (a : A) → reals (m a) ≡ es a) where
  sorted-bounded : (low : Option (List ℕ)) (a : A) (ss : List (Sep A)) → Sorted (walled low (m a ++ rights fence m ss)) → bounded es low a ss ≡ true
  unfolding bounded rights gather
  sorted-bounded low a [] s = rw (← same a) (all→every _ (low_pass low (m a) [] s))
  sorted-bounded low a (x ∷ ss) s =
      let R = m x.child ++ rights fence m ss in
      let o = unwalled low (m a ++ (wall x.key ∷ R)) s in
      let here : every (λ e. not_below low e.key && below (some x.key) e.key) (reals (m a)) ≡ true
      = all→every _ (all_of (λ e p. and-true _ _ p.0 p.1) (all_both (low_pass low (m a) (wall x.key ∷ R) s) (high_pass (m a) x.key R o))) in
      and-true _ _ (rw (same a) at here) (sorted-bounded (some x.key) x.child ss (sorted-right (m a) (wall x.key ∷ R) o))

module _ {A : Type 0} (m : A → List Item) where
  sorted-children : (ss : List (Sep A)) → Sorted (rights fence m ss) → All (λ s. Sorted (m s.child)) ss
  unfolding rights gather
  sorted-children [] s = nil
  sorted-children (x ∷ ss) (more-sorted a s) = cons (sorted-left (m x.child) (rights fence m ss) s) (sorted-children ss (sorted-right (m x.child) (rights fence m ss) s))

  sorted-rising : (ss : List (Sep A)) → All (λ s. Peopled (m s.child)) ss → Sorted (rights fence m ss) → rising (map (λ s. s.key) ss) ≡ true
  unfolding rights gather rising
  sorted-rising [] ps s = refl
  sorted-rising (x ∷ []) ps s = refl
  sorted-rising (x ∷ y ∷ ss) (cons p ps) s =
      and-true (before x.key y.key) _
      (≺→before (apart x.key y.key (m x.child) (m y.child ++ rights fence m ss) p s))
      (sorted-rising (y ∷ ss) ps (sorted-right (wall x.key ∷ m x.child) (wall y.key ∷ (m y.child ++ rights fence m ss)) s))

-- In an inner node ------------------------------------------------------------------------------------------------------

-- a test of each child, as the test of the first and of all others
record Kids {A : Type 0} (f : A → Bool) (t : Inner A) : Type 0 where
  one : f t.first ≡ true
  others : All (λ s. f s.child ≡ true) t.rest

kids→ : {A : Type 0} (f : A → Bool) (t : Inner A) → every_child f t ≡ true → Kids f t
unfolding every_child
kids→ f t e = let k = simp and-eq-true_iff at e in record { one = k.0; others = every→all _ t.rest k.1 }

kids← : {A : Type 0} (f : A → Bool) (t : Inner A) → Kids f t → every_child f t ≡ true
unfolding every_child
kids← f t k = and-true _ _ k.one (all→every _ k.others)

module _ {A : Type 0} (m : A → List Item) (es : A → List Entry) (same : (a : A) → reals (m a) ≡ es a) (fine rises bounds : A → Bool)
    (peopled : (a : A) → fine a ≡ true → Peopled (m a)) (child : (a : A) → fine a ≡ true → ((rises a ≡ true) × (bounds a ≡ true)) ↔ Sorted (m a)) where
  node→ : (t : Inner A) → Kids fine t → Kids rises t → Kids bounds t → bounded es none t.first t.rest ≡ true → Sorted (strung fence m t)
  unfolding strung rights
  node→ t f r b e =
      let good : (a : A) → fine a ≡ true → rises a ≡ true → bounds a ≡ true → Good (m a)
      = λ a i j k. record { peopled = peopled a i; sorted = (child a i).0 (j, k) } in
      bounded-sorted m es same none t.first t.rest (good t.first f.one r.one b.one)
      (all_of (λ s p. good s.child p.0 p.1.0 p.1.1) (all_both f.others (all_both r.others b.others))) e

  record Ordered (t : Inner A) : Type 0 where
    seps : rising (map (λ s. s.key) t.rest) ≡ true
    within : bounded es none t.first t.rest ≡ true
    rise : Kids rises t
    bound : Kids bounds t

  node← : (t : Inner A) → Kids fine t → Sorted (strung fence m t) → Ordered t
  unfolding strung rights
  node← t f s =
      let later = sorted-right (m t.first) (rights fence m t.rest) s in
      let first = (child t.first f.one).1 (sorted-left (m t.first) (rights fence m t.rest) s) in
      let others = all_of (λ x p. (child x.child p.0).1 p.1) (all_both f.others (sorted-children m t.rest later)) in
      record {
        seps = sorted-rising m t.rest (all_of (λ x p. peopled x.child p) f.others) later;
        within = sorted-bounded m es same none t.first t.rest s;
        rise = record { one = first.0; others = all_of (λ x p. p.0) others };
        bound = record { one = first.1; others = all_of (λ x p. p.1) others };
      }

  node_iff : (t : Inner A) → every_child fine t ≡ true
      → (((rising (map (λ s. s.key) t.rest) && every_child rises t) ≡ true) × ((bounded es none t.first t.rest && every_child bounds t) ≡ true)) ↔ Sorted (strung fence m t)
  node_iff t f = (
    λ p. let r = simp and-eq-true_iff at p.0 in
        let b = simp and-eq-true_iff at p.1 in
        node→ t (kids→ fine t f) (kids→ rises t r.1) (kids→ bounds t b.1) b.0,
    λ s. let o = node← t (kids→ fine t f) s in
        (and-true _ _ o.seps (kids← rises t o.rise), and-true _ _ o.within (kids← bounds t o.bound)),
  )

-- In a tree -------------------------------------------------------------------------------------------------------------

cell-keys : (cs : List Cell) → map (λ (e : Entry). e.key) (map entry cs) ≡ map (λ (c : Cell). c.key) cs
unfolding entry
cell-keys cs = map-map (λ (e : Entry). e.key) entry cs

abbrev Agree : (h : ℕ) → Tree h → Type 0
Agree h t = ((all_rising h t ≡ true) × (all_bounded h t ≡ true)) ↔ Sorted (line h t)

leaf_iff : (l : Leaf) → Agree 0 l
unfolding all_rising all_bounded throughout line entries
leaf_iff l = (λ p. (rising_iff (map entry l.cells)).0 (rw cell-keys p.0), λ s. (rw cell-keys at ((rising_iff (map entry l.cells)).1 s), refl))

inner_iff : (h : ℕ) → ((t : Tree h) → full h t ≡ true → Agree h t) → (t : Inner (Tree h)) → every_child (full h) t ≡ true → Agree (suc h) t
unfolding all_rising all_bounded throughout line
inner_iff h child t f = node_iff (line h) (entries h) (line-reals h) (full h) (all_rising h) (all_bounded h) (line-peopled h) child t f

full_iff : (h : ℕ) (t : Tree h) → full h t ≡ true → Agree h t
unfolding full throughout
full_iff zero t f = leaf_iff t
full_iff (suc h) t f = let k = simp and-eq-true_iff at f in inner_iff h (full_iff h) t k.1

-- "keys strictly rising in a leaf, separators strictly rising in an inner node; below child i only keys from separator i−1 (included)
-- to separator i (excluded)": one sorted line
pub line_iff : (h : ℕ) (t : Tree h) → full_below h t ≡ true → ((all_rising h t ≡ true) × (all_bounded h t ≡ true)) ↔ Sorted (line h t)
unfolding full_below
line_iff zero t f = leaf_iff t
line_iff (suc h) t f = let k = simp and-eq-true_iff at f in inner_iff h (full_iff h) t k.1

pub store_iff : (s : Store) → full_below s.depth s.root ≡ true
    → ((all_rising s.depth s.root ≡ true) × (all_bounded s.depth s.root ≡ true)) ↔ Sorted (of_store s)
unfolding of_store
store_iff s f = line_iff s.depth s.root f

pub valid-sorted : (E : Edition) (s : Store) → valid E s ≡ true → Sorted (of_store s)
unfolding valid
valid-sorted E s v = let k = simp and-eq-true_iff at v in (store_iff s k.0.1).0 (k.0.0.0.1, k.0.0.1)
