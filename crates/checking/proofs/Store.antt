-- The walk over the pages of a header's tree and free list comes through exactly if the store that they make is valid and its pages stand: the
-- header's numbers are those of the store, the tree is reached from nothing, the free list goes on from there, and no page is left over.
use mathlib.Core.Path.{◌≡◌, refl, sym, ap, ◌∙◌}
use mathlib.Core.Bool.{true, not, ◌&&◌, and-eq-true_iff}
use mathlib.Core.List.{List, [], ◌∷◌, ◌++◌, map}
use mathlib.Core.Option.{some, some-injective}
use Prim.Native.Nat.{ℕ, suc, ◌≤◌, pred}
use native.Mathlib.Nat.{zero-add}
use native.Mathlib.Omega.{arith}
use lib.ListN.{length, get_or, take}
use lib.Dec.{eqb}
use borrow.Author.Tests.{eqb-true, eq-eqb}
use Rattle.model.specs.Lists.{every, head_or, from}
use Rattle.model.specs.Edition.{Edition}
use Rattle.model.specs.Types.{Tree, Store, page_of, entries, to_map, marked, walk, walked, met}
use Rattle.model.specs.Layouts.{HeadPage, to_head, of_head}
use Rattle.model.specs.Image.{head_page, last_leaf, tree_pages, free_pages, pages}
use Rattle.model.specs.Decode.{tree_at, free_from, store_of}
use Rattle.model.specs.Accept.{once_each, valid}
use Rattle.model.specs.Refusals.{role_at, roles, entered}
use Rattle.model.proofs.Tests.{and-true}
use Rattle.laws_image.proofs.Layouts.{of_head-to_head}
use Rattle.laws_image.proofs.Standing.{Standing}
use Rattle.laws_image.proofs.Valid.{Clauses, clauses, valid-clauses}
use Rattle.laws_image.proofs.Whole.{pages_iff}
use Rattle.laws_image.proofs.Roles.{walked-roles}
use Rattle.laws_image.proofs.Numbered.{places}
use Rattle.laws_image.proofs.Again.{page_of-tree_at, standing-free, free-standing}
use Rattle.laws_order.specs.Line.{line}
use Rattle.laws_order.proofs.Bounds.{line_iff}
use Rattle.laws_size.proofs.Bools.{tree_iff}
use Rattle.checking.specs.Alone.{head_alone}
use Rattle.checking.specs.Walk.{State, follows, free_walk, tree_walk, fresh, check_walk}
use Rattle.checking.proofs.Small.{Small}
use Rattle.checking.proofs.Steps.{then_some, some_then, when-some, some-when}
use Rattle.checking.proofs.Marking.{marking, Named, marks-join, marks-part}
use Rattle.checking.proofs.Fresh.{met-once, once-met}
use Rattle.checking.proofs.Alone.{HeadAlone, head_iff}
use Rattle.checking.proofs.Between.{between_open}
use Rattle.checking.proofs.Free.{Freed, free-first, free-sound, free-whole}
use Rattle.checking.proofs.Reached.{Reached}
use Rattle.checking.proofs.Tree.{tree-sound, tree-whole}
use Rattle.model.proofs.Each.{all_of}

suc_pred : (m : ℕ) → 1 ≤ m → m ≡ suc (pred m)
suc_pred m h = omega arith

-- a store that is valid, whose pages stand among ps
pub record Stored (E : Edition) (ps : List (List ℕ)) (s : Store) : Type 0 where
  pub right : valid E s ≡ true
  pub stands : Standing ps (pages E s)

-- the store of as many levels as the header says
abbrev pub head_store : Edition → ℕ → List (List ℕ) → Store
head_store E n ps = let q = of_head (get_or ps 0 []) in store_of E.usable ps n (pred q.height) q

module _ (E : Edition) (room : 9 ≤ E.usable) (n : ℕ) (some-pages : 2 ≤ n) (few-pages : n ≤ E.most_pages) (ps : List (List ℕ)) (work : List ℕ)
    (fits : n ≤ length work) (small : (p : ℕ) → Small (get_or ps p [])) where
  abbrev L : ℕ
  L = E.usable

  abbrev q : HeadPage
  q = of_head (get_or ps 0 [])

  abbrev h : ℕ
  h = pred q.height

  abbrev x : Tree h
  x = tree_at L ps h q.root

  abbrev free : List ℕ
  free = free_from ps n q.free

  abbrev s : Store
  s = head_store E n ps

  abbrev start : State
  start = record { work = fresh E n ps work; entries = 0; last = 0; next = 0 }

  -- ---- the store

  walked-store : walked s ≡ walk h x ++ map (marked 4) free
  unfolding walked store_of
  walked-store = refl

  roles-store : roles s ≡ map (λ p. role_at p (marked 5 0 ∷ walked s)) (from 0 n)
  unfolding roles store_of
  roles-store = refl

  head-store : head_page E.number s
      ≡ record { n = n; root = page_of h x; height = suc h; free = head_or 0 free; count = length (entries h x); edition = E.number }
  unfolding head_page store_of to_map
  head-store = refl

  named : Named (walked s)
  named = all_of (λ m k. k.0) (walked-roles s)

  -- ---- what the walk finds

  record Walked (met : List ℕ) : Type 0 where
    head : HeadAlone E n (get_or ps 0 [])
    to : State
    tree : Reached E n ps h true [] [] x start to
    next : to.next ≡ 0
    count : to.entries ≡ q.count
    rest : Freed L n ps n q.free to.work met
    all : every (λ r. not (eqb r 0)) (take n met) ≡ true

  walk-sound : (met : List ℕ) → check_walk E n ps work ≡ some met → Walked met
  unfolding check_walk
  walk-sound met e =
      let a = some-when (head_alone E n (get_or ps 0 [])) _ met e in
      let b = some_then (tree_walk E n ps h true [] [] q.root start) _ met a.1 in
      let to = b.0 in
      let c = some-when (eqb to.next 0 && eqb to.entries q.count) _ met b.1.1 in
      let d = some_then (free_walk L n ps n q.free to.work) _ met c.1 in
      let f = some-when (every (λ r. not (eqb r 0)) (take n d.0)) _ met d.1.1 in
      let w : d.0 ≡ met = some-injective _ _ f.1 in
      let v = simp and-eq-true_iff at c.0 in
      record {
        head = (head_iff E n (get_or ps 0 [])).0 a.0;
        to = to;
        tree = (tree-sound E room n ps small h true [] [] q.root start to (λ z. refl) b.1.0).0;
        next = eqb-true _ _ v.0;
        count = eqb-true _ _ v.1;
        rest = free-sound L n ps n q.free to.work met (d.1.0 ∙ f.1);
        all = rw w at f.0;
      }

  walk-whole : (met : List ℕ) → Walked met → check_walk E n ps work ≡ some met
  unfolding check_walk
  walk-whole met k =
      let to = k.to in
      when-some (head_alone E n (get_or ps 0 [])) _ ((head_iff E n (get_or ps 0 [])).1 k.head)
      (then_some (tree_walk E n ps h true [] [] q.root start) _ (tree-whole E room n ps small h true [] [] q.root start to (λ z. refl) k.tree)
      (when-some (eqb to.next 0 && eqb to.entries q.count) _ (and-true _ _ (eq-eqb _ _ k.next) (eq-eqb _ _ k.count))
      (then_some (free_walk L n ps n q.free to.work) _ (free-whole L n ps k.rest.stands to.work met k.rest.marks)
      (when-some (every (λ r. not (eqb r 0)) (take n met)) _ k.all refl))))

  -- ---- the header says the store's numbers

  head-stored : (end : List ℕ) → Walked end → q ≡ head_page E.number s
  head-stored end k =
      let H = k.head in
      let a : q.n ≡ n = H.size in
      let b : q.root ≡ page_of h x = sym (page_of-tree_at E ps h q.root) in
      let c : q.height ≡ suc h = suc_pred q.height H.low in
      let d : q.free ≡ head_or 0 free = sym (free-first L n ps k.rest.stands) in
      let e : q.count ≡ length (entries h x) = sym k.count ∙ k.tree.counts ∙ zero-add _ in
      let f : q.edition ≡ E.number = H.edition in
      (λ i. record { n = a i; root = b i; height = c i; free = d i; count = e i; edition = f i }) ∙ sym head-store

  -- ---- from the walk to the store

  module _ (end : List ℕ) (k : Walked end) where
    all-marks : marking n (walked s) (fresh E n ps work) ≡ some end
    all-marks = rw walked-store (marks-join n (fresh E n ps work) (walk h x) (map (marked 4) free) k.tree.marks k.rest.marks)

    all-met : (once_each n (places (walked s)) ≡ true) × (end ≡ entered (roles s) work)
    unfolding fresh
    all-met = rw roles-store (met-once n (walked s) work (omega arith) fits named end all-marks k.all)

    all_valid : valid E s ≡ true
    unfolding store_of met
    all_valid =
        let f = simp and-eq-true_iff at ((tree_iff L h x).1 k.tree.full) in
        let o = (line_iff h x f.1).1 ((between_open (line h x)).1 k.tree.order) in
        let l = suc_pred q.height k.head.low in
        valid-clauses E s (record {
          pages = (some-pages, few-pages);
          levels = rw (← l) k.head.high;
          lengths = f.0.0;
          placed = f.0.1;
          rising = k.tree.rises;
          bounded = o.1;
          full = f.1;
          once = all-met.0;
        })

    walked-stored : Stored E ps s × (end ≡ entered (roles s) work)
    unfolding store_of
    walked-stored =
        let tree : Standing ps (tree_pages E h 0 0 x) = rw k.next at k.tree.stands in
        let head = k.head.layout ∙ ap (to_head L) (head-stored end k) in
        (record { right = all_valid; stands = (pages_iff E s ps).1 (head, (tree, standing-free L ps k.rest.stands)) }, all-met.1)

  -- ---- and back

  module _ (k : Stored E ps s) where
    abbrev c : Clauses E s
    c = clauses E s k.right

    head-stands : get_or ps 0 [] ≡ to_head L (head_page E.number s)
    head-stands = ((pages_iff E s ps).0 k.stands).0

    tree-stands : Standing ps (tree_pages E h 0 0 x)
    unfolding store_of
    tree-stands = ((pages_iff E s ps).0 k.stands).1.0

    free-stands : Standing ps (free_pages L free)
    unfolding store_of
    free-stands = ((pages_iff E s ps).0 k.stands).1.1

    head-said : q ≡ head_page E.number s
    head-said = ap of_head head-stands ∙ of_head-to_head L (head_page E.number s)

    head-alone : HeadAlone E n (get_or ps 0 [])
    unfolding store_of
    head-alone =
        let e = head-said ∙ head-store in
        let l : q.height ≡ suc h = ap (λ (r : HeadPage). r.height) e in
        record {
          layout = head-stands ∙ ap (to_head L) (sym head-said);
          size = ap (λ (r : HeadPage). r.n) e;
          low = omega (arith, l);
          high = omega (arith, l, c.levels);
          edition = ap (λ (r : HeadPage). r.edition) e;
        }

    all_once : once_each n (places (walked s)) ≡ true
    unfolding store_of met
    all_once = c.once

    comes : (marking n (walked s) (fresh E n ps work) ≡ some (entered (roles s) work)) × (every (λ r. not (eqb r 0)) (take n (entered (roles s) work)) ≡ true)
    unfolding fresh
    comes = rw roles-store (once-met n (walked s) work (omega arith) fits named all_once)

    parts : (on : List ℕ) × ((marking n (walk h x) (fresh E n ps work) ≡ some on) × (marking n (map (marked 4) free) on ≡ some (entered (roles s) work)))
    parts = marks-part n (fresh E n ps work) (walk h x) (map (marked 4) free) (rw walked-store at comes.0)

    abbrev reaches : State
    reaches = record { work = parts.0; entries = length (entries h x); last = last_leaf h x; next = 0 }

    tree-reached : Reached E n ps h true [] [] x start reaches
    unfolding store_of follows
    tree-reached =
        let f = c.full in
        record {
          stands = tree-stands;
          joined = refl;
          ends = refl;
          counts = sym (zero-add _);
          full = (tree_iff L h x).0 (simp and-eq-true_iff ((c.lengths, c.placed), f));
          rises = c.rising;
          order = (between_open (line h x)).0 ((line_iff h x f).0 (c.rising, c.bounded));
          marks = parts.1.0;
        }

    stored-walked : Walked (entered (roles s) work)
    stored-walked =
        let e = head-said ∙ head-store in
        let first : head_or 0 free ≡ q.free = sym (ap (λ (r : HeadPage). r.free) e) in
        record {
          head = head-alone;
          to = reaches;
          tree = tree-reached;
          next = refl;
          count = sym (ap (λ (r : HeadPage). r.count) e);
          rest = record { stands = free-standing L ps n q.free first free-stands; marks = parts.1.1 };
          all = comes.1;
        }

  -- ---- both

  pub pages-sound : (end : List ℕ) → check_walk E n ps work ≡ some end → Stored E ps (head_store E n ps) × (end ≡ entered (roles (head_store E n ps)) work)
  pages-sound end e = walked-stored end (walk-sound end e)

  pub pages-whole : Stored E ps (head_store E n ps) → check_walk E n ps work ≡ some (entered (roles (head_store E n ps)) work)
  pages-whole k = walk-whole (entered (roles s) work) (stored-walked k)
