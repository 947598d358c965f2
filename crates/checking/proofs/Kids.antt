-- The children of an inner node are reached one after another: each from where the one before it ends, named by its last leaf, and above the
-- separator that the one before it is below. So all are reached exactly if the first is and then the others are.
use mathlib.Core.Path.{◌≡◌, refl, ◌∙◌}
use mathlib.Core.Bool.{or-true, true, false, and-eq-true_iff}
use mathlib.Core.List.{List, [], ◌∷◌, ◌++◌, append-nil}
use mathlib.Core.Option.{some}
use Prim.Native.Nat.{ℕ, ◌+◌, ◌≤◌}
use native.Mathlib.Omega.{arith}
use lib.ListN.{length, length-append}
use lib.Dec.{eqb}
use borrow.Author.Tests.{eqb-true, eq-eqb, ne_eqb}
use Rattle.model.specs.Lists.{gather, every}
use Rattle.model.specs.Edition.{Edition}
use Rattle.model.specs.Types.{Sep, Tree, entries, walk}
use Rattle.model.specs.Image.{first_leaf, last_leaf, last_child, linked, tree_pages}
use Rattle.model.specs.Accept.{all_rising}
use Rattle.model.proofs.Tests.{and-true}
use Rattle.laws_image.proofs.Standing.{Standing}
use Rattle.laws_order.specs.Reading.{rights}
use Rattle.laws_order.specs.Line.{fence, line}
use Rattle.laws_size.proofs.Full.{FullUnder}
use Rattle.checking.specs.Walk.{State, follows}
use Rattle.checking.proofs.Marking.{marking, marks-join, marks-part}
use Rattle.checking.proofs.Between.{Between, between_join, between-part}
use Rattle.checking.proofs.Reached.{Reached}
use Rattle.model.proofs.Each.{all_append, all-parts, All, nil, cons, all_cons}

-- ---- the leaf before names the next

pub follows_next : (t : State) (p : ℕ) → 1 ≤ t.last → follows t p ≡ true → t.next ≡ p
unfolding follows
follows_next t p h e = let z = ne_eqb t.last 0 (λ e. omega arith) in eqb-true _ _ (rw z at e)

pub next-follows : (t : State) (p : ℕ) → t.next ≡ p → follows t p ≡ true
unfolding follows
next-follows t p e = rw (eq-eqb t.next p e) (or-true (eqb t.last 0))

-- ---- all children

pub record KidsReached (E : Edition) (n : ℕ) (ps : List (List ℕ)) (h : ℕ) (low high : List ℕ) (a : Tree h) (ss : List (Sep (Tree h))) (t to : State) : Type 0 where
  pub stands : Standing ps (linked (first_leaf h) (last_leaf h) (tree_pages E h) t.last to.next a ss)
  pub joined : follows t (first_leaf h a) ≡ true
  pub ends : to.last ≡ last_leaf h (last_child a ss)
  pub counts : to.entries ≡ t.entries + length (entries h a ++ gather (λ s. entries h s.child) ss)
  pub head : FullUnder E.usable h a
  pub others : All (λ (s : Sep (Tree h)). FullUnder E.usable h s.child) ss
  pub head-rises : all_rising h a ≡ true
  pub others-rise : every (λ s. all_rising h s.child) ss ≡ true
  pub order : Between low high (line h a ++ rights fence (line h) ss)
  pub marks : marking n (walk h a ++ gather (λ s. walk h s.child) ss) t.work ≡ some to.work

module _ (E : Edition) (n : ℕ) (ps : List (List ℕ)) (h : ℕ) (low high : List ℕ) (a : Tree h) (t to : State) where
  pub kids-one : Reached E n ps h false low high a t to → KidsReached E n ps h low high a [] t to
  unfolding linked last_child gather every rights
  kids-one k =
      record {
        stands = k.stands;
        joined = k.joined;
        ends = k.ends;
        counts = rw append-nil k.counts;
        head = k.full;
        others = nil;
        head-rises = k.rises;
        others-rise = refl;
        order = rw (append-nil (line h a)) k.order;
        marks = rw (append-nil (walk h a)) k.marks;
      }

  pub one_kid : KidsReached E n ps h low high a [] t to → Reached E n ps h false low high a t to
  unfolding linked last_child gather every rights
  one_kid k =
      record {
        stands = k.stands;
        joined = k.joined;
        ends = k.ends;
        counts = k.counts ∙ rw append-nil;
        full = k.head;
        rises = k.head-rises;
        order = rw (append-nil (line h a)) at k.order;
        marks = rw (append-nil (walk h a)) at k.marks;
      }

  module _ (s : Sep (Tree h)) (ss : List (Sep (Tree h))) (some_key : 1 ≤ length s.key) where
    counted : (x y : ℕ) → length (entries h a) ≡ x → length (entries h s.child ++ gather (λ s. entries h s.child) ss) ≡ y
        → length (entries h a ++ gather (λ s. entries h s.child) (s ∷ ss)) ≡ x + y
    unfolding gather
    counted x y d e = length-append (entries h a) _ ∙ rw (d, e)

    pub kids-join : (on : State) → 1 ≤ on.last → Reached E n ps h false low s.key a t on → KidsReached E n ps h s.key high s.child ss on to
        → KidsReached E n ps h low high a (s ∷ ss) t to
    unfolding linked last_child gather every rights
    kids-join on some-leaf k r =
        let next = follows_next on (first_leaf h s.child) some-leaf r.joined in
        record {
          stands = all_append (rw next at k.stands) (rw k.ends at r.stands);
          joined = k.joined;
          ends = r.ends;
          counts = omega (arith, k.counts, r.counts, counted _ _ refl refl);
          head = k.full;
          others = cons r.head r.others;
          head-rises = k.rises;
          others-rise = and-true _ _ r.head-rises r.others-rise;
          order = between_join low s.key high (line h a) (line h s.child ++ rights fence (line h) ss) some_key k.order r.order;
          marks = marks-join n t.work (walk h a) _ k.marks r.marks;
        }

    pub kids-part : KidsReached E n ps h low high a (s ∷ ss) t to
        → (on : State) × (Reached E n ps h false low s.key a t on × KidsReached E n ps h s.key high s.child ss on to)
    unfolding linked last_child gather every rights
    kids-part k =
        let w = marks-part n t.work (walk h a) (walk h s.child ++ gather (λ s. walk h s.child) ss) k.marks in
        let on : State = record { work = w.0; entries = t.entries + length (entries h a); last = last_leaf h a; next = first_leaf h s.child } in
        let g = all-parts (tree_pages E h t.last (first_leaf h s.child) a) k.stands in
        let o = between-part low s.key high (line h a) (line h s.child ++ rights fence (line h) ss) some_key k.order in
        let v = simp and-eq-true_iff at k.others-rise in (
          on,
          (
            record {
              stands = g.0;
              joined = k.joined;
              ends = refl;
              counts = refl;
              full = k.head;
              rises = k.head-rises;
              order = o.0;
              marks = w.1.0;
            },
            record {
              stands = g.1;
              joined = next-follows on (first_leaf h s.child) refl;
              ends = k.ends;
              counts = omega (arith, k.counts, counted _ _ refl refl);
              head = (all_cons k.others).0;
              others = (all_cons k.others).1;
              head-rises = v.0;
              others-rise = v.1;
              order = o.1;
              marks = w.1.1;
            },
          ),
        )
