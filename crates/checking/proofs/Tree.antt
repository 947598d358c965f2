-- A tree is walked through exactly if it is reached, by induction on the level: a leaf by its tests, an inner node by its own and its children one
-- after another.
use mathlib.Core.Path.{◌≡◌, refl, sym, ap, ◌∙◌}
use mathlib.Core.Logic.{◌↔◌}
use mathlib.Core.Bool.{Bool, true, false, ◌&&◌, and-eq-true_iff, false≢true}
use mathlib.Core.List.{List, [], ◌∷◌, ◌++◌, map, map-map}
use mathlib.Core.Option.{some}
use Prim.Native.Nat.{ℕ, zero, suc, ◌≤◌}
use native.Mathlib.Omega.{arith}
use lib.ListN.{length, get_or, length-map}
use Rattle.octets.specs.Choice.{choose}
use Rattle.model.specs.Lists.{gather, every}
use Rattle.model.specs.Edition.{Edition}
use Rattle.model.specs.Types.{Sep, Tree, across, entries, marked, walk}
use Rattle.model.specs.Sizes.{inner_least, inner_most}
use Rattle.model.specs.Layouts.{InnerPage, of_inner}
use Rattle.model.specs.Image.{first_leaf, last_leaf, last_child}
use Rattle.model.specs.Decode.{reach, inner_of, tree_at}
use Rattle.model.specs.Accept.{every_child, throughout, rising, all_rising}
use Rattle.model.proofs.Tests.{and-true, between_iff}
use Rattle.laws_image.proofs.Again.{inner_iff as standing-inner}
use Rattle.laws_order.specs.Reading.{strung, rights}
use Rattle.laws_order.specs.Line.{fence, line}
use Rattle.laws_size.proofs.Full.{KeyFit, SepFull, NodeFull, FullUnder}
use Rattle.checking.specs.Alone.{inner_alone}
use Rattle.checking.specs.Walk.{State, meet, inner_full, follows, kids_walk, reached, tree_walk}
use Rattle.checking.proofs.Small.{Small}
use Rattle.checking.proofs.Steps.{then_some, some_then, when-some, some-when}
use Rattle.checking.proofs.Marking.{mark_then, then_mark}
use Rattle.checking.proofs.Alone.{InnerAlone, inner_iff}
use Rattle.checking.proofs.Reached.{least_records, Reached}
use Rattle.checking.proofs.Leaf.{leaf-sound, leaf-whole}
use Rattle.checking.proofs.Kids.{KidsReached, kids-one, one_kid, kids-join, kids-part}
use Rattle.model.proofs.Each.{All, nil, cons}

-- ---- how many records

inner_full_iff : (root : Bool) (q : InnerPage) → (inner_full root q ≡ true) ↔ ((least_records root ≤ length q.rest) × (length q.rest ≤ inner_most))
unfolding inner_full choose
inner_full_iff true q = between_iff 1 inner_most (length q.rest)
inner_full_iff false q = between_iff inner_least inner_most (length q.rest)

-- ---- a node of a page

module _ (E : Edition) (n : ℕ) (ps : List (List ℕ)) (h p : ℕ) where
  abbrev L : ℕ
  L = E.usable

  abbrev page : List ℕ
  page = get_or ps p []

  abbrev q : InnerPage
  q = of_inner page

  abbrev a : Tree h
  a = tree_at L ps h q.first

  abbrev ss : List (Sep (Tree h))
  ss = map (reach (tree_at L ps h)) q.rest

  abbrev x : Tree (suc h)
  x = tree_at L ps (suc h) p

  first_inner : first_leaf (suc h) x ≡ first_leaf h a
  unfolding first_leaf tree_at inner_of
  first_inner = refl

  last_inner : last_leaf (suc h) x ≡ last_leaf h (last_child a ss)
  unfolding last_leaf tree_at inner_of
  last_inner = refl

  entries-inner : entries (suc h) x ≡ entries h a ++ gather (λ s. entries h s.child) ss
  unfolding entries across tree_at inner_of
  entries-inner = refl

  line-inner : line (suc h) x ≡ line h a ++ rights fence (line h) ss
  unfolding line strung rights tree_at inner_of
  line-inner = refl

  walk-inner : walk (suc h) x ≡ marked 2 p ∷ (walk h a ++ gather (λ s. walk h s.child) ss)
  unfolding walk across tree_at inner_of
  walk-inner = refl

  keys-inner : map (λ (s : Sep (Tree h)). s.key) ss ≡ map (λ s. s.key) q.rest
  unfolding reach
  keys-inner = map-map _ _ q.rest

  rising-inner : all_rising (suc h) x ≡ (rising (map (λ s. s.key) q.rest) && (all_rising h a && every (λ s. all_rising h s.child) ss))
  unfolding all_rising throughout every_child tree_at inner_of
  rising-inner = ap (λ (b : Bool). b && (all_rising h a && every (λ s. all_rising h s.child) ss)) (ap rising keys-inner)

  seps : {rs : List (Sep ℕ)} → All (λ (s : Sep ℕ). KeyFit s.key) rs
      → All (λ (s : Sep (Tree h)). FullUnder L h s.child) (map (reach (tree_at L ps h)) rs)
      → All (SepFull (FullUnder L h)) (map (reach (tree_at L ps h)) rs)
  unfolding reach
  seps nil nil = nil
  seps (cons k ks) (cons f fs) = cons (record { key = k; child = f }) (seps ks fs)

  sep_keys : (rs : List (Sep ℕ)) → All (SepFull (FullUnder L h)) (map (reach (tree_at L ps h)) rs) → All (λ (s : Sep ℕ). KeyFit s.key) rs
  unfolding reach
  sep_keys [] nil = nil
  sep_keys (r ∷ rs) (cons k ks) = cons k.key (sep_keys rs ks)

  sep_kids : {rs : List (Sep (Tree h))} → All (SepFull (FullUnder L h)) rs → All (λ (s : Sep (Tree h)). FullUnder L h s.child) rs
  sep_kids nil = nil
  sep_kids (cons k ks) = cons k.child (sep_kids ks)

  length-ss : length ss ≡ length q.rest
  length-ss = length-map q.rest (reach (tree_at L ps h))

  node-full : (root : Bool) → InnerAlone L page → inner_full root q ≡ true → FullUnder L h a
      → All (λ (s : Sep (Tree h)). FullUnder L h s.child) ss → NodeFull (FullUnder L h) (least_records root) x
  unfolding tree_at inner_of
  node-full root f c k ks =
      let b = (inner_full_iff root q).0 c in
      record { enough = omega (arith, length-ss, b.0); most = omega (arith, length-ss, b.1); head = k; others = seps f.keys ks }

  record NodeParts (root : Bool) : Type 0 where
    counts : inner_full root q ≡ true
    keys : All (λ (s : Sep ℕ). KeyFit s.key) q.rest
    head : FullUnder L h a
    others : All (λ (s : Sep (Tree h)). FullUnder L h s.child) ss

  full-node : (root : Bool) → NodeFull (FullUnder L h) (least_records root) x → NodeParts root
  unfolding tree_at inner_of
  full-node root f =
      record {
        counts = (inner_full_iff root q).1 (omega (arith, length-ss, f.enough), omega (arith, length-ss, f.most));
        keys = sep_keys q.rest f.others;
        head = f.head;
        others = sep_kids f.others;
      }

  module _ (root : Bool) (low high : List ℕ) (t to : State) where
    node-sound : (met : List ℕ) → InnerAlone L page → inner_full root q ≡ true → meet n 2 p t.work ≡ some met
        → KidsReached E n ps h low high a ss (reached t met) to → Reached E n ps (suc h) root low high x t to
    unfolding reached follows
    node-sound met f c m k =
        record {
          stands = (standing-inner E ps h t.last to.next p).1 (f.layout, k.stands);
          joined = rw first_inner k.joined;
          ends = k.ends ∙ sym last_inner;
          counts = k.counts ∙ rw entries-inner;
          full = node-full root f c k.head k.others;
          rises = rising-inner ∙ and-true _ _ f.rises (and-true _ _ k.head-rises k.others-rise);
          order = rw line-inner k.order;
          marks = rw walk-inner (mark_then n t.work 2 p _ m k.marks);
        }

    record Node : Type 0 where
      met : List ℕ
      alone : InnerAlone L page
      counts : inner_full root q ≡ true
      meets : meet n 2 p t.work ≡ some met
      kids : KidsReached E n ps h low high a ss (reached t met) to

    node-whole : Reached E n ps (suc h) root low high x t to → Node
    unfolding reached follows
    node-whole k =
        let g = (standing-inner E ps h t.last to.next p).0 k.stands in
        let f = full-node root k.full in
        let m = then_mark n t.work 2 p (walk h a ++ gather (λ s. walk h s.child) ss) (rw walk-inner at k.marks) in
        let v = simp and-eq-true_iff at (sym rising-inner ∙ k.rises) in
        record {
          met = m.0;
          alone = record { layout = g.0; keys = f.keys; rises = v.0 };
          counts = f.counts;
          meets = m.1.0;
          kids = record {
            stands = g.1;
            joined = rw first_inner at k.joined;
            ends = k.ends ∙ last_inner;
            counts = k.counts ∙ rw entries-inner;
            head = f.head;
            others = f.others;
            head-rises = v.1.0;
            others-rise = v.1.1;
            order = rw line-inner at k.order;
            marks = m.1.1;
          };
        }

-- ---- children of pages

module _ (E : Edition) (n : ℕ) (ps : List (List ℕ)) (h : ℕ) where
  abbrev child : ℕ → Tree h
  child p = tree_at E.usable ps h p

  kids-sound : ((low high : List ℕ) (p : ℕ) (t to : State) → tree_walk E n ps h false low high p t ≡ some to
      → Reached E n ps h false low high (child p) t to × (1 ≤ to.last))
      → (low high : List ℕ) (p : ℕ) {rs : List (Sep ℕ)} (t to : State) → All (λ (s : Sep ℕ). KeyFit s.key) rs
      → kids_walk (tree_walk E n ps h false) low high p rs t ≡ some to → KidsReached E n ps h low high (child p) (map (reach child) rs) t to × (1 ≤ to.last)
  unfolding kids_walk reach
  kids-sound f low high p t to nil e =
      let k = f low high p t to e in
      (kids-one E n ps h low high (child p) t to k.0, k.1)
  kids-sound f low high p t to (cons {x = s} {xs = rs} k ks) e =
      let m = some_then (tree_walk E n ps h false low s.key p t) (kids_walk (tree_walk E n ps h false) s.key high s.child rs) to e in
      let a = f low s.key p t m.0 m.1.0 in
      let r = kids-sound f s.key high s.child m.0 to ks m.1.1 in
      (kids-join E n ps h low high (child p) t to (reach child s) (map (reach child) rs) k.some m.0 a.1 a.0 r.0, r.1)

  kids-whole : ((low high : List ℕ) (p : ℕ) (t to : State) → Reached E n ps h false low high (child p) t to → tree_walk E n ps h false low high p t ≡ some to)
      → (low high : List ℕ) (p : ℕ) {rs : List (Sep ℕ)} (t to : State) → All (λ (s : Sep ℕ). KeyFit s.key) rs
      → KidsReached E n ps h low high (child p) (map (reach child) rs) t to → kids_walk (tree_walk E n ps h false) low high p rs t ≡ some to
  unfolding kids_walk reach
  kids-whole f low high p t to nil k = f low high p t to (one_kid E n ps h low high (child p) t to k)
  kids-whole f low high p t to (cons {x = s} {xs = rs} i is) k =
      let m = kids-part E n ps h low high (child p) t to (reach child s) (map (reach child) rs) i.some k in
      then_some (tree_walk E n ps h false low s.key p t) (kids_walk (tree_walk E n ps h false) s.key high s.child rs)
      (f low s.key p t m.0 m.1.0) (kids-whole f s.key high s.child m.0 to is m.1.1)

-- ---- the tree

module _ (E : Edition) (room : 9 ≤ E.usable) (n : ℕ) (ps : List (List ℕ)) (small : (p : ℕ) → Small (get_or ps p [])) where
  pub tree-sound : (h : ℕ) (root : Bool) (low high : List ℕ) (p : ℕ) (t to : State) → (root ≡ true → high ≡ [])
      → tree_walk E n ps h root low high p t ≡ some to → Reached E n ps h root low high (tree_at E.usable ps h p) t to × (1 ≤ to.last)
  unfolding tree_walk
  tree-sound zero root low high p t to o e = leaf-sound E room n ps p root low high t to (small p) o e
  tree-sound (suc h) root low high p t to o e =
      let q = of_inner (get_or ps p []) in
      let m = some_then (meet n 2 p t.work) _ to e in
      let w = some-when (inner_alone E.usable (get_or ps p []) && inner_full root q) _ to m.1.1 in
      let v = simp and-eq-true_iff at w.0 in
      let a = (inner_iff E.usable (get_or ps p [])).0 v.0 in
      let k = kids-sound E n ps h (λ low high p t to. tree-sound h false low high p t to (λ z. absurd (false≢true z)))
      low high q.first (reached t m.0) to a.keys w.1 in
      (node-sound E n ps h p root low high t to m.0 a v.1 m.1.0 k.0, k.1)

  pub tree-whole : (h : ℕ) (root : Bool) (low high : List ℕ) (p : ℕ) (t to : State) → (root ≡ true → high ≡ [])
      → Reached E n ps h root low high (tree_at E.usable ps h p) t to → tree_walk E n ps h root low high p t ≡ some to
  unfolding tree_walk
  tree-whole zero root low high p t to o k = leaf-whole E room n ps p root low high t to o k
  tree-whole (suc h) root low high p t to o k =
      let q = of_inner (get_or ps p []) in
      let b = node-whole E n ps h p root low high t to k in
      then_some (meet n 2 p t.work) _ b.meets
      (when-some (inner_alone E.usable (get_or ps p []) && inner_full root q) _ (and-true _ _ ((inner_iff E.usable (get_or ps p [])).1 b.alone) b.counts)
      (kids-whole E n ps h (λ low high p t to. tree-whole h false low high p t to (λ z. absurd (false≢true z)))
      low high q.first (reached t b.met) to b.alone.keys b.kids))
