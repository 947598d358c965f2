-- An inner node keeps its children full: a node one record too many parts in two of the least size, and a short one joins its partner or is given a record.
use mathlib.Core.Path.{◌≡◌, sym, ap}
use mathlib.Core.List.{List, [], ◌∷◌, ◌++◌}
use Prim.Native.Nat.{ℕ, suc, ◌+◌, ◌-◌, ◌≤◌, ◌<◌}
use native.Mathlib.Nat.{zero-add}
use native.Mathlib.Omega.{arith}
use lib.Dec.{leb}
use lib.ListN.{length, take, take-append-drop, length-append, length-take}
use Rattle.octets.proofs.Choice.{either_by}
use Rattle.model.specs.Types.{Sep, Inner}
use Rattle.model.specs.Sizes.{inner_least, inner_most}
use Rattle.model.specs.Context.{Left, Frame, close, fill}
use Rattle.model.specs.InLeaf.{Grown}
use Rattle.model.specs.Growing.{Step, split_right, grown, grow_step}
use Rattle.model.specs.Mending.{joined, partnered, together, first_given, last_given, rotated, join_inner, mend_inner}
use Rattle.model.proofs.Tests.{leb_iff, leb-not}
use Rattle.model.proofs.Each.{All, nil, cons, all_cons, all_append, all-parts}
use Rattle.laws_size.proofs.Full.{KeyFit, SepFull, NodeFull, LeftFull, FrameFull, GrownFull, still, parts}

-- ---- children
-- A node with n records, all of whose children are as they should be.

module _ {A : Type 0} (P : A → Type 0) where
  pub record Kids (n : ℕ) (t : Inner A) : Type 0 where
    pub count : length t.rest ≡ n
    pub head : P t.first
    pub others : All (SepFull P) t.rest

  pub close-kids : (p : ℕ) {ls : List (Left A)} {a : A} {rs : List (Sep A)} → All (LeftFull P) ls → P a → All (SepFull P) rs
      → Kids (length ls + length rs) (close p ls a rs)
  unfolding close
  close-kids p nil a rs = record { count = sym (zero-add _); head = a; others = rs }
  close-kids p (cons l ls) a rs =
      let r = close-kids p ls l.child (cons (record { key = l.key; child = a }) rs) in
      record { count = omega (arith, r.count); head = r.head; others = r.others }

  pub kids-full : {least n : ℕ} {t : Inner A} → Kids n t → least ≤ n → n ≤ inner_most → NodeFull P least t
  kids-full k h g = record { enough = omega (arith, k.count); most = omega (arith, k.count); head = k.head; others = k.others }

  pub fewer : {least less : ℕ} {t : Inner A} → less ≤ least → NodeFull P least t → NodeFull P less t
  fewer h s = record { enough = omega (arith, s.enough); most = s.most; head = s.head; others = s.others }

  made : {least : ℕ} (p : ℕ) (a : A) (ss : List (Sep A)) → P a → All (SepFull P) ss → least ≤ length ss → length ss ≤ inner_most
      → NodeFull P least (record { page = p; first = a; rest = ss })
  made p a ss x xs h g = record { enough = h; most = g; head = x; others = xs }

  -- ---- growing
  -- A node that a child's split leaves with a record too many parts in the middle.

  -- "of 15 records, 0 to 6 stay; key 7 goes up; child 7 becomes the new right page's first child; 8 to 14 follow"
  split-full : {Q : Inner A → Type 0} (q : ℕ) (t : Inner A) (ss : List (Sep A)) → take inner_least t.rest ++ ss ≡ t.rest → Kids (suc inner_most) t
      → GrownFull Q (NodeFull P inner_least) (split_right q t ss)
  unfolding split_right inner_least inner_most
  split-full q t [] e k =
      absurd (omega (arith, k.count, ap length e, length-append (take 7 t.rest) [], length-take 7 t.rest))
  split-full q t (s ∷ ss) e k =
      let left = take 7 t.rest in
      let n = length-append left (s ∷ ss) in
      let m = length-take 7 t.rest in
      let c = k.count in
      let l = ap length e in
      let all : All (SepFull P) (left ++ (s ∷ ss)) = rw e k.others in
      let both = all-parts left all in
      let right = all_cons both.1 in
      parts (made t.page t.first left k.head both.0 (omega arith) (omega arith)) right.0.key
      (made q s.child ss right.0.child right.1 (omega arith) (omega arith))

  pub grow_full : {least : ℕ} {f : Frame A} {g : Grown A} (free : List ℕ) → FrameFull P least f → GrownFull P P g
      → GrownFull (NodeFull P least) (NodeFull P inner_least) (grow_step f g free).node
  unfolding grow_step fill grown
  grow_full {f = f} free o (still a) = still (kids-full (close-kids f.page o.left a o.right) o.enough o.most)
  grow_full {least} {f} free o (parts {a = x} {k = w} {b = y} a k b) =
      let n = close f.page f.lefts x (record { key = w; child = y } ∷ f.rights) in
      let t = close-kids f.page o.left a (cons (record { key = k; child = b }) o.right) in
      let c = t.count in
      let most = o.most in
      either_by (λ (x : Step (Grown (Inner A))). GrownFull (NodeFull P least) (NodeFull P inner_least) x.node) _ _ _
      (λ e. still (kids-full t (omega (arith, o.enough)) (omega (arith, (leb_iff (length n.rest) inner_most).0 e))))
      (λ e. let many : length n.rest ≡ suc inner_most = omega (arith, leb-not (length n.rest) inner_most e) in
      split-full _ n _ (take-append-drop inner_least _) (record { count = many; head = t.head; others = t.others }))

  -- ---- mending
  -- Two neighbours become one or two, so the node above has at most one record fewer.

  joined-full : {least : ℕ} {ls : List (Left A)} {rs : List (Sep A)} {g : Grown A} (p : ℕ) (free : List ℕ) (q : ℕ)
      → All (LeftFull P) ls → All (SepFull P) rs → GrownFull P P g
      → least ≤ suc (length ls + length rs) → suc (length ls + length rs) ≤ inner_most → NodeFull P (least - 1) (joined p ls rs free q g).node
  unfolding joined
  joined-full p free q l r (still a) h g = kids-full (close-kids p l a r) (omega arith) (omega arith)
  joined-full p free q l r (parts a k b) h g = kids-full (close-kids p l a (cons (record { key = k; child = b }) r)) (omega arith) (omega arith)

  -- S is what a short one has
  pub partnered-full : (S : A → Type 0) (pageIs : A → ℕ) (join : A → List ℕ → A → Grown A)
      → ((a : A) (k : List ℕ) (b : A) → S a → KeyFit k → P b → GrownFull P P (join a k b))
      → ((a : A) (k : List ℕ) (b : A) → P a → KeyFit k → S b → GrownFull P P (join a k b))
      → {least : ℕ} {f : Frame A} {a : A} (free : List ℕ) → FrameFull P least f → 1 ≤ least → S a
      → NodeFull P (least - 1) (partnered pageIs join f.page f.lefts a f.rights free).node
  unfolding partnered
  partnered-full S pageIs join right left {least} {f} {a} free o h s = go o.left o.right o.enough o.most
    where
      go : {ls : List (Left A)} {rs : List (Sep A)} → All (LeftFull P) ls → All (SepFull P) rs → least ≤ length ls + length rs → length ls + length rs ≤ inner_most
          → NodeFull P (least - 1) (partnered pageIs join f.page ls a rs free).node
      go l (cons x r) g m = joined-full _ free _ l r (right _ _ _ s x.key x.child) (omega arith) (omega arith)
      go (cons x l) nil g m = joined-full _ free _ l nil (left _ _ _ x.child x.key s) (omega arith) (omega arith)
      go nil nil g m = absurd (omega arith)

-- ---- two inner nodes, one of them short
-- They fit in one node, or the longer has a record to spare.

module _ {A : Type 0} (P : A → Type 0) where
  together-full : {a : Inner A} {k : List ℕ} {b : Inner A} → NodeFull P (inner_least - 1) a → KeyFit k → NodeFull P (inner_least - 1) b
      → suc (length a.rest + length b.rest) ≤ inner_most → NodeFull P inner_least (together a k b)
  unfolding together inner_least
  together-full {a} {k} {b} s kk t fits =
      let n = length-append a.rest (record { key = k; child = b.first } ∷ b.rest) in
      made P a.page a.first _ s.head (all_append s.others (cons (record { key = kk; child = t.head }) t.others))
      (omega (arith, s.enough, t.enough)) (omega arith)

  -- the giver's records are ss, and for its last front and ss
  first-full : {a : Inner A} {k : List ℕ} (b : Inner A) {ss : List (Sep A)} → NodeFull P (inner_least - 1) a → KeyFit k → P b.first → All (SepFull P) ss
      → length a.rest < length ss → inner_least < length ss → length ss ≤ inner_most
      → GrownFull (NodeFull P inner_least) (NodeFull P inner_least) (first_given a k b ss)
  unfolding first_given inner_least
  first-full b s kk h nil f g m = absurd (omega arith)
  first-full {a} {k} b s kk h (cons {x = x} {xs = ss} j r) f g m =
      let came : List (Sep A) = record { key = k; child = b.first } ∷ [] in
      let n = length-append a.rest came in
      parts (made P a.page a.first (a.rest ++ came) s.head (all_append s.others (cons (record { key = kk; child = h }) nil)) (omega (arith, s.enough)) (omega arith))
      j.key (made P b.page x.child ss j.child r (omega arith) (omega arith))

  last-full : (a : Inner A) {k : List ℕ} {b : Inner A} {front ss : List (Sep A)} → NodeFull P (inner_least - 1) b → KeyFit k → P a.first
      → All (SepFull P) front → All (SepFull P) ss → 1 ≤ length ss
      → length b.rest < inner_most → inner_least < length front + length ss → length front + length ss ≤ inner_most
      → GrownFull (NodeFull P inner_least) (NodeFull P inner_least) (last_given a k b front ss)
  unfolding last_given inner_least
  last-full a s kk h fr nil l f g m = absurd (omega arith)
  last-full a {k} {b} {front} s kk h fr (cons {x = x} j nil) l f g m =
      let came : List (Sep A) = record { key = k; child = b.first } ∷ b.rest in
      parts (made P a.page a.first front h fr (omega arith) (omega arith)) j.key
      (made P b.page x.child came j.child (cons (record { key = kk; child = s.head }) s.others) (omega (arith, s.enough)) (omega arith))
  last-full a {front = front} s kk h fr (cons {x = x} j (cons i r)) l f g m =
      let n = length-append front (x ∷ []) in
      last-full a {front = front ++ (x ∷ [])} s kk h (all_append fr (cons j nil)) (cons i r) (omega arith) f (omega arith) (omega arith)

  rotated-full : {a : Inner A} {k : List ℕ} {b : Inner A} → NodeFull P (inner_least - 1) a → KeyFit k → NodeFull P (inner_least - 1) b
      → (length a.rest ≡ length b.rest → ⊥) → inner_most ≤ length a.rest + length b.rest
      → GrownFull (NodeFull P inner_least) (NodeFull P inner_least) (rotated a k b)
  unfolding rotated inner_least inner_most
  rotated-full {a} {k} {b} s kk t differ many =
      let most = s.most in
      let other = t.most in
      either_by (GrownFull (NodeFull P inner_least) (NodeFull P inner_least)) _ _ _
      (λ e. let less = (leb_iff (suc (length a.rest)) (length b.rest)).0 e in first-full b s kk t.head t.others less (omega arith) other)
      (λ e. let greater = leb-not (suc (length a.rest)) (length b.rest) e in
      last-full a t kk s.head nil s.others (omega arith) (omega arith) (omega arith) (omega arith))

  -- one of the two may be short, and then the other is not
  pub join-full : {a : Inner A} {k : List ℕ} {b : Inner A} → NodeFull P (inner_least - 1) a → KeyFit k → NodeFull P (inner_least - 1) b
      → (length a.rest ≡ length b.rest → ⊥) → GrownFull (NodeFull P inner_least) (NodeFull P inner_least) (join_inner a k b)
  unfolding join_inner
  join-full {a} {k} {b} s kk t differ =
      let both = suc (length a.rest + length b.rest) in
      either_by (GrownFull (NodeFull P inner_least) (NodeFull P inner_least)) (leb both inner_most) _ _
      (λ e. still (together-full s kk t ((leb_iff both inner_most).0 e))) (λ e. rotated-full s kk t differ (omega (arith, leb-not both inner_most e)))

  -- "Inner with 6 records"
  pub mend_full : {least : ℕ} {f : Frame (Inner A)} {t : Inner A} (free : List ℕ) → FrameFull (NodeFull P inner_least) least f → 1 ≤ least → NodeFull P (inner_least - 1) t
      → NodeFull (NodeFull P inner_least) (least - 1) (mend_inner f t free).node
  unfolding mend_inner fill
  mend_full {least} {f} {t} free o h s =
      let Q = NodeFull P inner_least in
      either_by (λ (x : Step (Inner (Inner A))). NodeFull Q (least - 1) x.node) (leb inner_least (length t.rest)) _ _
      (λ e. let u = made P t.page t.first t.rest s.head s.others ((leb_iff inner_least (length t.rest)).0 e) s.most in
      kids-full Q (close-kids Q f.page o.left u o.right) (omega (arith, o.enough)) o.most)
      (λ e. partnered-full Q (λ (i : Inner A). NodeFull P (inner_least - 1) i × (length i.rest < inner_least)) (λ i. i.page) join_inner
      (λ a k b x kk y. join-full x.0 kk (fewer P (omega arith) y) (λ z. omega (arith, x.1, y.enough)))
      (λ a k b x kk y. join-full (fewer P (omega arith) x) kk y.0 (λ z. omega (arith, y.1, x.enough)))
      free o h (s, leb-not inner_least (length t.rest) e))
