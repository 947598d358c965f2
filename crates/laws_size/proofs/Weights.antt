-- Whatever a page weighs, a rule of change leaves a node and the free list together as heavy as before: pages are neither lost nor doubled.
use mathlib.Core.Path.{◌≡◌, refl, ap, ◌∙◌}
use mathlib.Core.List.{List, [], ◌∷◌, ◌++◌, append_assoc}
use Prim.Native.Nat.{ℕ, zero, suc, ◌+◌, ◌≤◌, ◌<◌}
use native.Mathlib.Omega.{arith}
use lib.ListN.{length, take, drop, take-append-drop, length-append, length-take}
use Rattle.octets.proofs.Choice.{either, either_by}
use Rattle.model.specs.Lists.{total, head_or}
use Rattle.model.specs.Types.{Cell, Sep, Inner, Tree, Store}
use Rattle.model.specs.Sizes.{inner_least, inner_most}
use Rattle.model.specs.Context.{Left, Frame, Context, top, under, close, fill}
use Rattle.model.specs.InLeaf.{Grown, one, two}
use Rattle.model.specs.Growing.{Step, split_right, grown, grow_step}
use Rattle.model.specs.Mending.{joined, partnered, together, first_given, last_given, rotated, join_inner, mend_inner}
use Rattle.model.proofs.Tests.{leb-not}
use Rattle.model.proofs.Lists.{total-nil, total-cons, total-append}
use Rattle.model.proofs.Sums.{total-front}
use Rattle.laws_size.proofs.Growth.{close-count}

-- ---- weights
-- w is what a page weighs, m what a child weighs.

module _ {A : Type 0} (m : A → ℕ) where
  abbrev pub by_sep : Sep A → ℕ
  by_sep s = m s.child

  abbrev pub by_left : Left A → ℕ
  by_left l = m l.child

  unfoldable pub of_grown : Grown A → ℕ
  of_grown (one a) = m a
  of_grown (two a k b) = m a + m b

module _ (w : ℕ → ℕ) where
  module _ {A : Type 0} (m : A → ℕ) where
    unfoldable pub node : Inner A → ℕ
    node t = w t.page + (m t.first + total (by_sep m) t.rest)

    unfoldable pub frame : Frame A → ℕ
    frame f = w f.page + (total (by_left m) f.lefts + total (by_sep m) f.rights)

  -- the page that joining two into one frees
  unfoldable pub frees : {A : Type 0} → ℕ → Grown A → ℕ
  frees q (one a) = w q
  frees q (two a k b) = 0

  -- a leaf weighs its page and its cells' chains
  unfoldable pub chains : List Cell → ℕ
  chains cs = total (λ c. total w c.chain) cs

  unfoldable pub weight : (h : ℕ) → Tree h → ℕ
  weight zero t = w t.page + chains t.cells
  weight (suc h) t = node (weight h) t

  unfoldable pub around : {d h : ℕ} → Context d h → ℕ
  around top = 0
  around (under {h} f c) = frame (weight h) f + around c

  -- tree, chains and free list
  unfoldable pub whole : Store → ℕ
  whole s = weight s.depth s.root + total w s.free

-- ---- one node
-- It weighs its page and its children, whichever of them is in the gap.

module _ (w : ℕ → ℕ) {A : Type 0} (m : A → ℕ) where
  pub close-weight : (p : ℕ) (ls : List (Left A)) (a : A) (rs : List (Sep A))
      → node w m (close p ls a rs) ≡ w p + (total (by_left m) ls + (m a + total (by_sep m) rs))
  unfolding close node
  close-weight p [] a rs = omega (arith, total-nil (by_left m))
  close-weight p (l ∷ ls) a rs =
      let s : Sep A = record { key = l.key; child = a } in
      omega (arith, close-weight p ls l.child (s ∷ rs), total-cons (by_sep m) s rs, total-cons (by_left m) l ls)

  pub fill-weight : (f : Frame A) (a : A) → node w m (fill f a) ≡ frame w m f + m a
  unfolding fill frame
  fill-weight f a = omega (arith, close-weight f.page f.lefts a f.rights)

  -- ---- growing
  -- The page that a split takes goes from the free list into the tree.

  split-weight : (q : ℕ) (t : Inner A) (ss : List (Sep A)) → take inner_least t.rest ++ ss ≡ t.rest → inner_most < length t.rest
      → of_grown (node w m) (split_right q t ss) ≡ node w m t + w q
  unfolding split_right of_grown node inner_least inner_most
  split-weight q t [] e h =
      absurd (omega (arith, ap length e, length-append (take 7 t.rest) [], length-take 7 t.rest))
  split-weight q t (s ∷ ss) e h =
      omega (arith, ap (λ (r : List (Sep A)). total (by_sep m) r) e, total-append (by_sep m) (take 7 t.rest) (s ∷ ss), total-cons (by_sep m) s ss)

  grown-weight : (t : Inner A) (free : List ℕ) → (inner_most < length t.rest → 1 ≤ length free)
      → of_grown (node w m) (grown t free).node + total w (grown t free).free ≡ node w m t + total w free
  unfolding grown
  grown-weight t free room =
      either_by (λ (x : Step (Grown (Inner A))). of_grown (node w m) x.node + total w x.free ≡ node w m t + total w free) _ _ _
      (λ e. unfold of_grown in refl)
      (λ e. let over = leb-not (length t.rest) inner_most e in
      omega (arith, total-front w 0 free (room over), split-weight (head_or 0 free) t (drop inner_least t.rest) (take-append-drop inner_least t.rest) over))

  -- a node that splits has a page to take
  abbrev pub PageFor : Frame A → Grown A → List ℕ → Type 0
  PageFor f (one a) free = Unit {0}
  PageFor f (two a k b) free = inner_most ≤ length f.lefts + length f.rights → 1 ≤ length free

  pub step-weight : (f : Frame A) (g : Grown A) (free : List ℕ) → PageFor f g free
      → of_grown (node w m) (grow_step f g free).node + total w (grow_step f g free).free ≡ frame w m f + (of_grown m g + total w free)
  unfolding grow_step of_grown frame
  step-weight f (one a) free room = unfold frame in omega (arith, fill-weight f a)
  step-weight f (two a k b) free room =
      let s : Sep A = record { key = k; child = b } in
      let t = close f.page f.lefts a (s ∷ f.rights) in
      omega (
        arith,
        grown-weight t free (λ e. room (omega (arith, close-count f.page f.lefts a (s ∷ f.rights)))),
        close-weight f.page f.lefts a (s ∷ f.rights),
        total-cons (by_sep m) s f.rights,
      )

  -- ---- mending
  -- The page that a merge frees goes from the tree to the free list.

  joined-weight : (p : ℕ) (ls : List (Left A)) (rs : List (Sep A)) (free : List ℕ) (q : ℕ) (g : Grown A)
      → node w m (joined p ls rs free q g).node + total w (joined p ls rs free q g).free
      ≡ w p + (total (by_left m) ls + (total (by_sep m) rs + (of_grown m g + (frees w q g + total w free))))
  unfolding joined of_grown frees
  joined-weight p ls rs free q (one a) = omega (arith, close-weight p ls a rs, total-cons w q free)
  joined-weight p ls rs free q (two a k b) =
      let s : Sep A = record { key = k; child = b } in
      omega (arith, close-weight p ls a (s ∷ rs), total-cons (by_sep m) s rs)

  pub partnered-weight : (pageIs : A → ℕ) (join : A → List ℕ → A → Grown A)
      → ((a : A) (k : List ℕ) (b : A) → of_grown m (join a k b) + frees w (pageIs b) (join a k b) ≡ m a + m b)
      → (f : Frame A) (a : A) (free : List ℕ)
      → node w m (partnered pageIs join f.page f.lefts a f.rights free).node
      + total w (partnered pageIs join f.page f.lefts a f.rights free).free ≡ frame w m f + (m a + total w free)
  unfolding frame
  partnered-weight pageIs join keeps f a free = go f.lefts f.rights
    where
      go : (ls : List (Left A)) (rs : List (Sep A))
          → node w m (partnered pageIs join f.page ls a rs free).node + total w (partnered pageIs join f.page ls a rs free).free
          ≡ w f.page + (total (by_left m) ls + total (by_sep m) rs) + (m a + total w free)
      go ls (s ∷ ss) =
          unfold partnered in omega (arith, joined-weight f.page ls ss free (pageIs s.child) (join a s.key s.child), keeps a s.key s.child, total-cons (by_sep m) s ss)
      go (l ∷ ls) [] =
          unfold partnered in omega (arith, joined-weight f.page ls [] free (pageIs a) (join l.child l.key a), keeps l.child l.key a, total-cons (by_left m) l ls)
      go [] [] = unfold partnered in omega (arith, close-weight f.page [] a [])

-- ---- two inner nodes
-- They merge or pass on a record, with the child that it has.

module _ (w : ℕ → ℕ) {A : Type 0} (m : A → ℕ) where
  -- what two neighbours become weighs what they weighed, with the page that it frees
  abbrev Keeps : Inner A → Inner A → Grown (Inner A) → Type 0
  Keeps a b g = of_grown (node w m) g + frees w b.page g ≡ node w m a + node w m b

  first-weight : (a : Inner A) (k : List ℕ) (b : Inner A) (ss : List (Sep A)) → b.rest ≡ ss → Keeps a b (first_given a k b ss)
  unfolding of_grown frees first_given node
  first-weight a k b [] e = omega arith
  first-weight a k b (s ∷ ss) e =
      let t : Sep A = record { key = k; child = b.first } in
      omega (arith, ap (λ (l : List (Sep A)). total (by_sep m) l) e, total-cons (by_sep m) s ss, total-append (by_sep m) a.rest (t ∷ []), total-cons (by_sep m) t [], total-nil (by_sep m))

  last-weight : (a : Inner A) (k : List ℕ) (b : Inner A) (front ss : List (Sep A)) → front ++ ss ≡ a.rest → Keeps a b (last_given a k b front ss)
  unfolding of_grown frees last_given node
  last-weight a k b front [] e = omega arith
  last-weight a k b front (s ∷ []) e =
      let t : Sep A = record { key = k; child = b.first } in
      omega (arith, ap (λ (l : List (Sep A)). total (by_sep m) l) e, total-append (by_sep m) front (s ∷ []), total-cons (by_sep m) s [], total-nil (by_sep m), total-cons (by_sep m) t b.rest)
  last-weight a k b front (s ∷ t ∷ ss) e = last-weight a k b (front ++ (s ∷ [])) (t ∷ ss) (append_assoc front (s ∷ []) (t ∷ ss) ∙ e)

  together-weight : (a : Inner A) (k : List ℕ) (b : Inner A) → node w m (together a k b) + w b.page ≡ node w m a + node w m b
  unfolding together node
  together-weight a k b =
      let t : Sep A = record { key = k; child = b.first } in
      omega (arith, total-append (by_sep m) a.rest (t ∷ b.rest), total-cons (by_sep m) t b.rest)

  inner-weight : (a : Inner A) (k : List ℕ) (b : Inner A) → Keeps a b (join_inner a k b)
  unfolding join_inner rotated
  inner-weight a k b =
      either (Keeps a b) _ _ _ (unfold of_grown frees in together-weight a k b)
      (either (Keeps a b) _ _ _ (first-weight a k b b.rest refl) (last-weight a k b [] a.rest refl))

  pub mend_weight : (f : Frame (Inner A)) (t : Inner A) (free : List ℕ)
      → node w (node w m) (mend_inner f t free).node + total w (mend_inner f t free).free ≡ frame w (node w m) f + (node w m t + total w free)
  unfolding mend_inner
  mend_weight f t free =
      either (λ (x : Step (Inner (Inner A))). node w (node w m) x.node + total w x.free ≡ frame w (node w m) f + (node w m t + total w free)) _ _ _
      (omega (arith, fill-weight w (node w m) f t))
      (partnered-weight w (node w m) (λ i. i.page) join_inner inner-weight f t free)
