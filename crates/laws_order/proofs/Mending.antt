-- Mending keeps the line of a tree but where leaves are joined: merging and rotating inner nodes move no item.
use mathlib.Core.Path.{◌≡◌, refl, sym, ◌∙◌}
use mathlib.Core.List.{List, [], ◌∷◌, ◌++◌, append_assoc, append-nil}
use Prim.Native.Nat.{ℕ, suc}
use Rattle.octets.proofs.Choice.{either}
use Rattle.model.specs.Lists.{gather}
use Rattle.model.specs.Types.{Leaf, Sep, Inner, Tree}
use Rattle.model.specs.Context.{Left, Frame, Context, top, under, fill}
use Rattle.model.specs.InLeaf.{Grown, one, two}
use Rattle.model.specs.Growing.{Step}
use Rattle.model.specs.Mending.{joined, partnered, join_leaves, mend_leaf, together, first_given, last_given, rotated, join_inner, mend_inner, low_root, mend_up, settled}
use Rattle.model.proofs.Lists.{gather_append}
use Rattle.laws_order.specs.Reading.{strung, lefts, rights, both, before, after}
use Rattle.laws_order.specs.Line.{Item, wall, fence, line, of_store, ahead, behind}
use Rattle.laws_order.proofs.Items.{Finer, finer_same, finer_then, finer_within}
use Rattle.laws_order.proofs.Reading.{close-strung, strung-parted}
use Rattle.laws_order.proofs.Parting.{join-line}

-- Inner nodes -----------------------------------------------------------------------------------------------------------
-- What two neighbours with a key between them give, they give together and after a rotation.

module _ {A B : Type 0} (w : List ℕ → List B) (m : A → List B) where
  abbrev between : Inner A → List ℕ → Inner A → List B
  between a k b = strung w m a ++ (w k ++ strung w m b)

  first-strung : (a : Inner A) (k : List ℕ) (b : Inner A) (ss : List (Sep A)) → b.rest ≡ ss → both w (strung w m) (first_given a k b ss) ≡ between a k b
  unfolding both first_given strung gather
  first-strung a k b [] e = refl
  first-strung a k b (s ∷ ss) e = simp (e, gather_append, append_assoc)

  last-strung : (a : Inner A) (k : List ℕ) (b : Inner A) (front ss : List (Sep A)) → front ++ ss ≡ a.rest
      → both w (strung w m) (last_given a k b front ss) ≡ between a k b
  unfolding both last_given
  last-strung a k b front [] e = refl
  last-strung a k b front (s ∷ []) e = unfold strung gather in rw (← e) (simp (gather_append, append_assoc))
  last-strung a k b front (s ∷ t ∷ ss) e = last-strung a k b (front ++ (s ∷ [])) (t ∷ ss) (append_assoc front (s ∷ []) (t ∷ ss) ∙ e)

  pub inner-strung : (a : Inner A) (k : List ℕ) (b : Inner A) → both w (strung w m) (join_inner a k b) ≡ between a k b
  unfolding join_inner rotated both together
  inner-strung a k b =
      either (λ (x : Grown (Inner A)). both w (strung w m) x ≡ between a k b) _ _ _
      (strung-parted w m a.page a.page b.page a.first a.rest k b.first b.rest)
      (either (λ (x : Grown (Inner A)). both w (strung w m) x ≡ between a k b) _ _ _
      (first-strung a k b b.rest refl) (last-strung a k b [] a.rest refl))

-- The partner -----------------------------------------------------------------------------------------------------------
-- Given that joining two neighbours refines their line, so does mending a child with its partner.

module _ {A : Type 0} (m : A → List Item) where
  -- the line around a child, in its parent
  abbrev framed : List (Left A) → List Item → List (Sep A) → List Item
  framed ls mid rs = lefts fence m ls ++ (mid ++ rights fence m rs)

  joined_line : (p : ℕ) (ls : List (Left A)) (rs : List (Sep A)) (free : List ℕ) (q : ℕ) (g : Grown A)
      → strung fence m (joined p ls rs free q g).node ≡ framed ls (both fence m g) rs
  unfolding joined both rights gather
  joined_line p ls rs free q (one a) = close-strung fence m p ls a rs
  joined_line p ls rs free q (two a k b) = close-strung fence m p ls a _ ∙ simp append_assoc

  open_right : (ls : List (Left A)) (a : A) (s : Sep A) (ss : List (Sep A))
      → framed ls (m a ++ (wall s.key ∷ m s.child)) ss ≡ framed ls (m a) (s ∷ ss)
  unfolding rights gather
  open_right ls a s ss = simp append_assoc

  open_left : (l : Left A) (ls : List (Left A)) (a : A) → framed ls (m l.child ++ (wall l.key ∷ m a)) [] ≡ framed (l ∷ ls) (m a) []
  unfolding lefts
  open_left l ls a = simp append_assoc

  module _ (pageIs : A → ℕ) (join : A → List ℕ → A → Grown A) (refines : (a : A) (k : List ℕ) (b : A) → Finer (m a ++ (wall k ∷ m b)) (both fence m (join a k b))) where
    pub partnered-line : (p : ℕ) (ls : List (Left A)) (a : A) (rs : List (Sep A)) (free : List ℕ)
        → Finer (framed ls (m a) rs) (strung fence m (partnered pageIs join p ls a rs free).node)
    unfolding partnered
    partnered-line p ls a (s ∷ ss) free =
        finer_then (finer_then (finer_same (open_right ls a s ss)) (finer_within (lefts fence m ls) (rights fence m ss) (refines a s.key s.child)))
        (finer_same (joined_line p ls ss free _ _))
    partnered-line p (l ∷ ls) a [] free =
        finer_then (finer_then (finer_same (open_left l ls a)) (finer_within (lefts fence m ls) (rights fence m []) (refines l.child l.key a)))
        (finer_same (joined_line p ls [] free _ _))
    partnered-line p [] a [] free = finer_same (close-strung fence m p [] a [])

-- One step --------------------------------------------------------------------------------------------------------------

leaf-line : (L : ℕ) (f : Frame Leaf) (l : Leaf) (free : List ℕ)
    → Finer (framed (line 0) f.lefts (line 0 l) f.rights) (line 1 (mend_leaf L f l free).node)
unfolding mend_leaf fill line
leaf-line L f l free =
    either (λ (x : Step (Inner Leaf)). Finer (framed (line 0) f.lefts (line 0 l) f.rights) (strung fence (line 0) x.node)) _ _ _
    (finer_same (close-strung fence (line 0) f.page f.lefts l f.rights))
    (partnered-line (line 0) _ (join_leaves L) (join-line L) f.page f.lefts l f.rights free)

inner-line : (h : ℕ) (f : Frame (Tree (suc h))) (t : Inner (Tree h)) (free : List ℕ)
    → Finer (framed (line (suc h)) f.lefts (line (suc h) t) f.rights) (line (suc (suc h)) (mend_inner f t free).node)
unfolding mend_inner fill line
inner-line h f t free =
    let m = strung fence (line h) in
    either (λ (x : Step (Inner (Inner (Tree h)))). Finer (framed m f.lefts (m t) f.rights) (strung fence m x.node)) _ _ _
    (finer_same (close-strung fence m f.page f.lefts t f.rights))
    (partnered-line m _ join_inner (λ a k b. finer_same (inner-strung fence (line h) a k b)) f.page f.lefts t f.rights free)

-- All the way -----------------------------------------------------------------------------------------------------------

-- a root with no record gives what its child gives
low-line : (n h p : ℕ) (a : Tree h) (ss : List (Sep (Tree h))) (free : List ℕ)
    → of_store (low_root n h p a ss free) ≡ line (suc h) (record { page = p; first = a; rest = ss })
unfolding low_root of_store line strung gather
low-line n h p a [] free = sym (append-nil _)
low-line n h p a (s ∷ ss) free = refl

-- a step further up, where the line around a child is changed
up_line : {d h : ℕ} {ys : List Item} (f : Frame (Tree h)) (c : Context d (suc h)) (xs : List Item) → Finer (framed (line h) f.lefts xs f.rights) ys
    → Finer (ahead (under f c) ++ (xs ++ behind (under f c))) (ahead c ++ (ys ++ behind c))
unfolding before after
up_line f c xs p = finer_then (finer_same (simp append_assoc)) (finer_within (ahead c) (behind c) p)

mend_up-line : {d h : ℕ} (n : ℕ) (c : Context d (suc h)) (t : Inner (Tree h)) (free : List ℕ)
    → Finer (ahead c ++ (line (suc h) t ++ behind c)) (of_store (mend_up n c t free))
unfolding mend_up
mend_up-line {h = h} n top t free = finer_same (low-line n h t.page t.first t.rest free ∙ unfold before after in sym (append-nil _))
mend_up-line {h = h} n (under f c) t free = finer_then (up_line f c (line (suc h) t) (inner-line h f t free)) (mend_up-line n c _ _)

-- the line after a leaf was changed, whatever was mended
pub settled-line : {d : ℕ} (L n : ℕ) (c : Context d 0) (l : Leaf) (free : List ℕ) → Finer (ahead c ++ (line 0 l ++ behind c)) (of_store (settled L n c l free))
unfolding settled
settled-line L n top l free = finer_same (unfold before after of_store in sym (append-nil _))
settled-line L n (under f c) l free = finer_then (up_line f c (line 0 l) (leaf-line L f l free)) (mend_up-line n c _ _)
