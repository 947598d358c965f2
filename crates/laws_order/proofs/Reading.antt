-- What a tree gives from the left is what is before a place, what stands there and what is after it.
use mathlib.Core.Path.{◌≡◌, refl, sym, ◌∙◌}
use mathlib.Core.List.{List, [], ◌∷◌, ◌++◌, append_assoc, append-nil}
use Prim.Native.Nat.{ℕ, suc}
use Rattle.model.specs.Lists.{gather}
use Rattle.model.specs.Types.{Sep, Inner, Tree}
use Rattle.model.specs.Context.{Left, Frame, Context, top, under, close, fill, plug}
use Rattle.model.proofs.Lists.{gather_append}
use Rattle.laws_order.specs.Reading.{strung, lefts, rights, before, after}

-- In an inner node ------------------------------------------------------------------------------------------------------
-- w is what a separator gives, m what a child gives.

module _ {A B : Type 0} (w : List ℕ → List B) (m : A → List B) where
  pub close-strung : (p : ℕ) (ls : List (Left A)) (a : A) (rs : List (Sep A)) → strung w m (close p ls a rs) ≡ lefts w m ls ++ (m a ++ rights w m rs)
  unfolding close strung lefts rights gather
  close-strung p [] a rs = refl
  close-strung p (l ∷ ls) a rs = close-strung p ls l.child (record { key = l.key; child = a } ∷ rs) ∙ simp append_assoc

  -- an inner node is two, of its records before one of them and after it, with that one's key between
  pub strung-parted : (p q r : ℕ) (a : A) (xs : List (Sep A)) (k : List ℕ) (b : A) (ys : List (Sep A))
      → strung w m (record { page = p; first = a; rest = xs ++ (record { key = k; child = b } ∷ ys) })
      ≡ strung w m (record { page = q; first = a; rest = xs }) ++ (w k ++ strung w m (record { page = r; first = b; rest = ys }))
  unfolding strung gather
  strung-parted p q r a xs k b ys = simp (gather_append, append_assoc)

-- In a whole tree -------------------------------------------------------------------------------------------------------
-- m is what a tree of each level gives: an inner node what its children and separators give.

module _ {B : Type 0} (w : List ℕ → List B) (m : (h : ℕ) → Tree h → List B) (up : (h : ℕ) (t : Inner (Tree h)) → m (suc h) t ≡ strung w (m h) t) where
  fill_reads : (h : ℕ) (f : Frame (Tree h)) (t : Tree h) → m (suc h) (fill f t) ≡ lefts w (m h) f.lefts ++ (m h t ++ rights w (m h) f.rights)
  unfolding fill
  fill_reads h f t = up h _ ∙ close-strung w (m h) f.page f.lefts t f.rights

  pub plug_reads : {d h : ℕ} (c : Context d h) (t : Tree h) → m d (plug c t) ≡ before w m c ++ (m h t ++ after w m c)
  unfolding plug before after
  plug_reads top t = sym (append-nil _)
  plug_reads (under {h} f c) t = plug_reads c (fill f t) ∙ simp (fill_reads h f t, append_assoc)

-- A reading of a reading ------------------------------------------------------------------------------------------------
-- Where f makes of what each child and separator gives what they give in another reading, it does so around every place.

module _ {A B C : Type 0} (f : B → List C) (w : List ℕ → List B) (m : A → List B) (w' : List ℕ → List C) (m' : A → List C)
    (keys : (k : List ℕ) → gather f (w k) ≡ w' k) (same : (a : A) → gather f (m a) ≡ m' a) where
  rights-of : (ss : List (Sep A)) → gather f (rights w m ss) ≡ rights w' m' ss
  unfolding rights gather
  rights-of [] = refl
  rights-of (s ∷ ss) = simp (gather_append, keys s.key, same s.child, rights-of ss)

  lefts-of : (ls : List (Left A)) → gather f (lefts w m ls) ≡ lefts w' m' ls
  unfolding lefts gather
  lefts-of [] = refl
  lefts-of (l ∷ ls) = simp (gather_append, keys l.key, same l.child, lefts-of ls)

  pub strung-of : (t : Inner A) → gather f (strung w m t) ≡ strung w' m' t
  unfolding strung rights
  strung-of t = gather_append f (m t.first) _ ∙ rw (same t.first, rights-of t.rest)

module _ {B C : Type 0} (f : B → List C) (w : List ℕ → List B) (m : (h : ℕ) → Tree h → List B) (w' : List ℕ → List C) (m' : (h : ℕ) → Tree h → List C)
    (keys : (k : List ℕ) → gather f (w k) ≡ w' k) (same : (h : ℕ) (t : Tree h) → gather f (m h t) ≡ m' h t) where
  pub before_of : {d h : ℕ} (c : Context d h) → gather f (before w m c) ≡ before w' m' c
  unfolding before gather
  before_of top = refl
  before_of (under {h} g c) = gather_append f (before w m c) _ ∙ rw (before_of c, lefts-of f w (m h) w' (m' h) keys (same h) g.lefts)

  pub after-of : {d h : ℕ} (c : Context d h) → gather f (after w m c) ≡ after w' m' c
  unfolding after gather
  after-of top = refl
  after-of (under {h} g c) = gather_append f (rights w (m h) g.rights) _ ∙ rw (after-of c, rights-of f w (m h) w' (m' h) keys (same h) g.rights)
