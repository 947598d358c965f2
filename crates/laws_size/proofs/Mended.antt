-- What mending frees: each step puts a page before the free list or leaves it, whatever the list, so the pages freed are the list that mending makes of none.
use mathlib.Core.Path.{◌≡◌, refl, sym, ◌∙◌}
use mathlib.Core.Bool.{Bool, true, false}
use mathlib.Core.List.{List, [], ◌∷◌, ◌++◌, append_assoc}
use Prim.Native.Nat.{ℕ, suc, ◌+◌, ◌≤◌}
use native.Mathlib.Omega.{arith}
use lib.Dec.{leb}
use lib.ListN.{length}
use Rattle.octets.specs.Choice.{choose}
use Rattle.octets.proofs.Choice.{either_by}
use Rattle.model.specs.Types.{Leaf, Sep, Inner, Tree}
use Rattle.model.specs.Sizes.{leaf_least, inner_least, costs}
use Rattle.model.specs.Context.{Left, Frame, Context, top, under, fill}
use Rattle.model.specs.InLeaf.{Grown, one, two}
use Rattle.model.specs.Growing.{Step}
use Rattle.model.specs.Mending.{joined, partnered, join_leaves, mend_leaf, join_inner, mend_inner, low_root, mend_up, settled}
use Rattle.model.proofs.Tests.{leb-not}
use Rattle.laws_size.proofs.Full.{least_cost, least_records, Around}
use Rattle.laws_size.proofs.Growth.{close-count}

-- the pages that mending a changed leaf frees, the last freed first
unfoldable pub mended : {d : ℕ} → ℕ → Context d 0 → Leaf → List ℕ
mended L c l = (settled L 0 c l []).free

-- ---- one step
-- A step that does the same whatever the free list, and puts its pages before it.

record Frees {A : Type 0} (step : List ℕ → Step A) (old : List ℕ) : Type 0 where
  node : (step old).node ≡ (step []).node
  free : (step old).free ≡ (step []).free ++ old

frees-choose : {A : Type 0} (b : Bool) (x y : List ℕ → Step A) (free : List ℕ) → Frees x free → Frees y free → Frees (λ fs. choose b (x fs) (y fs)) free
unfolding choose
frees-choose true x y free p q = record { node = p.node; free = p.free }
frees-choose false x y free p q = record { node = q.node; free = q.free }

joined-frees : {A : Type 0} (p : ℕ) (ls : List (Left A)) (rs : List (Sep A)) (q : ℕ) (g : Grown A) (free : List ℕ) → Frees (λ fs. joined p ls rs fs q g) free
unfolding joined
joined-frees p ls rs q (one a) free = record { node = refl; free = refl }
joined-frees p ls rs q (two a k b) free = record { node = refl; free = refl }

module _ {A : Type 0} (pageIs : A → ℕ) (join : A → List ℕ → A → Grown A) where
  partnered-frees : (p : ℕ) (ls : List (Left A)) (a : A) (rs : List (Sep A)) (free : List ℕ) → Frees (λ fs. partnered pageIs join p ls a rs fs) free
  unfolding partnered
  partnered-frees p ls a (s ∷ ss) free = joined-frees p ls ss (pageIs s.child) (join a s.key s.child) free
  partnered-frees p (l ∷ ls) a [] free = joined-frees p ls [] (pageIs a) (join l.child l.key a) free
  partnered-frees p [] a [] free = record { node = refl; free = refl }

mend_inner-frees : {A : Type 0} (f : Frame (Inner A)) (t : Inner A) (free : List ℕ) → Frees (λ fs. mend_inner f t fs) free
unfolding mend_inner
mend_inner-frees f t free =
    frees-choose _ (λ fs. record { node = fill f t; free = fs }) _ free (record { node = refl; free = refl })
    (partnered-frees (λ i. i.page) join_inner f.page f.lefts t f.rights free)

mend_leaf-frees : (L : ℕ) (f : Frame Leaf) (l : Leaf) (free : List ℕ) → Frees (λ fs. mend_leaf L f l fs) free
unfolding mend_leaf
mend_leaf-frees L f l free =
    frees-choose _ (λ fs. record { node = fill f l; free = fs }) _ free (record { node = refl; free = refl })
    (partnered-frees (λ m. m.page) (join_leaves L) f.page f.lefts l f.rights free)

-- ---- up to the root
-- So do all the steps together.

low_free : (n h p : ℕ) (a : Tree h) (ss : List (Sep (Tree h))) (free : List ℕ) → (low_root n h p a ss free).free ≡ (low_root 0 h p a ss []).free ++ free
unfolding low_root
low_free n h p a [] free = refl
low_free n h p a (s ∷ ss) free = refl

-- a step leaves fs of free and ps of none, and those above put their pages before either
onward : (x y above ps fs free : List ℕ) → x ≡ above ++ fs → y ≡ above ++ ps → fs ≡ ps ++ free → x ≡ y ++ free
onward x y above ps fs free p q r = p ∙ rw (r, q) (sym (append_assoc above ps free))

mend_up-free : {d h : ℕ} (n : ℕ) (c : Context d (suc h)) (t : Inner (Tree h)) (free : List ℕ) → (mend_up n c t free).free ≡ (mend_up 0 c t []).free ++ free
unfolding mend_up
mend_up-free {h = h} n top t free = low_free n h t.page t.first t.rest free
mend_up-free n (under f c) t free =
    let s = mend_inner f t free in
    let z = mend_inner f t [] in
    let e = mend_inner-frees f t free in
    onward _ _ (mend_up 0 c z.node []).free z.free s.free free
    (mend_up-free n c s.node s.free ∙ rw e.node) (mend_up-free 0 c z.node z.free) e.free

pub settled-free : {d : ℕ} (L n : ℕ) (c : Context d 0) (l : Leaf) (free : List ℕ) → (settled L n c l free).free ≡ mended L c l ++ free
unfolding settled mended
settled-free L n top l free = refl
settled-free L n (under f c) l free =
    let s = mend_leaf L f l free in
    let z = mend_leaf L f l [] in
    let e = mend_leaf-frees L f l free in
    onward _ _ (mend_up 0 c z.node []).free z.free s.free free
    (mend_up-free n c s.node s.free ∙ rw e.node) (mend_up-free 0 c z.node z.free) e.free

-- ---- nothing to mend
-- A leaf that is full enough leaves every node above it as full as it was, so nothing is freed.

low-still : (n h p : ℕ) (a : Tree h) (ss : List (Sep (Tree h))) (free : List ℕ) → 1 ≤ length ss → (low_root n h p a ss free).free ≡ free
unfolding low_root
low-still n h p a [] free some = absurd (omega arith)
low-still n h p a (s ∷ ss) free some = refl

fill-count : {A : Type 0} (f : Frame A) (a : A) → length (fill f a).rest ≡ length f.lefts + length f.rights
unfolding fill
fill-count f a = close-count f.page f.lefts a f.rights

module _ (L : ℕ) where
  mend_up-still : {d h : ℕ} (n : ℕ) (c : Context d (suc h)) (t : Inner (Tree h)) (free : List ℕ) → Around L c → least_records c ≤ length t.rest
      → (mend_up n c t free).free ≡ free
  unfolding mend_up mend_inner
  mend_up-still {h = h} n top t free a enough = low-still n h t.page t.first t.rest free enough
  mend_up-still n (under f c) t free a enough =
      either_by (λ (x : Step (Inner (Inner _))). (mend_up n c x.node x.free).free ≡ free) (leb inner_least (length t.rest)) _ _
      (λ e. mend_up-still n c (fill f t) free a.1 (omega (arith, fill-count f t, a.0.enough)))
      (λ e. absurd (omega (arith, leb-not inner_least (length t.rest) e)))

  pub mended-none : {d : ℕ} (c : Context d 0) (l : Leaf) → Around L c → least_cost c ≤ costs l.cells → mended L c l ≡ []
  unfolding mended settled mend_leaf
  mended-none top l a enough = refl
  mended-none (under f c) l a enough =
      either_by (λ (x : Step (Inner Leaf)). (mend_up 0 c x.node x.free).free ≡ []) (leb leaf_least (costs l.cells)) _ _
      (λ e. mend_up-still 0 c (fill f l) [] a.1 (omega (arith, fill-count f l, a.0.enough)))
      (λ e. absurd (omega (arith, leb-not leaf_least (costs l.cells) e)))
