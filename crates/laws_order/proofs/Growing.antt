-- Going up after a split keeps what a tree gives from the left: an inner split and a new root only part what was there.
use mathlib.Core.Path.{◌≡◌, refl, sym, ap, ◌∙◌}
use mathlib.Core.List.{List, [], ◌∷◌, ◌++◌, append_assoc, append-nil}
use Prim.Native.Nat.{ℕ, suc}
use lib.ListN.{take, drop, take-append-drop}
use Rattle.octets.proofs.Choice.{either}
use Rattle.model.specs.Lists.{gather}
use Rattle.model.specs.Types.{Sep, Inner, Tree}
use Rattle.model.specs.Sizes.{inner_least}
use Rattle.model.specs.Context.{Frame, Context, top, under, fill}
use Rattle.model.specs.InLeaf.{Grown, one, two}
use Rattle.model.specs.Growing.{Step, split_right, grown, grow_step, new_root, grow_up}
use Rattle.laws_order.specs.Reading.{strung, lefts, rights, both, before, after}
use Rattle.laws_order.proofs.Reading.{close-strung, strung-parted}

-- One step --------------------------------------------------------------------------------------------------------------

module _ {A B : Type 0} (w : List ℕ → List B) (m : A → List B) where
  split-strung : (q : ℕ) (t : Inner A) (ss : List (Sep A)) → take inner_least t.rest ++ ss ≡ t.rest
      → both w (strung w m) (split_right q t ss) ≡ strung w m t
  unfolding both split_right
  split-strung q t [] e = refl
  split-strung q t (s ∷ ss) e =
      sym (strung-parted w m t.page t.page q t.first (take inner_least t.rest) s.key s.child ss)
      ∙ ap (λ (l : List (Sep A)). strung w m (record { page = t.page; first = t.first; rest = l })) e

  grown-strung : (t : Inner A) (free : List ℕ) → both w (strung w m) (grown t free).node ≡ strung w m t
  unfolding grown both
  grown-strung t free =
      either (λ (x : Step (Grown (Inner A))). both w (strung w m) x.node ≡ strung w m t) _ _ _
      refl
      (split-strung _ t (drop inner_least t.rest) (take-append-drop inner_least t.rest))

  step-strung : (f : Frame A) (g : Grown A) (free : List ℕ)
      → both w (strung w m) (grow_step f g free).node ≡ lefts w m f.lefts ++ (both w m g ++ rights w m f.rights)
  unfolding grow_step both fill rights gather
  step-strung f (one a) free = close-strung w m f.page f.lefts a f.rights
  step-strung f (two a k b) free = grown-strung _ free ∙ (close-strung w m f.page f.lefts a _ ∙ simp append_assoc)

-- All the way -----------------------------------------------------------------------------------------------------------

module _ {B : Type 0} (w : List ℕ → List B) (m : (h : ℕ) → Tree h → List B) (up : (h : ℕ) (t : Inner (Tree h)) → m (suc h) t ≡ strung w (m h) t) where
  both_up : (h : ℕ) (g : Grown (Inner (Tree h))) → both w (m (suc h)) g ≡ both w (strung w (m h)) g
  unfolding both
  both_up h (one t) = up h t
  both_up h (two a k b) = rw (up h a, up h b)

  root_reads : (n d : ℕ) (g : Grown (Tree d)) (free : List ℕ) → m (new_root n d g free).depth (new_root n d g free).root ≡ both w (m d) g
  unfolding new_root both strung gather
  root_reads n d (one t) free = refl
  root_reads n d (two a k b) free = up d _ ∙ simp append-nil

  pub grow_up_reads : {d h : ℕ} (n : ℕ) (c : Context d h) (g : Grown (Tree h)) (free : List ℕ)
      → m (grow_up n c g free).depth (grow_up n c g free).root ≡ before w m c ++ (both w (m h) g ++ after w m c)
  unfolding grow_up before after
  grow_up_reads {d} n top g free = root_reads n d g free ∙ sym (append-nil _)
  grow_up_reads n (under {h} f c) g free = grow_up_reads n c _ _ ∙ simp (both_up h, step-strung w (m h) f g free, append_assoc)
