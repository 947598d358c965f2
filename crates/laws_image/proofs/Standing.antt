-- Each page of the free list and of a chain names the next, so where these pages stand the lists are read back.
use mathlib.Core.Path.{◌≡◌, refl}
use mathlib.Core.Bool.{false}
use mathlib.Core.List.{List, [], ◌∷◌}
use Prim.Native.Nat.{ℕ, zero, suc, ◌*◌, ◌≤◌}
use native.Mathlib.Omega.{arith}
use lib.ListN.{length, get_or, drop, length-drop, take-append-drop}
use lib.Dec.{eqb}
use borrow.Author.Tests.{ne_eqb}
use Rattle.octets.specs.Choice.{choose}
use Rattle.model.specs.Lists.{gather, head_or}
use Rattle.model.specs.Sizes.{payload}
use Rattle.model.specs.Image.{Page, chain_pages, free_pages}
use Rattle.model.specs.Decode.{chain_from, free_from, held_by}
use Rattle.model.proofs.Each.{All, nil, cons}
use Rattle.laws_image.proofs.Layouts.{of_free-to_free, of_over-to_over}

-- the pages qs stand at their numbers in an image whose pages have the usable bytes ps
abbrev pub Standing : List (List ℕ) → List Page → Type 0
Standing ps qs = All (λ q. get_or ps q.number [] ≡ q.bytes) qs

-- no number among them means none
abbrev pub Proper : List ℕ → Type 0
Proper ps = All (λ p. 1 ≤ p) ps

pub free_from-standing : (L : ℕ) (ps : List (List ℕ)) (k : ℕ) (free : List ℕ) → length free ≤ k → Proper free → Standing ps (free_pages L free)
    → free_from ps k (head_or 0 free) ≡ free
unfolding free_from free_pages head_or choose
free_from-standing L ps zero [] h nil nil = refl
free_from-standing L ps zero (p ∷ free) h r g = absurd (omega arith)
free_from-standing L ps (suc k) [] h nil nil = refl
free_from-standing L ps (suc k) (p ∷ free) h (cons o r) (cons e g) =
    let n : eqb p 0 ≡ false = ne_eqb p 0 (λ z. omega arith) in
    rw (n, e, of_free-to_free L (head_or 0 free), free_from-standing L ps k free (omega arith) r g)

module _ (L : ℕ) (ps : List (List ℕ)) where
  pub chain_from-standing : (chain v : List ℕ) → Standing ps (chain_pages L chain v) → chain_from ps (length chain) (head_or 0 chain) ≡ chain
  unfolding chain_from chain_pages head_or
  chain_from-standing [] v nil = refl
  chain_from-standing (p ∷ chain) v (cons e g) = rw (e, of_over-to_over, chain_from-standing chain (drop (payload L) v) g)

  -- a chain that is long enough holds the whole value
  pub held_by-standing : (chain v : List ℕ) → length v ≤ length chain * payload L → Standing ps (chain_pages L chain v) → held_by ps chain ≡ v
  unfolding held_by gather chain_pages
  held_by-standing [] [] h nil = refl
  held_by-standing [] (x ∷ v) h nil = absurd (omega arith)
  held_by-standing (p ∷ chain) v h (cons e g) =
      rw (e, of_over-to_over, held_by-standing chain (drop (payload L) v) (simp length-drop (omega arith)) g) (take-append-drop (payload L) v)
