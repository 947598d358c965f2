-- Tests all over a tree: by induction on the level, two tests at once are the two one after the other, and a test all over says a property all over.
use mathlib.Core.Path.{◌≡◌, refl, ap, ◌∙◌}
use mathlib.Core.Logic.{◌↔◌}
use mathlib.Core.Bool.{Bool, true, ◌&&◌, and-eq-true_iff}
use Prim.Native.Nat.{ℕ, zero, suc}
use Rattle.model.specs.Lists.{every}
use Rattle.model.specs.Types.{Leaf, Sep, Inner, Tree}
use Rattle.model.specs.Accept.{every_child, throughout}
use Rattle.model.proofs.Tests.{and-true, and_swap}
use Rattle.model.proofs.Each.{All, every_iff, every-and}
use Rattle.model.proofs.Lists.{every-same}

-- ---- the children of a node
-- The first, and those behind the separators.

module _ {A : Type 0} where
  pub every_child-same : (f g : A → Bool) → ((a : A) → f a ≡ g a) → (t : Inner A) → every_child f t ≡ every_child g t
  unfolding every_child
  every_child-same f g e t = rw (e t.first, every-same (λ (s : Sep A). f s.child) (λ s. g s.child) (λ s. e s.child) t.rest)

  pub every_child-and : (f g : A → Bool) (t : Inner A) → every_child (λ a. f a && g a) t ≡ (every_child f t && every_child g t)
  unfolding every_child
  every_child-and f g t =
      rw (every-and (λ (s : Sep A). f s.child) (λ s. g s.child) t.rest)
      (and_swap (f t.first) (g t.first) (every (λ s. f s.child) t.rest) (every (λ s. g s.child) t.rest))

  -- P of each child
  abbrev pub Children : (A → Type 0) → Inner A → Type 0
  Children P t = P t.first × All (λ (s : Sep A). P s.child) t.rest

  pub every_child_iff : (f : A → Bool) (P : A → Type 0) → ((a : A) → (f a ≡ true) ↔ P a) → (t : Inner A) → (every_child f t ≡ true) ↔ Children P t
  unfolding every_child
  every_child_iff f P q t =
      let r = every_iff (λ (s : Sep A). f s.child) (λ s. P s.child) (λ s. q s.child) t.rest in
      (λ e. let k = simp and-eq-true_iff at e in ((q t.first).0 k.0, r.0 k.1), λ p. and-true _ _ ((q t.first).1 p.0) (r.1 p.1))

-- ---- the whole tree
-- From the leaves up.

pub throughout-and : (l m : Leaf → Bool) (i j : (h : ℕ) → Inner (Tree h) → Bool) (h : ℕ) (t : Tree h)
    → throughout (λ x. l x && m x) (λ g u. i g u && j g u) h t ≡ (throughout l i h t && throughout m j h t)
unfolding throughout
throughout-and l m i j zero t = refl
throughout-and l m i j (suc h) t =
    let both : Tree h → Bool = throughout (λ x. l x && m x) (λ g u. i g u && j g u) h in
    let e = every_child-same both (λ a. throughout l i h a && throughout m j h a) (throughout-and l m i j h) t in
    let f = every_child-and (throughout l i h) (throughout m j h) t in
    ap (λ (b : Bool). (i h t && j h t) && b) (e ∙ f) ∙ and_swap (i h t) (j h t) (every_child (throughout l i h) t) (every_child (throughout m j h) t)

-- P of a tree is the leaf's test at a leaf, and above it the node's test and P of each child
pub throughout_iff : (l : Leaf → Bool) (i : (h : ℕ) → Inner (Tree h) → Bool) (P : (h : ℕ) → Tree h → Type 0)
    → ((t : Leaf) → (l t ≡ true) ↔ P 0 t) → ((h : ℕ) (t : Inner (Tree h)) → ((i h t ≡ true) × Children (P h) t) ↔ P (suc h) t)
    → (h : ℕ) (t : Tree h) → (throughout l i h t ≡ true) ↔ P h t
unfolding throughout
throughout_iff l i P leaf inner zero t = leaf t
throughout_iff l i P leaf inner (suc h) t =
    let r = every_child_iff (throughout l i h) (P h) (throughout_iff l i P leaf inner h) t in
    (λ e. let k = simp and-eq-true_iff at e in (inner h t).0 (k.0, r.0 k.1), λ p. let k = (inner h t).1 p in and-true _ _ k.0 (r.1 k.1))
