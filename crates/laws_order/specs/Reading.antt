-- A reading of a tree: what its leaves and separators give, from the left; and what is read before a place and after it.
use Rattle.std.specs.Prelude.{List, [], ◌∷◌, ◌++◌, ℕ}
use Rattle.model.specs.Lists.{gather}
use Rattle.model.specs.Types.{Sep, Inner, Tree}
use Rattle.model.specs.Context.{Left, Context, top, under}
use Rattle.model.specs.InLeaf.{Grown, one, two}

-- separators that give nothing
abbrev pub silent : {B : Type 0} → List ℕ → List B
silent k = []

-- In an inner node: w is what a separator gives, m what a child gives
module _ {A B : Type 0} (w : List ℕ → List B) (m : A → List B) where
  unfoldable pub strung : Inner A → List B
  strung t = m t.first ++ gather (λ s. w s.key ++ m s.child) t.rest

  -- left of a gap, whose children are held the nearest first, and right of it
  unfoldable pub lefts : List (Left A) → List B
  lefts [] = []
  lefts (l ∷ ls) = lefts ls ++ (m l.child ++ w l.key)

  unfoldable pub rights : List (Sep A) → List B
  rights ss = gather (λ s. w s.key ++ m s.child) ss

  -- a child that may have become two
  unfoldable pub both : Grown A → List B
  both (one a) = m a
  both (two a k b) = m a ++ (w k ++ m b)

-- In a whole tree: m is what a tree of each level gives
module _ {B : Type 0} (w : List ℕ → List B) (m : (h : ℕ) → Tree h → List B) where
  unfoldable pub before : {d h : ℕ} → Context d h → List B
  before top = []
  before (under {h} f c) = before c ++ lefts w (m h) f.lefts

  unfoldable pub after : {d h : ℕ} → Context d h → List B
  after top = []
  after (under {h} f c) = rights w (m h) f.rights ++ after c
