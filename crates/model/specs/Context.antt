-- The way from the root to a node, held from the node up: what a path of page and child place is in the code.
use Rattle.std.specs.Prelude.{List, [], ◌∷◌, ℕ, zero, suc}
use Rattle.octets.specs.Choice.{choose}
use Rattle.octets.specs.Keys.{before}
use Rattle.model.specs.Types.{Tree, Leaf, Inner, Sep}

-- a child with the separator to its right
pub record Left (A : Type 0) : Type 0 where
  pub child : A
  pub key : List ℕ

-- an inner node without one of its children: its page, and what is left and right of the gap, the nearest first
pub record Frame (A : Type 0) : Type 0 where
  pub page : ℕ
  pub lefts : List (Left A)
  pub rights : List (Sep A)

-- what is around a node of level h in a tree of level d
pub data Context (d : ℕ) : ℕ → Type 0 where
  top : Context d d
  under : {h : ℕ} → Frame (Tree h) → Context d (suc h) → Context d h

-- a leaf and what is around it
pub record Spot (d : ℕ) : Type 0 where
  pub leaf : Leaf
  pub around : Context d 0

module _ {A : Type 0} where
  unfoldable pub close : ℕ → List (Left A) → A → List (Sep A) → Inner A
  close p [] a rs = record { page = p; first = a; rest = rs }
  close p (l ∷ ls) a rs = close p ls l.child (record { key = l.key; child = a } ∷ rs)

  -- the inner node with a child in the gap
  unfoldable pub fill : Frame A → A → Inner A
  fill f a = close f.page f.lefts a f.rights

-- an inner node opened at one of its children
pub record Opened (A : Type 0) : Type 0 where
  pub child : A
  pub frame : Frame A

-- opened at the child whose keys a key is among: where it equals a separator, the child to the right
unfoldable pub seek : {A : Type 0} → List ℕ → ℕ → List (Left A) → A → List (Sep A) → Opened A
seek k p ls a [] = record { child = a; frame = record { page = p; lefts = ls; rights = [] } }
seek k p ls a (s ∷ ss) =
    let further = seek k p (record { child = a; key = s.key } ∷ ls) s.child ss in
    choose (before k s.key) (record { child = a; frame = record { page = p; lefts = ls; rights = s ∷ ss } }) further

unfoldable pub plug : {d h : ℕ} → Context d h → Tree h → Tree d
plug top t = t
plug (under f c) t = plug c (fill f t)

unfoldable pub descend : {d : ℕ} (h : ℕ) → Context d h → Tree h → List ℕ → Spot d
descend zero c t k = record { leaf = t; around = c }
descend (suc h) c t k =
    let o = seek k t.page [] t.first t.rest in
    descend h (under o.frame c) o.child k
