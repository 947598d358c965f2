-- Rules of change: inner split and new root, going up from a node that split. Each takes the first free page.
use Rattle.std.specs.Prelude.{ℕ, suc, ◌+◌, length, take, drop, leb}
use mathlib.Core.List.{List, [], ◌∷◌, tail}
use Rattle.octets.specs.Choice.{choose}
use Rattle.model.specs.Lists.{head_or}
use Rattle.model.specs.Types.{Sep, Inner, Tree, Store}
use Rattle.model.specs.Sizes.{inner_least, inner_most}
use Rattle.model.specs.Context.{Frame, Context, top, under, close, fill}
use Rattle.model.specs.InLeaf.{Grown, one, two}

-- a node, and the free list after what was done to it
pub record Step (A : Type 0) : Type 0 where
  pub node : A
  pub free : List ℕ

-- "of 15 records, 0 to 6 stay; key 7 goes up; child 7 becomes the new right page's first child; 8 to 14 follow":
-- t has the 15, the last argument those from 7 on, q is the new page
unfoldable pub split_right : {A : Type 0} → ℕ → Inner A → List (Sep A) → Grown (Inner A)
split_right q t [] = one t
split_right q t (s ∷ ss) =
    two (record { page = t.page; first = t.first; rest = take inner_least t.rest }) s.key
    (record { page = q; first = s.child; rest = ss })

-- an inner node after one of its children split: it splits if it now has more than 14 records
unfoldable pub grown : {A : Type 0} → Inner A → List ℕ → Step (Grown (Inner A))
grown t free =
    choose (leb (length t.rest) inner_most)
    (record { node = one t; free = free })
    (record { node = split_right (head_or 0 free) t (drop inner_least t.rest); free = tail free })

unfoldable pub grow_step : {A : Type 0} → Frame A → Grown A → List ℕ → Step (Grown (Inner A))
grow_step f (one a) free = record { node = one (fill f a); free = free }
grow_step f (two a k b) free = grown (close f.page f.lefts a (record { key = k; child = b } ∷ f.rights)) free

-- "New root: first child the old root, one record"
unfoldable pub new_root : ℕ → (d : ℕ) → Grown (Tree d) → List ℕ → Store
new_root n d (one t) free = record { n = n; depth = d; root = t; free = free }
new_root n d (two a k b) free =
    record { n = n; depth = suc d; root = record { page = head_or 0 free; first = a; rest = record { key = k; child = b } ∷ [] }; free = tail free }

unfoldable pub grow_up : {d h : ℕ} → ℕ → Context d h → Grown (Tree h) → List ℕ → Store
grow_up {d} n top g free = new_root n d g free
grow_up n (under f c) g free = let s = grow_step f g free in grow_up n c s.node s.free

-- the pages that the nodes above one that splits take: "1 for each full inner node met without a break going up, and 1 if the root split"
unfoldable pub growth : {d h : ℕ} → Context d h → ℕ
growth top = 1
growth (under f c) = let further = suc (growth c) in choose (leb inner_most (length f.lefts + length f.rights)) further 0
