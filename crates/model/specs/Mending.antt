-- Rules of change: mending, and the root that goes.
use Rattle.std.specs.Prelude.{List, [], ◌∷◌, ◌++◌, ℕ, suc, ◌+◌, length, leb, ltb}
use Rattle.octets.specs.Choice.{choose}
use Rattle.model.specs.Types.{Leaf, Sep, Inner, Tree, Store}
use Rattle.model.specs.Sizes.{leaf_least, leaf_most, inner_least, inner_most, costs}
use Rattle.model.specs.Context.{Left, Frame, Context, top, under, close, fill}
use Rattle.model.specs.InLeaf.{Grown, one, two, packed_leaf, shared}
use Rattle.model.specs.Growing.{Step}

-- The partner --------------------------------------------------------------------------------------------------------------

-- what two neighbours became: one, and "the right page is freed and its record removed"; or two, with another separator
unfoldable pub joined : {A : Type 0} → ℕ → List (Left A) → List (Sep A) → List ℕ → ℕ → Grown A → Step (Inner A)
joined p ls rs free q (one a) = record { node = close p ls a rs; free = q ∷ free }
joined p ls rs free q (two a k b) = record { node = close p ls a (record { key = k; child = b } ∷ rs); free = free }

module _ {A : Type 0} (pageIs : A → ℕ) (join : A → List ℕ → A → Grown A) where
  -- "Partner: the right sibling under the same parent, else the left"; `join a k b` is what becomes of a and b with k between them
  -- (an only child has no partner, and stays)
  unfoldable pub partnered : ℕ → List (Left A) → A → List (Sep A) → List ℕ → Step (Inner A)
  partnered p ls a (s ∷ ss) free = joined p ls ss free (pageIs s.child) (join a s.key s.child)
  partnered p (l ∷ ls) a [] free = joined p ls [] free (pageIs a) (join l.child l.key a)
  partnered p [] a [] free = record { node = close p [] a []; free = free }

-- Leaves -------------------------------------------------------------------------------------------------------------------

-- "if both together cost at most 500, all cells go packed to the left page"; "otherwise both are rewritten by the split rule"
unfoldable pub join_leaves : ℕ → Leaf → List ℕ → Leaf → Grown Leaf
join_leaves L a k b =
    let cs = a.cells ++ b.cells in
    choose (leb (costs cs) (leaf_most L)) (one (packed_leaf L a.page cs)) (shared L a.page b.page cs)

-- "mend a leaf under 125"
unfoldable pub mend_leaf : ℕ → Frame Leaf → Leaf → List ℕ → Step (Inner Leaf)
mend_leaf L f l free =
    let mended = partnered (λ m. m.page) (join_leaves L) f.page f.lefts l f.rights free in
    choose (leb leaf_least (costs l.cells)) (record { node = fill f l; free = free }) mended

-- Inner nodes --------------------------------------------------------------------------------------------------------------

-- "both merge into the left page, the parent's key between them coming down with the right page's first child"
unfoldable pub together : {A : Type 0} → Inner A → List ℕ → Inner A → Inner A
together a k b = record { page = a.page; first = a.first; rest = a.rest ++ (record { key = k; child = b.first } ∷ b.rest) }

-- "a richer partner gives one record by rotation through the parent": the right one its first, the left one its last
-- (the last argument is the giver's records; a partner without any gives none)
unfoldable pub first_given : {A : Type 0} → Inner A → List ℕ → Inner A → List (Sep A) → Grown (Inner A)
first_given a k b [] = two a k b
first_given a k b (s ∷ ss) =
    two (record { page = a.page; first = a.first; rest = a.rest ++ (record { key = k; child = b.first } ∷ []) }) s.key
    (record { page = b.page; first = s.child; rest = ss })

unfoldable pub last_given : {A : Type 0} → Inner A → List ℕ → Inner A → List (Sep A) → List (Sep A) → Grown (Inner A)
last_given a k b front [] = two a k b
last_given a k b front (s ∷ []) =
    two (record { page = a.page; first = a.first; rest = front }) s.key
    (record { page = b.page; first = s.child; rest = record { key = k; child = b.first } ∷ b.rest })
last_given a k b front (s ∷ t ∷ ss) = last_given a k b (front ++ (s ∷ [])) (t ∷ ss)

unfoldable pub rotated : {A : Type 0} → Inner A → List ℕ → Inner A → Grown (Inner A)
rotated a k b = choose (ltb (length a.rest) (length b.rest)) (first_given a k b b.rest) (last_given a k b [] a.rest)

-- "with a partner of 7 both merge" (6 + 1 + 7 are 14); else they rotate
unfoldable pub join_inner : {A : Type 0} → Inner A → List ℕ → Inner A → Grown (Inner A)
join_inner a k b = choose (leb (suc (length a.rest + length b.rest)) inner_most) (one (together a k b)) (rotated a k b)

-- "Inner with 6 records"
unfoldable pub mend_inner : {A : Type 0} → Frame (Inner A) → Inner A → List ℕ → Step (Inner (Inner A))
mend_inner f t free =
    let mended = partnered (λ i. i.page) join_inner f.page f.lefts t f.rights free in
    choose (leb inner_least (length t.rest)) (record { node = fill f t; free = free }) mended

-- Going up -----------------------------------------------------------------------------------------------------------------

-- "A root with no record is freed last, and its child becomes root"
unfoldable pub low_root : ℕ → (h : ℕ) → ℕ → Tree h → List (Sep (Tree h)) → List ℕ → Store
low_root n h p a [] free = record { n = n; depth = h; root = a; free = p ∷ free }
low_root n h p a (s ∷ ss) free = record { n = n; depth = suc h; root = record { page = p; first = a; rest = s ∷ ss }; free = free }

-- "Go up while a node that isn't the root has 6"
unfoldable pub mend_up : {d h : ℕ} → ℕ → Context d (suc h) → Inner (Tree h) → List ℕ → Store
mend_up {h = h} n top t free = low_root n h t.page t.first t.rest free
mend_up n (under f c) t free = let s = mend_inner f t free in mend_up n c s.node s.free

-- the store with a changed leaf that has not split: mended "if a leaf that isn't the root now costs under 125"
unfoldable pub settled : {d : ℕ} → ℕ → ℕ → Context d 0 → Leaf → List ℕ → Store
settled L n top l free = record { n = n; depth = 0; root = l; free = free }
settled L n (under f c) l free = let s = mend_leaf L f l free in mend_up n c s.node s.free
