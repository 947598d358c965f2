-- Packing leaves the line of a leaf alone; two leaves joined lose the separator between them, and a leaf parted gains the right one's first key.
use mathlib.Core.Path.{◌≡◌, refl, sym, ap, ◌∙◌}
use mathlib.Core.List.{List, [], ◌∷◌, ◌++◌, append_assoc, append-nil, map}
use Prim.Native.Nat.{ℕ, ◌-◌}
use lib.ListN.{take, drop, take-append-drop}
use Rattle.octets.proofs.Choice.{either}
use Rattle.model.specs.Lists.{gather}
use Rattle.model.specs.Types.{Cell, Leaf, Entry, entry, entries}
use Rattle.model.specs.Sizes.{cell_length}
use Rattle.model.specs.InLeaf.{Grown, moved, packed, half, packed_leaf, parted, shared}
use Rattle.model.specs.Mending.{join_leaves}
use Rattle.model.proofs.Lists.{map-append}
use Rattle.laws_order.specs.Reading.{both}
use Rattle.laws_order.specs.Line.{Item, real, wall, Sorted, reals, fence, line, row}
use Rattle.laws_order.proofs.Items.{reals-append, Finer, finer_same, finer_then, sorted-drop, sorted-wall}

-- Separators gained and lost ----------------------------------------------------------------------------------------------

wall_lost : (k : List ℕ) (xs ys : List Item) → Finer (xs ++ (wall k ∷ ys)) (xs ++ ys)
unfolding reals gather
wall_lost k xs ys =
    record {
      keeps = λ x y s.
          let t : Sorted ((x ++ xs) ++ (wall k ∷ (ys ++ y))) = simp append_assoc (simp append_assoc at s) in
          simp append_assoc (simp append_assoc at (sorted-drop (wall k) (x ++ xs) (ys ++ y) t));
      alike = reals-append xs ys ∙ sym (reals-append xs (wall k ∷ ys));
    }

wall_gained : (e : Entry) (xs ys : List Item) → Finer (xs ++ (real e ∷ ys)) (xs ++ (wall e.key ∷ real e ∷ ys))
unfolding reals gather
wall_gained e xs ys =
    record {
      keeps = λ x y s.
          let t : Sorted ((x ++ xs) ++ (real e ∷ (ys ++ y))) = simp append_assoc (simp append_assoc at s) in
          simp append_assoc (simp append_assoc at (sorted-wall e (x ++ xs) (ys ++ y) t));
      alike = reals-append xs (wall e.key ∷ real e ∷ ys) ∙ sym (reals-append xs (real e ∷ ys));
    }

-- Cells -----------------------------------------------------------------------------------------------------------------

row-append : (xs ys : List Cell) → row (xs ++ ys) ≡ row xs ++ row ys
unfolding row
row-append xs ys = ap (map real) (map-append entry xs ys) ∙ map-append real (map entry xs) (map entry ys)

pub packed-entries : (e : ℕ) (cs : List Cell) → map entry (packed e cs) ≡ map entry cs
unfolding packed moved entry
packed-entries e [] = refl
packed-entries e (c ∷ cs) = ap (λ (l : List Entry). record { key = c.key; value = c.value } ∷ l) (packed-entries (e - cell_length c) cs)

packed-line : (L p : ℕ) (cs : List Cell) → line 0 (packed_leaf L p cs) ≡ row cs
unfolding line entries packed_leaf row
packed-line L p cs = ap (map real) (packed-entries L cs)

-- Leaves ----------------------------------------------------------------------------------------------------------------

parted-line : (L p q : ℕ) (xs ys : List Cell) → Finer (row xs ++ row ys) (both fence (line 0) (parted L p q xs ys))
unfolding parted both
parted-line L p q xs [] = finer_same (packed-line L p xs ∙ unfold row in sym (append-nil _))
parted-line L p q xs (y ∷ ys) = rw (packed-line L p xs, packed-line L q (y ∷ ys)) (unfold row entry in wall_gained (entry y) (row xs) (row ys))

pub shared-line : (L p q : ℕ) (cs : List Cell) → Finer (row cs) (both fence (line 0) (shared L p q cs))
unfolding shared
shared-line L p q cs =
    finer_then (finer_same (sym (row-append (take (half cs) cs) (drop (half cs) cs)) ∙ rw take-append-drop)) (parted-line L p q _ _)

pub join-line : (L : ℕ) (a : Leaf) (k : List ℕ) (b : Leaf) → Finer (line 0 a ++ (wall k ∷ line 0 b)) (both fence (line 0) (join_leaves L a k b))
unfolding join_leaves both line entries row
join-line L a k b =
    let gone : Finer (row a.cells ++ (wall k ∷ row b.cells)) (row (a.cells ++ b.cells))
    = finer_then (wall_lost k (row a.cells) (row b.cells)) (finer_same (row-append a.cells b.cells)) in
    either (λ (x : Grown Leaf). Finer (row a.cells ++ (wall k ∷ row b.cells)) (both fence (line 0) x)) _ _ _
    (finer_then gone (finer_same (packed-line L a.page _)))
    (finer_then gone (shared-line L a.page b.page (a.cells ++ b.cells)))
