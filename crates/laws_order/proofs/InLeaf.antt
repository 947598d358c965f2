-- In a leaf, adding a cell inserts its entry and removing one erases it; compaction changes no entry.
use mathlib.Core.Path.{◌≡◌, refl, ◌∙◌}
use mathlib.Core.List.{List, [], ◌∷◌, map}
use Prim.Native.Nat.{ℕ}
use Rattle.octets.specs.Keys.{compare_keys}
use Rattle.octets.proofs.Choice.{either}
use Rattle.model.specs.Types.{Cell, Leaf, entry, entries}
use Rattle.model.specs.Map.{insert, erase}
use Rattle.model.specs.InLeaf.{without, with, removed, moved, packed_leaf, room_for, added}
use Rattle.laws_order.specs.Line.{Rising}
use Rattle.laws_order.proofs.Sundry.{three-at}
use Rattle.laws_order.proofs.FiniteMap.{insert-erase}
use Rattle.laws_order.proofs.Parting.{packed-entries}

pub with_entries : (x : Cell) (cs : List Cell) → map entry (with x cs) ≡ insert (entry x) (map entry cs)
unfolding with insert entry
with_entries x [] = refl
with_entries x (c ∷ cs) = three-at (map entry) (compare_keys x.key c.key) _ _ _ ∙ rw (with_entries x cs)

pub with-leaf : (x : Cell) (l : Leaf) → map entry (with x l.cells) ≡ insert (entry x) (entries 0 l)
unfolding entries
with-leaf x l = with_entries x l.cells

pub without-entries : (k : List ℕ) (cs : List Cell) → map entry (without k cs) ≡ erase k (map entry cs)
unfolding without erase entry
without-entries k [] = refl
without-entries k (c ∷ cs) = three-at (map entry) (compare_keys k c.key) _ _ _ ∙ rw (without-entries k cs)

room-entries : (L n : ℕ) (l : Leaf) → map entry (room_for L n l).cells ≡ map entry l.cells
unfolding room_for packed_leaf
room-entries L n l = either (λ (m : Leaf). map entry m.cells ≡ map entry l.cells) _ _ _ (packed-entries L l.cells) refl

pub added-entries : (L : ℕ) (x : Cell) (l : Leaf) → entries 0 (added L x l) ≡ insert (entry x) (entries 0 l)
unfolding added moved entries entry
added-entries L x l = with_entries _ _ ∙ rw room-entries

pub removed-entries : (k : List ℕ) (l : Leaf) → entries 0 (removed k l) ≡ erase k (entries 0 l)
unfolding removed entries
removed-entries k l = without-entries k l.cells

-- "replacing is removing, then adding"
pub replaced_entries : (L : ℕ) (x : Cell) (l : Leaf) → Rising (entries 0 l) → entries 0 (added L x (removed x.key l)) ≡ insert (entry x) (entries 0 l)
unfolding entry
replaced_entries L x l r = added-entries L x (removed x.key l) ∙ rw removed-entries (insert-erase (entry x) (entries 0 l) r)
