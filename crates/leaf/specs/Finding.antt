-- Where a key is in a leaf's page.
use Rattle.std.specs.Prelude.{◌≡◌, true, List, ℕ, ◌≤◌, ◌<◌, length, Result, Ok, Err}
use Rattle.octets.specs.Numbers.{word16}
use Rattle.octets.specs.Keys.{before}
use Rattle.octets.specs.declared.places.Slot.{Slot}
use Rattle.model.specs.Layouts.{slot_of}
use Rattle.checking.specs.Alone.{key_of}
use Rattle.leaf.specs.Cells.{CellIn}

unfoldable pub key_at : List ℕ → ℕ → List ℕ
key_at page i = key_of (slot_of page i).bytes

-- each cell lies inside, and "keys strictly rising"
pub record Ordered (page : List ℕ) : Type 0 where
  pub long : 12 ≤ length page
  pub cells : (i : ℕ) → i < word16 page 2 → CellIn page i
  pub rising : (i j : ℕ) → i < j → j < word16 page 2 → before (key_at page i) (key_at page j) ≡ true

-- at its slot, or else behind the keys below it and in front of those above it
abbrev pub IsFound : List ℕ → List ℕ → Result Slot Slot → Type 0
IsFound page key (Ok s) = (s.0 < word16 page 2) × (key_at page s.0 ≡ key)
IsFound page key (Err s) =
    (s.0 ≤ word16 page 2)
    × ((i : ℕ) → i < s.0 → before (key_at page i) key ≡ true)
    × ((i : ℕ) → s.0 ≤ i → i < word16 page 2 → before key (key_at page i) ≡ true)
