-- The entries and separators of a tree in one line: it is sorted if each item stands below, or for a separator not above, all that follow.
use Rattle.std.specs.Prelude.{Bool, true, not, ◌&&◌, List, [], ◌∷◌, map, ℕ, zero, suc}
use Rattle.octets.specs.Keys.{before}
use Rattle.octets.proofs.Order.{◌≺◌}
use Rattle.model.specs.Lists.{gather}
use Rattle.model.specs.Types.{Cell, Tree, Store, Entry, entry, entries}
use Rattle.model.specs.Context.{Context}
use Rattle.model.proofs.Each.{All}
use Rattle.laws_order.specs.Reading.{strung, before as readBefore, after as readAfter}

pub data Item : Type 0 where
  real : Entry → Item
  wall : List ℕ → Item

abbrev pub of : Item → List ℕ
of (real e) = e.key
of (wall k) = k

-- Order -----------------------------------------------------------------------------------------------------------------

-- an entry's key is below what follows it; a separator is not above it
abbrev pub Under : Item → List ℕ → Type 0
Under (real e) b = e.key ≺ b
Under (wall a) b = b ≺ a → ⊥

abbrev pub Above : Item → List Item → Type 0
Above x ys = All (λ y. Under x (of y)) ys

pub data Sorted : List Item → Type 0 where
  none-sorted : Sorted []
  more-sorted : {x : Item} {xs : List Item} → Above x xs → Sorted xs → Sorted (x ∷ xs)

-- the same as a test, of each item against the next
unfoldable pub stands : Item → List ℕ → Bool
stands (real e) b = before e.key b
stands (wall a) b = not (before b a)

unfoldable pub in_line : List Item → Bool
in_line [] = true
in_line (x ∷ []) = true
in_line (x ∷ y ∷ zs) = stands x (of y) && in_line (y ∷ zs)

-- all items are under a key; all are beyond it, as what follows an entry of that key
abbrev pub AllUnder : List ℕ → List Item → Type 0
AllUnder k xs = All (λ x. Under x k) xs

abbrev pub Beyond : List ℕ → List Item → Type 0
Beyond k ys = All (λ y. k ≺ of y) ys

-- Entries ---------------------------------------------------------------------------------------------------------------

-- "strictly rising keys"
abbrev pub Rising : List Entry → Type 0
Rising es = Sorted (map real es)

abbrev pub only : Item → List Entry
only (real e) = e ∷ []
only (wall k) = []

-- the entries of a line
unfoldable pub reals : List Item → List Entry
reals xs = gather only xs

-- cells in a line
unfoldable pub row : List Cell → List Item
row cs = map real (map entry cs)

-- Trees -----------------------------------------------------------------------------------------------------------------

abbrev pub fence : List ℕ → List Item
fence k = wall k ∷ []

unfoldable pub line : (h : ℕ) → Tree h → List Item
line zero t = map real (entries zero t)
line (suc h) t = strung fence (line h) t

unfoldable pub of_store : Store → List Item
of_store s = line s.depth s.root

-- the line before a place, and after it
abbrev pub ahead : {d h : ℕ} → Context d h → List Item
ahead c = readBefore fence line c

abbrev pub behind : {d h : ℕ} → Context d h → List Item
behind c = readAfter fence line c
