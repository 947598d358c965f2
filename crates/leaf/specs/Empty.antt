-- A leaf with no cell.
use Rattle.std.specs.Prelude.{[], ℕ}
use Rattle.model.specs.Layouts.{LeafPage}

-- "an empty leaf, s 512": it starts at its page's end
unfoldable pub empty : ℕ → ℕ → LeafPage
empty L next = record { start = L; next = next; prev = 0; cells = [] }
