-- A free page: the rule of the page by itself.
use Rattle.std.specs.Prelude.{◌≡◌, List, ℕ, length}
use Rattle.model.specs.Layouts.{to_free, of_free}

-- a page that is its own re-encoding as a free page
abbrev pub FreeBytes : List ℕ → Type 0
FreeBytes page = page ≡ to_free (length page) (of_free page)
