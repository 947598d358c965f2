-- An overflow page: its front, and the rule of the page by itself.
use Rattle.std.specs.Prelude.{◌≡◌, List, [], ◌∷◌, ◌++◌, ℕ, ◌+◌, ◌≤◌, length}
use Rattle.octets.specs.Numbers.{word16, bytes16}
use Rattle.model.specs.Layouts.{OverPage, to_over, of_over}

unfoldable pub over_front : ℕ → ℕ → List ℕ
over_front next held = 3 ∷ 0 ∷ bytes16 next ++ (bytes16 held ++ (0 ∷ 0 ∷ []))

unfoldable pub over_page : ℕ → List ℕ → OverPage
over_page next held = record { next = next; held = held }

-- a page that holds what it says, and is its own re-encoding as an overflow page
pub record OverBytes (page : List ℕ) : Type 0 where
  pub fits : 8 + word16 page 4 ≤ length page
  pub same : page ≡ to_over (length page) (of_over page)
