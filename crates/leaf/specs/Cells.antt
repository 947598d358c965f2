-- A leaf's cells by their bytes.
use Rattle.std.specs.Prelude.{◌≡◌, List, ℕ, ◌+◌, ◌*◌, ◌≤◌, length, drop}
use Rattle.octets.specs.Numbers.{word16}
use Rattle.model.specs.Layouts.{cell_size}

-- the cell of slot i lies inside the page
pub record CellIn (page : List ℕ) (i : ℕ) : Type 0 where
  pub slot : 12 + 2 * i + 2 ≤ length page
  pub front : word16 page (12 + 2 * i) + 3 ≤ length page
  pub inside : word16 page (12 + 2 * i) + cell_size (drop (word16 page (12 + 2 * i)) page) ≤ length page

-- bytes that are a cell's: as many as it says
pub record IsCell (b : List ℕ) : Type 0 where
  pub front : 3 ≤ length b
  pub long : cell_size b ≡ length b
