-- A header: what the struct of the code stands for, and the rule of the page by itself.
use Rattle.std.specs.Prelude.{◌≡◌, List, ◌++◌, ℕ, ◌≤◌, length}
use Rattle.octets.specs.Numbers.{bytes16, bytes32}
use Rattle.model.specs.Layouts.{HeadPage, to_head, of_head}
use Rattle.page.specs.declared.header.Header.{Header}

unfoldable pub head_of : Header → HeadPage
head_of h = record { n = h.n; root = h.root.0; height = h.height; free = h.free.0; count = h.count; edition = h.edition }

unfoldable pub front_of : Header → List ℕ
front_of h =
    bytes16 h.n ++ (bytes16 h.root.0 ++ (bytes16 h.height ++ (bytes16 h.free.0 ++ (bytes32 h.count ++ bytes16 h.edition))))

-- a page that is its own re-encoding as a header
pub record HeadBytes (page : List ℕ) : Type 0 where
  pub long : 14 ≤ length page
  pub same : page ≡ to_head (length page) (of_head page)
