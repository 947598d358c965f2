-- An image as a book of pages of 512 bytes.
use Rattle.std.specs.Prelude.{List, map, ℕ, ◌*◌, take}
use Rattle.octets.specs.Runs.{over, part}
use Rattle.model.specs.Decode.{cut}

unfoldable pub page_at : List ℕ → ℕ → List ℕ
page_at image p = part image (p * 512) 512

unfoldable pub set_page : List ℕ → ℕ → List ℕ → List ℕ
set_page image p page = over image (p * 512) page

-- the first n pages
unfoldable pub pages_of : List ℕ → ℕ → List (List ℕ)
pages_of image n = map (take 512) (cut 512 n image)
