-- What an edition of the store fixes. Everything else is said once, over any edition.
use Rattle.std.specs.Prelude.{List, ℕ}

pub record Edition : Type 0 where
  -- bytes 12..13 of the header
  pub number : ℕ
  -- the length of a page in the image, and how much of it the layouts use
  pub width : ℕ
  pub usable : ℕ
  -- "n from 2 to 1,024", "height 1 to 4"
  pub most_pages : ℕ
  pub most_levels : ℕ
  -- what bytes 10..11 of a leaf hold, where the leaf before it is on that page
  pub back : ℕ → ℕ
  -- a page as it stands in the image, made of its usable bytes
  pub seal : List ℕ → List ℕ

-- the edition of document 01: no link back, and nothing after the usable bytes
abbrev pub edition1 : Edition
edition1 = record { number = 1; width = 512; usable = 512; most_pages = 1024; most_levels = 4; back = λ page. 0; seal = λ bytes. bytes }
