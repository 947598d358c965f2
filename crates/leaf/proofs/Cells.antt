-- A cell is as long as its first three bytes say, so its key and its value lie inside it.
use Rattle.std.proofs.Common.{◌≡◌, sym, ◌∙◌, List, ℕ, ◌+◌, ◌*◌, ◌≤◌, ◌<◌, length, get_or, drop, arith}
use lib.Seq.{get_or-drop}
use borrow.Author.Tests.{le-leb, lt-leb}
use lib.Dec.{leb}
use Rattle.octets.specs.Runs.{part}
use Rattle.octets.specs.Numbers.{word16}
use Rattle.octets.proofs.Choice.{choose-true, choose-false}
use Rattle.octets.proofs.Part.{part_at, part_length}
use Rattle.octets.proofs.Words.{word16_ext}
use Rattle.model.specs.Sizes.{inline_most}
use Rattle.model.specs.Layouts.{cell_size, slot_of, placed_at}
use Rattle.leaf.specs.Cells.{CellIn, IsCell}

-- Inside a cell -----------------------------------------------------------------------------------------------------------

module _ (b : List ℕ) (w : IsCell b) where
  pub key-inside : 3 + get_or b 0 0 ≤ length b
  unfolding cell_size
  key-inside = omega (arith, w.long)

  pub inline-inside : word16 b 1 ≤ 64 → 3 + get_or b 0 0 + word16 b 1 ≤ length b
  unfolding cell_size inline_most
  inline-inside h = omega (arith, w.long, choose-true (leb (word16 b 1) 64) (word16 b 1) 2 (le-leb _ _ h))

  pub chain-inside : 64 < word16 b 1 → 3 + get_or b 0 0 + 2 ≤ length b
  unfolding cell_size inline_most
  chain-inside h = omega (arith, w.long, choose-false (leb (word16 b 1) 64) (word16 b 1) 2 (lt-leb _ _ h))

-- Out of a page -----------------------------------------------------------------------------------------------------------

module _ (page : List ℕ) (i at n : ℕ) (w : CellIn page i) (q : at ≡ word16 page (12 + 2 * i)) (e : n ≡ cell_size (drop at page)) where
  k : at + n ≤ length page
  k = rw (e, q) w.inside

  h : 3 ≤ n
  unfolding cell_size
  h = omega arith

  same-size : cell_size (part page at n) ≡ cell_size (drop at page)
  unfolding cell_size
  same-size =
      let a : get_or (part page at n) 0 0 ≡ get_or (drop at page) 0 0 = part_at page at n 0 (omega arith) ∙ sym (get_or-drop at page 0 0) in
      let v : word16 (part page at n) 1 ≡ word16 (drop at page) 1 =
      word16_ext (part page at n) (drop at page) 1 1 (λ j q. part_at page at n (1 + j) (omega arith) ∙ sym (get_or-drop at page (1 + j) 0)) in
      rw (a, v)

  pub is-cell : IsCell (part page at n)
  is-cell =
      let l : length (part page at n) ≡ n = part_length page at n k in
      record { front = omega (arith, h); long = same-size ∙ sym e ∙ sym l }

  pub is-slot : part page at n ≡ (slot_of page i).bytes
  unfolding slot_of placed_at
  is-slot = rw (e, q)
