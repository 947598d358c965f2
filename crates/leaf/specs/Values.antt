-- A cell's value.
use Rattle.std.specs.Prelude.{◌≡◌, List, ℕ, ◌+◌, ◌≤◌, ◌<◌, get_or}
use Rattle.octets.specs.Runs.{part}
use Rattle.octets.specs.Numbers.{word16}
use Rattle.model.specs.Sizes.{inline_most}
use Rattle.leaf.specs.declared.cell.Value.{Value}
use Rattle.leaf.specs.declared.cell.Value.TheVariants.{Inline, Chained}

-- "the value if v is at most 64, else the first overflow page"
abbrev pub Holds : List ℕ → Value → Type 0
Holds b (Inline bytes) = (word16 b 1 ≤ inline_most) × (bytes.now ≡ part b (3 + get_or b 0 0) (word16 b 1))
Holds b (Chained length first) = (inline_most < word16 b 1) × (length ≡ word16 b 1) × (first.0 ≡ word16 b (3 + get_or b 0 0))
