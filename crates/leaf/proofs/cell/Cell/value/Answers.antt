-- The value stands behind the key, or the page number of its chain does.
use Rattle.std.proofs.Common.{◌≡◌, ◌+◌, ◌-◌, get_or, arith}
use Rattle.octets.specs.Runs.{part}
use Rattle.octets.specs.Numbers.{word16}
use Rattle.model.specs.Sizes.{inline_most}
use Rattle.leaf.proofs.Cells.{inline-inside, chain-inside}
use Rattle.leaf.proofs.cell.Cell.value.Goals as goal

pub slice_bounds-result-end : goal.slice_bounds-result-end
slice_bounds-result-end c = omega (arith, inline-inside _ c.args.self.now.whole (omega arith))

pub get-requires-else-v-le64 : goal.get-requires-else-v-le64
get-requires-else-v-le64 c = omega (arith, chain-inside _ c.args.self.now.whole (omega arith))

pub returns-then-v-le64 : goal.returns-then-v-le64
unfolding part inline_most
returns-then-v-le64 c =
    let e : 3 + c.from-e.result + c.from-v.result - (3 + c.from-e.result) ≡ word16 c.args.self.now.bytes.now 1 = omega arith in
    let a : 3 + c.from-e.result ≡ 3 + get_or c.args.self.now.bytes.now 0 0 = omega arith in
    (omega arith, rw (e, a))

pub returns-else-v-le64 : goal.returns-else-v-le64
unfolding inline_most
returns-else-v-le64 c =
    let a : c.from-e.result ≡ get_or c.args.self.now.bytes.now 0 0 = omega arith in
    (omega arith, omega arith, rw (c.get-else-v-le64.ensures, a))
