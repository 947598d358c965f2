-- The key stands behind the three bytes of the lengths.
use Rattle.std.proofs.Common.{◌≡◌, ◌+◌, ◌-◌, get_or, arith}
use Rattle.octets.specs.Runs.{part}
use Rattle.checking.specs.Alone.{key_of}
use Rattle.leaf.proofs.Cells.{key-inside}
use Rattle.leaf.proofs.cell.Cell.key.Goals as goal

pub slice_bounds-result-end : goal.slice_bounds-result-end
slice_bounds-result-end c = omega (arith, key-inside _ c.args.self.now.whole)

pub returns : goal.returns
unfolding key_of part
returns c = let e : 3 + c.from-k.result - 3 ≡ get_or c.args.self.now.bytes.now 0 0 = omega arith in rw e
