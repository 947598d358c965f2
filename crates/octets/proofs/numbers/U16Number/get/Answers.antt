-- The two bytes are the number there.
use Rattle.std.proofs.Common.{arith}
use Rattle.octets.specs.Numbers.{word16}
use Rattle.octets.proofs.numbers.U16Number.get.Goals as goal

pub returns : goal.returns
unfolding word16
returns c = rw c.from_le_bytes.ensures (omega arith)
