-- The four bytes are the number there.
use Rattle.std.proofs.Common.{◌≡◌, ◌+◌, arith}
use Rattle.octets.specs.Numbers.{word16, word32}
use Rattle.octets.proofs.numbers.U32Number.get.Goals as goal

pub returns : goal.returns
unfolding word32 word16
returns c = let e : c.args.at.0 + 2 + 1 ≡ c.args.at.0 + 3 = omega arith in rw e (omega arith)
