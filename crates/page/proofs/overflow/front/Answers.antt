-- The kind and the two numbers are written one behind the other.
use Rattle.octets.specs.Runs.{over}
use Rattle.octets.specs.Numbers.{bytes16}
use Rattle.page.specs.Overflow.{over_front}
use Rattle.page.proofs.overflow.front.Goals as goal

pub returns : goal.returns
unfolding over_front bytes16 over
returns c = rw (c.put-2.ensures, c.put.ensures)
