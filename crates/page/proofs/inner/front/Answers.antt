-- The kind and the two numbers are written one behind the other.
use Rattle.octets.specs.Runs.{over, zeros}
use Rattle.octets.specs.Numbers.{bytes16}
use Rattle.page.specs.Inner.{front_is}
use Rattle.page.proofs.inner.front.Goals as goal

pub returns : goal.returns
unfolding front_is bytes16 zeros over
returns c = rw (c.put-2.ensures, c.put.ensures)
