-- The numbers are written one behind the other.
use Rattle.octets.specs.Runs.{over}
use Rattle.octets.specs.Numbers.{bytes16, bytes32}
use Rattle.page.specs.Header.{front_of}
use Rattle.page.proofs.header.front.Goals as goal

pub returns : goal.returns
unfolding front_of bytes16 bytes32 over
returns c = rw (c.put-6.ensures, c.put-5.ensures, c.put-4.ensures, c.put-3.ensures, c.put-2.ensures, c.put.ensures)
