-- The kind and the two numbers that are not zero are written in their places.
use Rattle.octets.specs.Runs.{over}
use Rattle.octets.specs.Numbers.{bytes16}
use Rattle.model.specs.Lists.{gather}
use Rattle.model.specs.Layouts.{leaf_top}
use Rattle.leaf.specs.Empty.{empty}
use Rattle.leaf.proofs.Emptied.{no-holes}
use Rattle.leaf.proofs.front.front.Goals as goal

pub returns : goal.returns
unfolding leaf_top gather empty bytes16 over
returns c = rw (c.put-2.ensures, c.put.ensures, no-holes c.args.length c.args.next.0)
