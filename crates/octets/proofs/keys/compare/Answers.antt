-- The library's order is that of keys.
use Rattle.octets.proofs.Compare.{compared_keys}
use Rattle.octets.proofs.keys.compare.Goals as goal

pub returns : goal.returns
returns c = rw c.cmp.ensures (compared_keys _ _)
