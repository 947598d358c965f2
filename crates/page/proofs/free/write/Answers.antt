-- Behind the cleared page's first two zeros stands the reference.
use Rattle.std.proofs.Common.{rules}
use Rattle.octets.specs.Runs.{zeros}
use Rattle.page.proofs.ByItself.{free-written}
use Rattle.page.proofs.free.write.Goals as goal

pub returns : goal.returns
unfolding zeros
returns c = free-written _ _ _ _ c.requires (search rules) c.put.ensures
