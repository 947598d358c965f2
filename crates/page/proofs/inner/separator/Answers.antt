-- The part begins behind the record's three first bytes and is as long as the first says.
use Rattle.octets.specs.Runs.{part}
use Rattle.page.proofs.InnerPages.{key-part}
use Rattle.page.proofs.inner.separator.Goals as goal

pub returns : goal.returns
unfolding part
returns c = key-part _ _ _ c.from-n.ensures
