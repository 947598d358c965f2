-- The first child stands at its offset, and nothing else changes.
use Rattle.page.proofs.InnerChanges.{first-set}
use Rattle.page.proofs.inner.set_first.Goals as goal

pub returns : goal.returns
returns c = first-set _ _ _ c.put.ensures
