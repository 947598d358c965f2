-- In front of cleared bytes stand the front and, right behind it, the records.
use Rattle.octets.specs.Runs.{part}
use Rattle.page.proofs.InnerChanges.{fill_is}
use Rattle.page.proofs.inner.fill.Goals as goal

pub returns : goal.returns
unfolding part
returns c =
    fill_is _ _ _ _ _ _ _ _ _ c.requires.room c.zero.ensures c.front-bytes.ensures c.copy_in.ensures c.copy_in-2.ensures
