-- Another record's bytes stand where the record's stood.
use Rattle.page.proofs.InnerChanges.{replace_is}
use Rattle.page.proofs.inner.replace.Goals as goal

pub returns : goal.returns
returns c = replace_is _ _ _ _ c.copy_in.ensures
