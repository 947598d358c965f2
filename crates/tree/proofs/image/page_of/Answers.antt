-- The part begins at the page's number times its length.
use Rattle.octets.specs.Runs.{part}
use Rattle.tree.proofs.Books.{page-taken}
use Rattle.tree.proofs.image.page_of.Goals as goal

pub returns : goal.returns
unfolding part
returns c = rw c.from-a.ensures (page-taken _ _)
