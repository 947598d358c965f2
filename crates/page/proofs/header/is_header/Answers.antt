-- Any fourteen bytes are some header's, so the rest decides.
use Rattle.octets.specs.Runs.{part}
use Rattle.page.proofs.ByItself.{head-says}
use Rattle.page.proofs.header.is_header.Goals as goal

pub returns : goal.returns
unfolding part
returns c = head-says _ _ (λ i. (c.type_inv.page i).fits) c.requires c.blank.ensures
