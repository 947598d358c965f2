-- Any reference is some free page's, so the first two bytes and the rest decide.
use Rattle.std.proofs.Common.{rules}
use Rattle.octets.specs.Runs.{part}
use Rattle.octets.proofs.Flags.{says_no}
use Rattle.page.proofs.ByItself.{free-front, free-says}
use Rattle.page.proofs.free.is_free.Goals as goal

pub returns-then-page-eq0 : goal.returns-then-page-eq0
unfolding part
returns-then-page-eq0 c = free-says _ c.requires _ (λ i. (c.type_inv.page i).fits) (search rules) (search rules) c.blank.ensures

pub returns-else-page-eq0 : goal.returns-else-page-eq0
returns-else-page-eq0 c = rw c.if-page-eq0.false (says_no (λ k. let f = free-front _ c.requires k in search rules))
