-- Any reference, count and payload are some overflow page's, so the fixed bytes, the room and the rest decide.
use Rattle.std.proofs.Common.{rules}
use Rattle.octets.specs.Runs.{part}
use Rattle.octets.proofs.Flags.{says_no}
use Rattle.page.proofs.ByItself.{over-front, over-says}
use Rattle.page.proofs.overflow.is_overflow.Goals as goal

pub returns-then-e-page : goal.returns-then-e-page
unfolding part
returns-then-e-page c =
    over-says _ (search rules) _ _ (λ i. (c.type_inv.page i).fits) (search rules) (search rules) (search rules) (search rules) (search rules)
    c.blank.ensures

pub returns-else-e-page : goal.returns-else-e-page
returns-else-e-page c = rw c.if-e-page.false (says_no (λ k. let f = over-front _ k.fits k in let h = k.fits in search rules))
