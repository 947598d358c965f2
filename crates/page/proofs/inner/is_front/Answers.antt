-- The bytes of the two numbers are any, so the first byte and those that are zero for good decide.
use Rattle.octets.proofs.Flags.{says-eqb}
use Rattle.page.proofs.InnerTested.{front_yes, front_kind, front-zeros}
use Rattle.page.proofs.inner.is_front.Goals as goal

pub returns-then-page : goal.returns-then-page
returns-then-page c =
    says-eqb _ _ (front_yes _ c.requires (λ i. (c.type_inv.page i).fits) c.if-page.true) (front-zeros _ c.requires)

pub returns-else-page : goal.returns-else-page
returns-else-page c = says-eqb _ _ (λ e. absurd (c.if-page.false e)) (front_kind _ c.requires)
