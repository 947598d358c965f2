-- Each test of the code is a test of the walk, in the same order.
use Rattle.std.proofs.Common.{◌∙◌, sym, rules}
use Rattle.tree.proofs.Marks.{said-none}
use Rattle.tree.proofs.Links.{link-none, link-on, link-stop}
use Rattle.tree.proofs.walk.Walk.link.Goals as goal

pub returns-in_err-page-clause-walked : goal.returns-in_err-page-clause-walked
returns-in_err-page-clause-walked c = said-none _ _ c.from_residual.ensures.0 ∙ link-none _ _ _ _ _ c.in_err-page.ensures.met

pub returns-then-not-is_overflow-clause-walked : goal.returns-then-not-is_overflow-clause-walked
returns-then-not-is_overflow-clause-walked c =
    let k = c.in_ok-page.ensures in
    link-stop _ _ _ _ _ _ _ _ k.met k.page (search rules) c.is_overflow.ensures (λ o h. search rules)

pub returns-clause-walked : goal.returns-clause-walked
returns-clause-walked c =
    let k = c.in_ok-page.ensures in
    link-on _ _ _ _ _ _ _ _ k.met k.page (search rules) c.is_overflow.ensures c.if-not-is_overflow.false (sym c.count.ensures.said ∙ c.if-count-held.false)
