-- Each turn meets one full page, so what is left of the walk starts at the next.
use Rattle.std.proofs.Common.{◌∙◌, refl, arith}
use Rattle.tree.proofs.Marks.{said-none}
use Rattle.tree.proofs.Chained.{left-start, left-stop, left-on, left-none, left-end, left-astray}
use Rattle.tree.proofs.walk.Walk.chain.Goals as goal

pub loop-left-init : goal.loop-left-init
loop-left-init c = record { on = record { pages = refl; lent = refl }; left = left-start _ _ _ _ c.requires }

pub returns-in_err-p-clause-walked : goal.returns-in_err-p-clause-walked
returns-in_err-p-clause-walked c =
    let i = c.loop-left.invariant in
    said-none _ _ c.from_residual.ensures.0 ∙ left-stop _ _ _ _ _ i.on.pages _ _ _ i.left c.loop-left-test.true c.in_err-p.ensures.walked

pub loop-left-preserved : goal.loop-left-preserved
loop-left-preserved c =
    let i = c.loop-left.invariant in
    let k = c.in_ok-p.ensures in
    record {
      on = record { pages = k.on.pages ∙ i.on.pages; lent = k.on.lent ∙ i.on.lent };
      left = left-on _ _ _ _ _ i.on.pages _ _ _ i.left c.loop-left-test.true _ _ k.walked k.next;
    }

pub returns-in_err-link-clause-walked : goal.returns-in_err-link-clause-walked
returns-in_err-link-clause-walked c =
    let i = c.loop-left.invariant in
    said-none _ _ c.from_residual-in_err-link.ensures.0
    ∙ left-none _ _ _ _ _ i.on.pages _ _ _ i.left (omega (arith, c.loop-left-test.false)) c.in_err-link.ensures.walked

pub returns-then-branch-ne0-clause-walked : goal.returns-then-branch-ne0-clause-walked
returns-then-branch-ne0-clause-walked c =
    let i = c.loop-left.invariant in
    let k = c.in_ok-link.ensures in
    left-astray _ _ _ _ _ i.on.pages _ _ _ i.left (omega (arith, c.loop-left-test.false)) _ _ k.walked k.next c.if-branch-ne0.true

pub returns-clause-walked : goal.returns-clause-walked
returns-clause-walked c =
    let i = c.loop-left.invariant in
    let k = c.in_ok-link.ensures in
    left-end _ _ _ _ _ i.on.pages _ _ _ i.left (omega (arith, c.loop-left-test.false)) _ _ k.walked k.next c.if-branch-ne0.false
