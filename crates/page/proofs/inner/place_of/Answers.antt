-- The search passes one separator at a time, so what is left of it starts at the next.
use Rattle.std.proofs.Common.{arith}
use Rattle.page.proofs.InnerPages.{sought-start, sought_end, sought-here, sought-on}
use Rattle.page.proofs.inner.place_of.Goals as goal

pub loop-i-init : goal.loop-i-init
loop-i-init c = sought-start _ _ _ c.requires c.count-c.ensures.said

pub returns-then-before : goal.returns-then-before
returns-then-before c =
    sought-here _ _ _ c.requires c.count-c.ensures.said _ c.loop-i.invariant c.loop-i-test.true _ _ c.separator.ensures c.before-in-loop-i.ensures
    c.if-before.true

pub loop-i-preserved : goal.loop-i-preserved
loop-i-preserved c =
    sought-on _ _ _ c.requires c.count-c.ensures.said _ c.loop-i.invariant c.loop-i-test.true _ _ c.separator.ensures c.before-in-loop-i.ensures
    c.if-before.false

pub returns : goal.returns
returns c = sought_end _ _ _ c.requires c.count-c.ensures.said _ c.loop-i.invariant (omega arith) c.loop-i.auto.i-end
