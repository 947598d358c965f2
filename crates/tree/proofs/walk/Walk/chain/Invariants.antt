-- Each turn meets one full page, so what is left of the walk starts at the next.
use Rattle.tree.specs.Going.{GoesOn}
use Rattle.tree.proofs.Chained.{Left}
use Rattle.tree.proofs.walk.Walk.chain.Given as goal

abbrev pub invariant-loop-left : goal.invariant-loop-left
invariant-loop-left l = record {
  on : GoesOn l.fn.self l.self;
  left : Left l.fn.self.pages.now l.fn.first.0 l.v l.fn.self.roles.now l.p.0 l.left l.self.roles.now;
}

abbrev pub decreases-loop-left : goal.decreases-loop-left
decreases-loop-left l = l.left
