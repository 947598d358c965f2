-- Each turn compares the key in the middle, and leaves the half that the key can be in.
use Rattle.std.proofs.Common.{arith}
use Rattle.leaf.proofs.Finding.{went-up, went-down, compared-slot, same-key}
use Rattle.leaf.proofs.find.find.Goals as goal

pub loop-low-preserved-in-Less : goal.loop-low-preserved-in-Less
loop-low-preserved-in-Less c =
    went-up _ _ c.requires _ _ _ c.loop-low.invariant (omega arith) (omega arith)
    (compared-slot _ _ _ _ _ _ _ c.key.ensures c.of.ensures c.compare.ensures c.in-Less.is)

pub returns-in-Equal : goal.returns-in-Equal
returns-in-Equal c = (
  omega (arith, c.loop-low.invariant.inside),
  same-key _ _ _ (compared-slot _ _ _ _ _ _ _ c.key.ensures c.of.ensures c.compare.ensures c.in-Equal.is),
)

pub loop-low-preserved : goal.loop-low-preserved
loop-low-preserved c =
    went-down _ _ c.requires _ _ _ c.loop-low.invariant (omega arith) (omega arith)
    (compared-slot _ _ _ _ _ _ _ c.key.ensures c.of.ensures c.compare.ensures c.in-Greater.is)
