-- The keys below the low end are below the key, and those from the high end on are above it.
use Rattle.std.proofs.Common.{◌-◌}
use Rattle.leaf.proofs.Finding.{Between}
use Rattle.leaf.proofs.find.find.Given as goal

abbrev pub invariant-loop-low : goal.invariant-loop-low
invariant-loop-low l = Between l.page l.key l.low l.high

abbrev pub decreases-loop-low : goal.decreases-loop-low
decreases-loop-low l = l.high - l.low
