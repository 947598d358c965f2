-- Each turn tests one record against the key of the one before.
use Rattle.std.proofs.Common.{◌≡◌}
use Rattle.page.specs.Inner.{key_before, AllRanked}
use Rattle.page.proofs.inner.are_records.Given as goal

abbrev pub invariant-loop-i : goal.invariant-loop-i
invariant-loop-i l = record { behind : l.last ≡ key_before l.page l.i; ranked : AllRanked l.page l.i }
