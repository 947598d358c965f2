-- It is the test by the first bytes where they differ, else by the comparison's answer.
use Rattle.std.proofs.Common.{◌∙◌, ap, rules}
use Rattle.std.specs.Ordering.{is_lt}
use Rattle.octets.specs.Keys.{before}
use Rattle.octets.proofs.Compare.{first_compared}
use Rattle.octets.proofs.keys.before.Goals as goal

pub returns-then-a-b : goal.returns-then-a-b
unfolding before
returns-then-a-b c = search rules ∙ ap is_lt (first_compared _ _ (search rules) (search rules) c.if-a-b.true)

pub returns : goal.returns
unfolding before
returns c = c.is_lt.ensures ∙ ap is_lt c.compare.ensures
