-- The part ends as many bytes behind offset 8 as the page says.
use Rattle.std.proofs.Common.{◌≡◌, ◌+◌, ◌-◌, arith}
use Rattle.octets.specs.Runs.{part}
use Rattle.octets.specs.Numbers.{word16}
use Rattle.model.specs.Layouts.{of_over}
use Rattle.page.proofs.overflow.held.Goals as goal

pub returns : goal.returns
unfolding of_over part
returns c =
    let e : 8 + c.count-e.result - 8 ≡ word16 c.args.page.now 4 = omega (arith, c.count-e.ensures.said) in
    rw e
