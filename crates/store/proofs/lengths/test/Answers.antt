-- Behind an image and a work area of good lengths stands the test of keys.
use Rattle.std.proofs.Common.{◌≡◌, ◌/◌, true, false, rules, tests}
use lib.Dec.{ltb}
use Rattle.octets.specs.Choice.{choose}
use Rattle.model.specs.Edition.{edition1}
use Rattle.model.specs.Refusals.{good_image, by_arguments, by_lengths}
use Rattle.store.proofs.lengths.test.Goals as goal

pub returns-then-not-keys : goal.returns-then-not-keys
unfolding by_lengths by_arguments choose
returns-then-not-keys c =
    let g : good_image edition1 c.args.bytes ≡ true = search rules in
    let w : ltb c.args.entries (c.args.bytes / 512) ≡ false = search (rules, tests) in
    rw (g, w, c.if-not-keys.true)
