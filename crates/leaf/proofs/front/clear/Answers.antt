-- Over a cleared page stands the front, and there is no cell.
use Rattle.std.proofs.Common.{◌≡◌, length, rules}
use Rattle.octets.specs.Runs.{zeros}
use Rattle.leaf.proofs.Emptied.{leaf-cleared}
use Rattle.leaf.proofs.front.clear.Goals as goal

pub returns : goal.returns
unfolding zeros
returns c =
    let l : length c.fill.new.self ≡ length c.args.page.now = c.fill.ensures.len in
    leaf-cleared _ _ _ _ _ c.requires.long (search rules) (rw l at c.front-bytes.ensures) c.copy_in.ensures
