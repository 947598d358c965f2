-- It is the law of a part moved.
use Rattle.octets.proofs.Parts.{part_moved}
use Rattle.octets.proofs.runs.move_within.Goals as goal

pub returns : goal.returns
returns c = rw c.copy_within.ensures.after (part_moved _ _ _ _ c.requires.source c.requires.target)
