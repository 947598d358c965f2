-- The part written is the run.
use Rattle.std.proofs.Common.{arith}
use Rattle.octets.proofs.Parts.{part_written}
use Rattle.octets.proofs.runs.copy_in.Goals as goal

pub returns : goal.returns
returns c = part_written _ _ _ _ _ c.copy_from_slice.ensures.after (omega arith) (omega arith)
