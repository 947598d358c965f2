-- At the end every byte of the run is zero.
use Rattle.std.proofs.Common.{◌∙◌, arith, rules}
use Rattle.octets.proofs.Over.{length-zeros}
use Rattle.octets.proofs.Parts.{part_written, all-zeros}
use Rattle.octets.proofs.runs.zero.Goals as goal

pub returns : goal.returns
returns c =
    part_written _ _ _ _ _ (all-zeros c.loop-x.run c.args.n (search rules) (λ i h. c.loop-x.invariant i (search rules))) (length-zeros _ ∙ omega arith) (omega arith)
