-- The bytes of the number are the part written.
use Rattle.std.proofs.Common.{arith, ◌∙◌}
use Rattle.octets.proofs.Words.{le_bytes32, length-bytes32}
use Rattle.octets.proofs.Parts.{part_written}
use Rattle.octets.proofs.numbers.U32Number.put.Goals as goal

pub returns : goal.returns
returns c =
    part_written _ _ _ _ _ (c.copy_from_slice.ensures.after ∙ c.to_le_bytes.ensures ∙ le_bytes32 _ c.ranges.self.fits)
    (omega (arith, length-bytes32 c.args.self)) (omega arith)
