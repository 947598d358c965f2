-- Bytes joined by `or` are zero exactly if each is.
use Rattle.std.proofs.Common.{rules}
use Rattle.octets.proofs.Flags.{says-zeros}
use Rattle.octets.proofs.runs.blank.Goals as goal

pub returns : goal.returns
returns c = says-zeros c.args.b.now c.fold.result (search rules)
