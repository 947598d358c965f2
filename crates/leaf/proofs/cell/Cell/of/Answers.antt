-- The part has as many bytes as its first three say.
use Rattle.std.proofs.Common.{◌≡◌, ◌∙◌, ap, ◌+◌, ◌-◌, length, arith}
use Rattle.std.proofs.lemmas.Slice.{between_to_end}
use Rattle.octets.specs.Runs.{part}
use Rattle.model.specs.Layouts.{cell_size}
use Rattle.leaf.proofs.Cells.{is-cell, is-slot}
use Rattle.leaf.proofs.cell.Cell.of.Goals as goal

pub invariant_of-result : goal.invariant_of-result
unfolding part
invariant_of-result c =
    let d : c.from-at.result + c.size-n.result - c.from-at.result ≡ c.size-n.result = omega arith in
    let e = c.size-n.ensures ∙ ap cell_size (between_to_end c.args.page.now c.from-at.result (length c.args.page.now) (omega arith)) in
    record { whole = rw d (is-cell _ _ _ _ c.requires (c.from-at.ensures ∙ c.get.ensures) e) }

pub returns : goal.returns
unfolding part
returns c =
    let d : c.from-at.result + c.size-n.result - c.from-at.result ≡ c.size-n.result = omega arith in
    let e = c.size-n.ensures ∙ ap cell_size (between_to_end c.args.page.now c.from-at.result (length c.args.page.now) (omega arith)) in
    rw d (is-slot _ _ _ _ c.requires (c.from-at.ensures ∙ c.get.ensures) e)
