-- The records move down, the last one's place is cleared, and the count goes down by one: the page is the one without the record.
use Rattle.std.proofs.Common.{◌≡◌, ◌∙◌, ◌+◌, ◌*◌, arith}
use Rattle.page.proofs.InnerChanges.{cut_at, cut-is}
use Rattle.page.proofs.inner.remove.Goals as goal

pub returns : goal.returns
unfolding cut_at
returns c =
    let e : 12 + 35 * c.args.i + 35 ≡ 12 + 35 * (c.args.i + 1) = omega arith in
    cut-is _ _ _ _ c.count-c.ensures.said c.requires.place (c.set_count.ensures ∙ rw (c.zero.ensures, c.move_within.ensures, e))
