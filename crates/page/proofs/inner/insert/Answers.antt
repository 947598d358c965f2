-- The records move up, the new one is copied into the gap, and the count goes up by one: the page has one record more.
use Rattle.std.proofs.Common.{◌≡◌, ◌∙◌, ◌+◌, ◌*◌, arith}
use Rattle.page.proofs.InnerChanges.{put_at, put_is}
use Rattle.page.proofs.inner.insert.Goals as goal

pub returns : goal.returns
unfolding put_at
returns c =
    let e : 12 + 35 * c.args.i + 35 ≡ 12 + 35 * (c.args.i + 1) = omega arith in
    put_is _ _ _ _ _ c.count-c.ensures.said c.requires (c.set_count.ensures ∙ rw (c.copy_in.ensures, c.move_within.ensures, e))
