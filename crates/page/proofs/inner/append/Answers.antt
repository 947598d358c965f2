-- The records are copied behind the last and the counts are added: the other's records stand behind the page's own.
use Rattle.std.proofs.Common.{◌≡◌, ◌∙◌, ◌+◌, ◌-◌, ◌*◌, arith}
use Rattle.octets.specs.Runs.{part}
use Rattle.page.proofs.InnerChanges.{add_at, add_is}
use Rattle.page.proofs.inner.append.Goals as goal

pub returns : goal.returns
unfolding part add_at
returns c =
    let m = c.count-m.result in
    let d : 12 + 35 * m - 12 ≡ 35 * m = omega arith in
    add_is _ _ _ _ _ c.count-c.ensures.said c.count-m.ensures.said c.requires (c.set_count.ensures ∙ rw (c.copy_in.ensures, d))
