-- The first child and each record's stand at their offsets.
use Rattle.page.proofs.InnerPages.{child-first, child-later}
use Rattle.page.proofs.inner.child.Goals as goal

pub returns-then-place-eq0 : goal.returns-then-place-eq0
returns-then-place-eq0 c = child-first _ _ _ c.if-place-eq0.true (rw c.get.ensures)

pub returns : goal.returns
returns c = child-later _ _ _ c.if-place-eq0.false (rw c.get-2.ensures)
