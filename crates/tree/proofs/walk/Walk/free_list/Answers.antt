-- Each turn meets one free page, so what is left of the walk starts at the next.
use Rattle.std.proofs.Common.{◌∙◌, refl, arith, rules}
use Rattle.tree.proofs.Marks.{said-none}
use Rattle.tree.proofs.Freed.{go-done, go-astray, go-old, go-bad, go-on}
use Rattle.tree.proofs.walk.Walk.free_list.Goals as goal

pub returns-then-p-eq0-clause-walked : goal.returns-then-p-eq0-clause-walked
returns-then-p-eq0-clause-walked c = go-done _ _ _ _ _ _ c.loop.invariant.to_go c.if-p-eq0.true

pub returns-in_err-page-clause-walked : goal.returns-in_err-page-clause-walked
returns-in_err-page-clause-walked c =
    let i = c.loop.invariant in
    said-none _ _ c.from_residual.ensures.0
    ∙ go-old _ _ _ _ _ _ i.to_go _ i.on.pages (omega arith) c.if-p-eq0.false c.in_err-page.ensures.met

pub returns-then-not-is_free-clause-walked : goal.returns-then-not-is_free-clause-walked
returns-then-not-is_free-clause-walked c =
    let i = c.loop.invariant in
    let k = c.in_ok-page.ensures in
    go-bad _ _ _ _ _ _ i.to_go _ i.on.pages (omega arith) c.if-p-eq0.false _ _ _ k.met k.page (search rules) c.is_free.ensures c.if-not-is_free.true

pub loop-preserved : goal.loop-preserved
loop-preserved c =
    let i = c.loop.invariant in
    let k = c.in_ok-page.ensures in
    record {
      on = record { pages = k.on.pages ∙ i.on.pages; lent = k.on.lent ∙ i.on.lent };
      all = refl;
      to_go =
          go-on _ _ _ _ _ _ i.to_go _ i.on.pages (omega arith) c.if-p-eq0.false _ _ _ k.met k.page (search rules) c.is_free.ensures _ _ c.if-not-is_free.false
          c.next-p.ensures (omega arith);
    }

pub returns-then-p-ne0-clause-walked : goal.returns-then-p-ne0-clause-walked
returns-then-p-ne0-clause-walked c = go-astray _ _ _ _ _ _ c.loop.invariant.to_go (omega arith) c.if-p-ne0.true

pub returns-clause-walked : goal.returns-clause-walked
returns-clause-walked c = go-done _ _ _ _ _ _ c.loop.invariant.to_go c.if-p-ne0.false
