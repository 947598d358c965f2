-- Each turn tests one record against the key of the one before.
use Rattle.std.proofs.Common.{refl, arith}
use borrow.Author.Count.{below_none}
use Rattle.page.specs.Inner.{key_before}
use Rattle.page.proofs.InnerTested.{one_inside, above_on, key-on}
use Rattle.page.proofs.inner.are_records.Goals as goal

pub loop-i-init : goal.loop-i-init
unfolding key_before
loop-i-init c = record { behind = refl; ranked = below_none _ }

pub separator-key-requires : goal.separator-key-requires
separator-key-requires c =
    one_inside _ _ _ c.loop-i-test.true (omega arith) (c.is_record.ensures.sound c.if-not-is_record.false)

pub loop-i-preserved : goal.loop-i-preserved
loop-i-preserved c =
    let h = c.loop-i-test.true in
    let l = c.loop-i.invariant.behind in
    let k = c.separator-key.ensures in
    let b = c.before-in-loop-i.ensures in
    let o = c.is_record.ensures.sound c.if-not-is_record.false in
    record { behind = key-on _ _ _ h _ _ _ l k b; ranked = above_on _ _ _ h _ _ _ l k b o c.if-not-before.false c.loop-i.invariant.ranked }
