-- Each turn meets one free page, so what is left of the walk starts at the next.
use Rattle.std.proofs.Common.{◌-◌, ◌≡◌, length}
use Rattle.tree.specs.Going.{GoesOn}
use Rattle.tree.proofs.Freed.{ToGo}
use Rattle.tree.proofs.walk.Walk.free_list.Given as goal

abbrev pub invariant-loop : goal.invariant-loop
invariant-loop l = record {
  on : GoesOn l.fn.self l.self;
  all : l.end ≡ length l.fn.self.pages.now;
  to_go : ToGo l.fn.self.pages.now l.fn.first.0 l.fn.self.roles.now l.p.0 (l.end - l.counter) l.self.roles.now;
}
