-- Each turn tests one separator: what is left of the search starts there.
use Rattle.page.proofs.InnerPages.{Sought}
use Rattle.page.proofs.inner.place_of.Given as goal

abbrev pub invariant-loop-i : goal.invariant-loop-i
invariant-loop-i l = Sought l.page l.key l.c l.i
