-- The library's test of every entry is the model's.
use Rattle.std.proofs.Common.{◌∙◌, not, rules, tests}
use Rattle.std.proofs.lemmas.Iterator.{YieldsList-from_slice}
use Rattle.std.proofs.lemmas.Iterator.Search.{all_from_yields_List}
use lib.Dec.{eqb}
use Rattle.tree.proofs.Marks.{all-met}
use Rattle.tree.proofs.meeting.all_met.Goals as goal

pub returns : goal.returns
returns c =
    all_from_yields_List (λ r. not (eqb r 0)) _ _ _ c.all.ensures.ran (YieldsList-from_slice c.args.roles.now cc) (λ x b q k. search (rules, tests))
    ∙ all-met _
