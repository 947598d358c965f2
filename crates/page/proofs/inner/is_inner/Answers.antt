-- The page is its own re-encoding exactly if its front and its records are and zeros stand behind them.
use Rattle.std.proofs.Common.{rules}
use Rattle.octets.specs.Runs.{part}
use Rattle.octets.proofs.Flags.{says_no}
use Rattle.page.proofs.InnerRule.{rule_few, rule_front, rule_ranked, rule_says}
use Rattle.page.proofs.inner.is_inner.Goals as goal

pub returns-then-are_records : goal.returns-then-are_records
unfolding part
returns-then-are_records c =
    rule_says _ c.requires _ _ (search rules) c.count-c.ensures.said (search rules) (search rules) c.blank.ensures

pub returns-else-are_records : goal.returns-else-are_records
returns-else-are_records c =
    rw c.if-are_records.false
    (says_no (λ k. let a = rule_few _ c.requires k in let b = rule_front _ c.requires k in let d = rule_ranked _ c.requires k in search rules))
