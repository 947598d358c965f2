-- Any child and key are some record's, so the key's length and what stands behind the key decide.
use Rattle.std.proofs.Common.{◌≡◌, false, rules}
use lib.Dec.{leb}
use Rattle.octets.specs.Runs.{part}
use Rattle.octets.proofs.Flags.{says_no}
use Rattle.model.specs.Sizes.{key_most}
use Rattle.page.proofs.InnerTested.{record_says}
use Rattle.page.proofs.inner.is_record.Goals as goal

pub returns-then-n-le32 : goal.returns-then-n-le32
unfolding part
returns-then-n-le32 c =
    record_says _ _ c.requires _ c.from-n.ensures (search rules) _ (λ i. (c.type_inv.page i).fits) c.blank.ensures

pub returns-else-n-le32 : goal.returns-else-n-le32
unfolding key_most
returns-else-n-le32 c =
    let e : leb c.from-n.result 32 ≡ false = search rules in
    rw e (says_no (λ k. let s = k.short in search rules))
