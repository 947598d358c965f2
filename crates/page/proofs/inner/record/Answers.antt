-- Length, child and key stand one behind the other.
use Rattle.std.proofs.Common.{◌≡◌, length, rules}
use Rattle.page.proofs.InnerPages.{record_made}
use Rattle.page.proofs.inner.record.Goals as goal

pub returns : goal.returns
returns c =
    let l : length c.args.key.bytes ≡ 32 = search rules in
    record_made _ _ _ _ _ l c.put.ensures c.copy_in.ensures
