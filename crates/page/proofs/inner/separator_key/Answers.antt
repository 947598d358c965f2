-- The 32 bytes behind the record's three first are copied whole.
use Rattle.std.proofs.Common.{refl}
use Rattle.octets.specs.Runs.{part}
use Rattle.page.proofs.InnerPages.{key-value}
use Rattle.page.proofs.inner.separator_key.Goals as goal

pub returns : goal.returns
unfolding part
returns c = key-value _ _ _ _ c.copy_from_slice.ensures.after refl (c.type_inv.page _).fits
