-- In front of cleared bytes stand the front and, right behind it, what is held.
use Rattle.page.proofs.ByItself.{over-written}
use Rattle.page.proofs.overflow.write.Goals as goal

pub returns : goal.returns
returns c =
    over-written _ _ _ _ _ _ _ c.requires.room c.zero.ensures c.front-bytes.ensures c.copy_in.ensures c.copy_in-2.ensures
