-- The first fourteen bytes are written anew, and behind them a header has zeros already.
use Rattle.page.proofs.ByItself.{head-written}
use Rattle.page.proofs.header.write.Goals as goal

pub returns : goal.returns
returns c = head-written _ _ _ _ c.requires c.front-bytes.ensures c.copy_in.ensures
