-- The image cut into pages is its first pages.
use Rattle.std.proofs.Common.{◌∙◌}
use Rattle.tree.proofs.Books.{pages_of-chunks}
use Rattle.tree.proofs.walk.Walk.new.Goals as goal

pub returns-clause-pages : goal.returns-clause-pages
returns-clause-pages c = c.as_chunks.ensures.front ∙ pages_of-chunks _ _ c.requires
