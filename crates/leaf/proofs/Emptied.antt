-- An empty leaf is its front and zeros: it has no holes and no cell.
use Rattle.std.proofs.Common.{◌≡◌, refl, ◌∙◌, List, ℕ, ◌≤◌, length, arith}
use Rattle.octets.specs.Numbers.{bytes16}
use Rattle.octets.specs.Runs.{over, zeros}
use Rattle.model.specs.Lists.{total, gather}
use Rattle.model.specs.Layouts.{holes, leaf_top, to_leaf, with_cells}
use Rattle.page.proofs.Fronts.{zeros-over}
use Rattle.leaf.specs.Empty.{empty}

pub no-holes : (L next : ℕ) → holes L (empty L next) ≡ 0
unfolding holes empty total
no-holes L next = omega arith

top-length : (L next : ℕ) → length (leaf_top L (empty L next)) ≡ 12
unfolding leaf_top empty bytes16 gather
top-length L next = refl

pub leaf-cleared : (L next : ℕ) (z b q : List ℕ) → 12 ≤ L → z ≡ zeros L → b ≡ leaf_top L (empty L next) → q ≡ over z 0 b → q ≡ to_leaf L (empty L next)
unfolding to_leaf with_cells empty
leaf-cleared L next z b q h e f g = g ∙ rw (e, f) (zeros-over L (leaf_top L (empty L next)) (omega (arith, top-length L next)))
