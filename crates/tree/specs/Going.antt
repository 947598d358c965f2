-- A walk that goes on.
use Rattle.std.specs.Prelude.{◌≡◌}
use Rattle.tree.specs.declared.walk.Walk.{Walk}

-- it has the same pages, and marks in the same work area
pub record GoesOn (before after : Walk) : Type 0 where
  pub pages : after.pages.now ≡ before.pages.now
  pub lent : after.roles.ghost_name ≡ before.roles.ghost_name
