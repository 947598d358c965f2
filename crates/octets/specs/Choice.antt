-- If-then-else. (The library's `cond` unfolds everywhere; a choice that stays shut can be matched by a law.)
use Rattle.std.specs.Prelude.{Bool, true, false}

unfoldable pub choose : {A : Type 0} → Bool → A → A → A
choose true x y = x
choose false x y = y
