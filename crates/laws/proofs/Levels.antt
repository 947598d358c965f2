-- "Four levels suffice": the number of levels follows from the pages, so put never has to test it to stay valid (`put-valid`).
use mathlib.Core.Path.{◌≡◌}
use mathlib.Core.Bool.{true}
use mathlib.Core.List.{List}
use Prim.Native.Nat.{ℕ, suc, ◌≤◌}
use Rattle.model.specs.Edition.{Edition}
use Rattle.model.specs.Types.{Store, met}
use Rattle.model.specs.Decode.{decode}
use Rattle.model.specs.Accept.{accepts}
use Rattle.model.proofs.Editions.{Lawful}
use Rattle.laws_image.proofs.Whole.{accepted}
use Rattle.laws_image.proofs.Valid.{clauses}
use Rattle.model.proofs.OnceEach.{once_iff}
use Rattle.laws_size.proofs.Levels.{levels-kept}
use Rattle.laws_size.proofs.Sized.{Sized}

-- of what check accepts beside the order of keys, only the page count and the fullness are needed
pub sized_levels : (E : Edition) → Lawful E → (s : Store) → Sized E s → suc s.depth ≤ E.most_levels
sized_levels E lawful s g = levels-kept E lawful s g.full ((once_iff s.n (met s)).1 g.once) g.few-pages

-- "height 1 to 4"
pub accepted-levels : (E : Edition) (image : List ℕ) → accepts E image ≡ true → suc (decode E image).depth ≤ E.most_levels
accepted-levels E image t = (clauses E (decode E image) (accepted E image t).0).levels
