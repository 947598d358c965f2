-- The work area as the walk of check leaves it: an entry for each page of the image, which has the number of the page's role.
use Rattle.std.specs.Prelude.{Bool, not, List, ℕ, take, eqb, Result, Ok, Err}
use Rattle.std.proofs.Math.Option.{Option, none, some}
use Rattle.model.specs.Lists.{every}
use Rattle.tree.specs.declared.meeting.Role.{Role}
use Rattle.tree.specs.declared.meeting.Role.TheVariants.{Leaf, Inner, Overflow, Free, Header}

-- "1 leaf, 2 inner, 3 overflow, 4 free, 5 header"
abbrev pub number_of : Role → ℕ
number_of Leaf = 1
number_of Inner = 2
number_of Overflow = 3
number_of Free = 4
number_of Header = 5

-- the work area, unless the walk was refused
abbrev pub said : {T E A : Type 0} → Result T E → A → Option A
said (Ok x) work = some work
said (Err e) work = none

unfoldable pub AllMet : ℕ → List ℕ → Bool
AllMet n work = every (λ r. not (eqb r 0)) (take n work)
