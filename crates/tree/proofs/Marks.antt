-- The test that each entry has a role, and that a refused outcome says `none`.
use Rattle.std.proofs.Common.{◌≡◌, refl, List, [], ◌∷◌, ℕ, Bool, not, length}
use Rattle.std.specs.Prelude.{Result, Ok, Err, IsErr}
use Rattle.std.specs.List.{list_all}
use mathlib.Core.Option.{none}
use lib.Seq.{take-length}
use lib.Dec.{eqb}
use Rattle.model.specs.Lists.{every}
use Rattle.tree.specs.Work.{said, AllMet}

every_all : (f : ℕ → Bool) (l : List ℕ) → list_all f l ≡ every f l
unfolding every
every_all f [] = refl
every_all f (x ∷ l) = rw (every_all f l)

pub all-met : (w : List ℕ) → list_all (λ r. not (eqb r 0)) w ≡ AllMet (length w) w
unfolding AllMet
all-met w = rw take-length (every_all _ w)

pub said-none : {T E A : Type 0} (r : Result T E) (w : A) → IsErr r → said r w ≡ none
said-none (Ok x) w e = cc
said-none (Err x) w e = refl
