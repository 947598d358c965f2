-- Bytes are below 256, and what is read of bytes is bytes.
use mathlib.Core.List.{List}
use Prim.Native.Nat.{ℕ, suc, ◌+◌, ◌/◌, ◌<◌, min}
use native.Mathlib.Omega.{arith}
use lib.ListN.{get_or, take, drop, length-take, get_or-eq_default}
use lib.Seq.{get_or-take, get_or-drop}
use lib.Dec.{leb}
use borrow.Author.Tests.{leb-true, leb-false}
use Rattle.octets.specs.Runs.{part}
use Rattle.octets.specs.Numbers.{word16}
use Rattle.model.specs.Lists.{from}
use Rattle.model.specs.Layouts.{placed_at, slot_of, of_leaf}
use Rattle.model.proofs.Each.{All, all_map}
use Rattle.model.proofs.Tests.{cases}

abbrev pub Small : List ℕ → Type 0
Small b = (i : ℕ) → get_or b i 0 < 256

pub small_take : (n : ℕ) (l : List ℕ) → Small l → Small (take n l)
small_take n l f i =
    cases (leb (suc i) n) (λ t. let h : i < n = leb-true _ _ t in rw (get_or-take n l i 0 h) (f i))
    (λ t. let h : n < suc i = leb-false _ _ t in
    rw (get_or-eq_default (take n l) 0 {n = i} (omega (arith, length-take n l))) (omega arith))

pub small_part : (l : List ℕ) (at n : ℕ) → Small l → Small (part l at n)
unfolding part
small_part l at n f = small_take n (drop at l) (λ i. rw (get_or-drop at l i 0) (f (at + i)))

pub small_cells_lem : (L : ℕ) (page : List ℕ) → Small page → All (λ c. Small c.bytes) (of_leaf L page).cells
unfolding of_leaf slot_of placed_at
small_cells_lem L page f = all_map (slot_of page) (λ i. small_part page _ _ f) (from 0 (min (L / 2) (word16 page 2)))
