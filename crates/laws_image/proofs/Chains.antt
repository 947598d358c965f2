-- The overflow pages are among the pages that the walk meets, and it meets each page once: so none is in two chains.
use mathlib.Core.Path.{◌≡◌, ◌∙◌}
use mathlib.Core.Bool.{true}
use Prim.Native.Nat.{ℕ, ◌+◌, ◌≤◌}
use native.Mathlib.Omega.{arith}
use lib.Dec.{eqb}
use Rattle.octets.proofs.Choice.{either}
use Rattle.model.specs.Lists.{total, times}
use Rattle.model.specs.Edition.{Edition}
use Rattle.model.specs.Types.{Store, walk, met}
use Rattle.model.specs.Accept.{valid}
use Rattle.model.proofs.Lists.{total-map, times-total}
use Rattle.model.proofs.Sums.{is, times-cons, times-append, total_mono}
use Rattle.laws_image.specs.Marks.{chains}
use Rattle.laws_image.proofs.Numbered.{places, met-walk}
use Rattle.laws_image.proofs.PagesMet.{page-most}
use Rattle.laws_image.proofs.Counts.{overflow, total-chains}

times-chains : (s : Store) (p : ℕ) → times p (chains s.depth s.root) ≤ times p (met s)
times-chains s p =
    let ms = walk s.depth s.root in
    let a : times p (chains s.depth s.root) ≡ total (overflow (is p)) ms = times-total p _ ∙ total-chains (is p) s.depth s.root in
    let b : total (overflow (is p)) ms ≤ total (λ m. is p m.page) ms =
    total_mono _ _ (λ m. either (λ (n : ℕ). n ≤ is p m.page) (eqb 3 m.role) _ 0 (omega arith) (omega arith)) ms in
    let c : times p (places ms) ≡ total (λ m. is p m.page) ms = times-total p _ ∙ total-map (is p) (λ m. m.page) ms in
    let d : times p (met s) ≡ times p (places ms) + times p s.free = rw (met-walk s) (times-append p (places ms) s.free) in
    omega arith

-- an overflow page belongs to one value
pub chain-once : (E : Edition) (s : Store) → valid E s ≡ true → (p : ℕ) → 1 ≤ times p (chains s.depth s.root)
    → times p (chains s.depth s.root) ≡ 1
chain-once E s t p h = omega (arith, times-chains s p, page-most E s t p, times-cons p 0 (met s))
