-- What `once_each` says: as many numbers as there are from 1 to n − 1, and each of those once; so there are no others.
use mathlib.Core.Path.{◌≡◌, sym, ◌∙◌}
use mathlib.Core.Logic.{◌↔◌}
use mathlib.Core.Bool.{true, and-eq-true_iff}
use mathlib.Core.List.{List}
use Prim.Native.Nat.{ℕ, ◌-◌, ◌≤◌, ◌<◌}
use native.Mathlib.Omega.{arith}
use lib.Dec.{eqb}
use lib.ListN.{length}
use Rattle.model.specs.Lists.{total, from, times}
use Rattle.model.specs.Accept.{once_each}
use Rattle.model.proofs.Tests.{eqb_iff}
use Rattle.model.proofs.Each.{All, all_of, every_iff, all_from, from_all}
use Rattle.model.proofs.Lists.{length-total, length_from}
use Rattle.model.proofs.Sums.{total_ext, total-full, times_swap, times_none, times-from-most, from-times}

-- "pages 1 to n−1 are each met exactly once", and no other
pub record Once (n : ℕ) (ps : List ℕ) : Type 0 where
  pub size : length ps ≡ n - 1
  pub each : (p : ℕ) → 1 ≤ p → p < n → times p ps ≡ 1
  pub within : All (λ p. (1 ≤ p) × (p < n)) ps

-- counted by number and by place they are as many
once-within : (n : ℕ) (ps : List ℕ) → length ps ≡ n - 1 → All (λ p. times p ps ≡ 1) (from 1 (n - 1)) → All (λ p. (1 ≤ p) × (p < n)) ps
once-within n ps e a =
    let row = from 1 (n - 1) in
    let sum : total (λ q. times q row) ps ≡ length ps =
    sym (times_swap row ps) ∙ (total_ext (λ p. times p ps) (λ p. 1) a ∙ (sym (length-total row) ∙ (length_from 1 (n - 1) ∙ sym e))) in
    all_of (λ q f. let r = from-times q 1 (n - 1) f in omega arith) (total-full (λ q. times q row) (λ q. times-from-most q 1 (n - 1)) ps sum)

pub once_iff : (n : ℕ) (ps : List ℕ) → (once_each n ps ≡ true) ↔ Once n ps
unfolding once_each
once_iff n ps =
    let count = eqb_iff (length ps) (n - 1) in
    let row = every_iff (λ p. eqb (times p ps) 1) (λ p. times p ps ≡ 1) (λ p. eqb_iff (times p ps) 1) (from 1 (n - 1)) in (
      λ e. let q = simp and-eq-true_iff at e in
          let all = row.0 q.1 in
          record {
            size = count.0 q.0;
            each = λ p g h. from_all (λ p. times p ps ≡ 1) 1 (n - 1) p all g (omega arith);
            within = once-within n ps (count.0 q.0) all;
          },
      λ o. simp and-eq-true_iff (count.1 o.size, row.1 (all_from 1 (n - 1) (λ p g h. o.each p g (omega arith)))),
    )

-- neither 0 nor a number from n on is among them
pub once_zero : {n : ℕ} {ps : List ℕ} → Once n ps → times 0 ps ≡ 0
once_zero o = times_none 0 (all_of (λ p w e. omega arith) o.within)

pub once-above : {n : ℕ} {ps : List ℕ} (p : ℕ) → n ≤ p → Once n ps → times p ps ≡ 0
once-above p h o = times_none p (all_of (λ q w e. omega arith) o.within)
