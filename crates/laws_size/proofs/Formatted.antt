-- A fresh store is full and meets each page once: its root is an empty leaf, and page 1 and the free pages are a row of numbers.
use mathlib.Core.Path.{◌≡◌, ◌∙◌}
use mathlib.Core.Bool.{true}
use Prim.Native.Nat.{ℕ, suc, ◌+◌, ◌-◌, ◌≤◌}
use native.Mathlib.Omega.{arith}
use Rattle.model.specs.Lists.{total, from}
use Rattle.model.specs.Types.{Cell, met}
use Rattle.model.specs.Sizes.{leaf_most}
use Rattle.model.specs.Accept.{once_each}
use Rattle.model.specs.Change.{formatted}
use Rattle.model.proofs.Each.{nil, lone, all_from}
use Rattle.model.proofs.Lists.{total-nil, total-cons, length_from}
use Rattle.model.proofs.Sums.{times-from}
use Rattle.model.proofs.OnceEach.{once_iff}
use Rattle.laws_size.proofs.Full.{FullStore}
use Rattle.laws_size.proofs.Cells.{costs-nil}
use Rattle.laws_size.proofs.Weights.{chains, weight, whole}
use Rattle.laws_size.proofs.Once.{once-same, met-weight}

pub formatted-full : (L n : ℕ) → 12 ≤ L → FullStore L (formatted L n)
unfolding formatted leaf_most
formatted-full L n long =
    record {
      enough = omega arith;
      most = omega (arith, costs-nil);
      each = nil;
      placed = record { low = omega arith; high = omega arith; inside = nil; apart = lone };
    }

-- 1 to n − 1 in a row
row-once : (n : ℕ) → once_each n (from 1 (n - 1)) ≡ true
row-once n =
    (once_iff n (from 1 (n - 1))).1
    (record {
      size = length_from 1 (n - 1);
      each = λ p g h. times-from p 1 (n - 1) g (omega arith);
      within = all_from 1 (n - 1) (λ p g h. (g, omega arith));
    })

formatted-row : (L n : ℕ) → 2 ≤ n → (w : ℕ → ℕ) → total w (met (formatted L n)) ≡ total w (from 1 (n - 1))
formatted-row L n h w =
    let row : total w (from 1 (n - 1)) ≡ w 1 + total w (from 2 (n - 2)) = rw count (unfold from in total-cons w 1 (from 2 (n - 2))) in
    omega (arith, met-weight w (formatted L n), fresh)
  where
    count : n - 1 ≡ suc (n - 2)
    count = omega arith

    fresh : whole w (formatted L n) ≡ w 1 + total w (from 2 (n - 2))
    fresh = unfold formatted whole weight chains in omega (arith, total-nil (λ (c : Cell). total w c.chain))

pub formatted-once : (L n : ℕ) → 2 ≤ n → once_each n (met (formatted L n)) ≡ true
formatted-once L n h = once-same n (met (formatted L n)) (from 1 (n - 1)) (formatted-row L n h) ∙ row-once n
