-- The split rule: the left page stops at the first cell that reaches half, so it has at least half and at most a cell more, and the right page the rest.
use mathlib.Core.Path.{◌≡◌, sym, ◌∙◌}
use mathlib.Core.List.{List, [], ◌∷◌}
use Prim.Native.Nat.{ℕ, ◌+◌, ◌*◌, ◌≤◌, ◌<◌}
use native.Mathlib.Omega.{arith}
use lib.ListN.{take, drop, take-append-drop}
use Rattle.octets.proofs.Choice.{either_by}
use Rattle.model.specs.Types.{Cell}
use Rattle.model.specs.Sizes.{key_most, inline_most, leaf_least, leaf_most, cost, costs}
use Rattle.model.specs.InLeaf.{kept, half}
use Rattle.model.proofs.Tests.{leb_iff, leb-not}
use Rattle.model.proofs.Each.{All, nil, cons}
use Rattle.laws_size.proofs.Cells.{costs-nil, costs-cons, costs-append, cell_most}

-- ---- over any total
-- T is the total, s what was passed before, m the most that a cell costs.

kept-enough : (T s : ℕ) (cs : List Cell) → T ≤ 2 * (s + costs cs) → T ≤ 2 * (s + costs (take (kept T s cs) cs))
unfolding kept
kept-enough T s [] h = h
kept-enough T s (c ∷ cs) h =
    let rest = take (kept T (s + cost c) cs) cs in
    either_by (λ (i : ℕ). T ≤ 2 * (s + costs (take i (c ∷ cs)))) _ _ _
    (λ e. omega (arith, (leb_iff T (2 * s)).0 e))
    (λ e. omega (arith, costs-cons c cs, costs-cons c rest, kept-enough T (s + cost c) cs (omega (arith, costs-cons c cs))))

kept-tight : (T m s : ℕ) {cs : List Cell} → All (λ c. cost c ≤ m) cs → 2 * s < T + 2 * m → 2 * (s + costs (take (kept T s cs) cs)) < T + 2 * m
unfolding kept
kept-tight T m s nil h = omega (arith, costs-nil)
kept-tight T m s (cons {x = c} {xs = cs} u a) h =
    let rest = take (kept T (s + cost c) cs) cs in
    either_by (λ (i : ℕ). 2 * (s + costs (take i (c ∷ cs))) < T + 2 * m) _ _ _
    (λ e. omega (arith, costs-nil))
    (λ e. omega (arith, costs-cons c rest, kept-tight T m (s + cost c) a (omega (arith, leb-not T (2 * s) e))))

-- ---- over any capacity
-- Cells that pass a page's capacity, by less than a page must have, make two pages that are full enough and not too full.

pub record Halves (L left right : ℕ) : Type 0 where
  pub left-enough : leaf_least ≤ left
  pub left-most : left ≤ leaf_most L
  pub right-enough : leaf_least ≤ right
  pub right-most : right ≤ leaf_most L

pub halves : (L : ℕ) (cs : List Cell) → 508 ≤ L → All (λ c. cost c ≤ cell_most) cs → leaf_most L < costs cs → costs cs < leaf_most L + leaf_least
    → Halves L (costs (take (half cs) cs)) (costs (drop (half cs) cs))
unfolding half leaf_most leaf_least cell_most key_most inline_most
halves L cs room a over few =
    let left = take (half cs) cs in
    let right = drop (half cs) cs in
    let whole : costs left + costs right ≡ costs cs = sym (costs-append left right) ∙ rw take-append-drop in
    let enough : costs cs ≤ 2 * (0 + costs left) = kept-enough (costs cs) 0 cs (omega arith) in
    let tight : 2 * (0 + costs left) < costs cs + 2 * cell_most = kept-tight (costs cs) cell_most 0 a (omega arith) in
    record { left-enough = omega arith; left-most = omega arith; right-enough = omega arith; right-most = omega arith }
