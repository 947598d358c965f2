-- The walk goes through the leaves with their chains, so what it sums over one kind of page is the sum over the pages of that kind.
use mathlib.Core.Path.{◌≡◌, refl, sym, ap, ◌∙◌}
use mathlib.Core.Bool.{true}
use mathlib.Core.List.{List, [], map}
use Prim.Native.Nat.{ℕ, zero, suc, ◌+◌, ◌≤◌}
use native.Mathlib.Nat.{zero-add}
use native.Mathlib.Omega.{arith}
use lib.ListN.{length}
use lib.Dec.{eqb}
use Rattle.octets.specs.Choice.{choose}
use Rattle.model.specs.Lists.{gather, total, times}
use Rattle.model.specs.Edition.{Edition}
use Rattle.model.specs.Types.{Leaf, Inner, Tree, Store, Mark, across, leaves, marked, walk, walked}
use Rattle.model.specs.Accept.{valid}
use Rattle.model.specs.Refusals.{roles}
use Rattle.model.proofs.Each.{all-each}
use Rattle.model.proofs.Lists.{total-map, total-nil, total-cons, total-append, length-total}
use Rattle.model.proofs.Sums.{is, is-other, total_ext, total_zero, total-none, total-gather}
use Rattle.laws_image.specs.Marks.{chains_of, chains}
use Rattle.laws_image.proofs.Roles.{roles-walked}

-- ---- sums over the walk
-- Where inner pages do not count, a sum over the walk is one over the leaves.

total-across : {A B : Type 0} (v : B → ℕ) (m : A → List B) (t : Inner A)
    → total v (across m t) ≡ total v (m t.first) + total (λ s. total v (m s.child)) t.rest
unfolding across
total-across v m t = total-append v (m t.first) _ ∙ ap (λ (n : ℕ). total v (m t.first) + n) (total-gather v (λ s. m s.child) t.rest)

-- of a leaf and its chains
abbrev pub in_leaf : (Mark → ℕ) → Leaf → ℕ
in_leaf v l = v (marked 1 l.page) + total (λ p. v (marked 3 p)) (chains_of l)

module _ (v : Mark → ℕ) (none : (p : ℕ) → v (marked 2 p) ≡ 0) where
  total-leaf : (t : Leaf) → total v (walk 0 t) ≡ total (in_leaf v) (leaves 0 t)
  unfolding walk leaves
  total-leaf t =
      omega (
        arith,
        total-cons v (marked 1 t.page) (map (marked 3) (chains_of t)),
        total-map v (marked 3) (chains_of t),
        total-cons (in_leaf v) t [],
        total-nil (in_leaf v),
      )

  total-inner : (h : ℕ) → ((x : Tree h) → total v (walk h x) ≡ total (in_leaf v) (leaves h x)) → (t : Inner (Tree h))
      → total v (walk (suc h) t) ≡ total (in_leaf v) (leaves (suc h) t)
  unfolding walk leaves
  total-inner h f t =
      omega (
        arith,
        total-cons v (marked 2 t.page) (across (walk h) t),
        none t.page,
        total-across v (walk h) t,
        total-across (in_leaf v) (leaves h) t,
        f t.first,
        total_ext (λ s. total v (walk h s.child)) (λ s. total (in_leaf v) (leaves h s.child)) (all-each (λ s. f s.child) t.rest),
      )

  pub total-walk : (h : ℕ) (t : Tree h) → total v (walk h t) ≡ total (in_leaf v) (leaves h t)
  total-walk zero t = total-leaf t
  total-walk (suc h) t = total-inner h (total-walk h) t

total-walked : (v : Mark → ℕ) (s : Store) → total v (walked s) ≡ total v (walk s.depth s.root) + total (λ p. v (marked 4 p)) s.free
unfolding walked
total-walked v s = total-append v (walk s.depth s.root) (map (marked 4) s.free) ∙ rw (total-map v (marked 4) s.free)

-- ---- the overflow pages
-- A sum over the chains is one over the marks of role 3.

module _ (w : ℕ → ℕ) where
  abbrev pub overflow : Mark → ℕ
  overflow m = choose (eqb 3 m.role) (w m.page) 0

  overflow-inner : (p : ℕ) → overflow (marked 2 p) ≡ 0
  unfolding choose marked
  overflow-inner p = refl

  overflow-leaf : (l : Leaf) → in_leaf overflow l ≡ total w (chains_of l)
  unfolding choose marked
  overflow-leaf l = zero-add (total w (chains_of l))

  pub total-chains : (h : ℕ) (t : Tree h) → total w (chains h t) ≡ total overflow (walk h t)
  unfolding chains
  total-chains h t =
      total-gather w chains_of (leaves h t)
      ∙ sym (total-walk overflow overflow-inner h t ∙ total_ext _ _ (all-each overflow-leaf (leaves h t)))

-- ---- check's counts by kind
-- They are the numbers of leaves, of overflow pages and of free pages.

module _ (E : Edition) (s : Store) (t : valid E s ≡ true) where
  abbrev of : ℕ → Mark → ℕ
  of r m = is r m.role

  none-inner : (r : ℕ) → (r ≡ 2 → ⊥) → (p : ℕ) → of r (marked 2 p) ≡ 0
  unfolding marked
  none-inner r n p = is-other r 2 n

  counted : (r : ℕ) → r ≤ 4 → (r ≡ 2 → ⊥)
      → times r (roles s) ≡ total (in_leaf (of r)) (leaves s.depth s.root) + total (λ p. of r (marked 4 p)) s.free
  counted r h n = roles-walked E s t r h ∙ total-walked (of r) s ∙ rw (total-walk (of r) (none-inner r n) s.depth s.root)

  abbrev ls : List Leaf
  ls = leaves s.depth s.root

  pub roles-leaves : times 1 (roles s) ≡ length (leaves s.depth s.root)
  unfolding choose marked
  roles-leaves =
      let e : total (in_leaf (of 1)) ls ≡ length ls =
      total_ext _ (λ l. 1) (all-each (λ l. omega (arith, total_zero (chains_of l))) ls) ∙ sym (length-total ls) in
      omega (arith, counted 1 (omega arith) (λ e. omega arith), total_zero s.free)

  pub roles-chains : times 3 (roles s) ≡ length (chains s.depth s.root)
  unfolding choose marked chains
  roles-chains =
      let e : total (in_leaf (of 3)) ls ≡ total (λ l. total (λ p. 1) (chains_of l)) ls =
      total_ext _ _ (all-each (λ l. zero-add (total (λ p. 1) (chains_of l))) ls) in
      omega (arith, counted 3 (omega arith) (λ e. omega arith), total_zero s.free, length-total (gather chains_of ls), total-gather (λ p. 1) chains_of ls)

  pub roles-free : times 4 (roles s) ≡ length s.free
  unfolding choose marked
  roles-free =
      let e : total (in_leaf (of 4)) ls ≡ 0 = total-none _ (all-each (λ l. omega (arith, total_zero (chains_of l))) ls) in
      omega (arith, counted 4 (omega arith) (λ e. omega arith), length-total s.free)
