-- Sums over a list, and how often a number stands in one, which is such a sum. Each law by one induction, or from the sums.
use mathlib.Core.Path.{◌≡◌, refl, sym, ◌∙◌}
use mathlib.Core.List.{List, [], ◌∷◌, ◌++◌, map, tail, reverse_aux}
use Prim.Native.Nat.{ℕ, zero, suc, ◌+◌, ◌≤◌, ◌<◌}
use native.Mathlib.Nat.{zero-add}
use native.Mathlib.Omega.{arith}
use lib.ListN.{length}
use lib.Dec.{leb, eqb}
use borrow.Author.Tests.{leb-true, leb-false, eqb-true, eqb-false, eq-eqb, ne_eqb}
use Rattle.octets.specs.Choice.{choose}
use Rattle.octets.proofs.Choice.{choose-true, choose-false}
use Rattle.model.specs.Lists.{gather, total, head_or, from, times}
use Rattle.model.proofs.Tests.{cases}
use Rattle.model.proofs.Each.{All, nil, cons, all-each, all_both, all_of, all_of_map}
use Rattle.model.proofs.Lists.{total-append, times-total}

-- Sums --------------------------------------------------------------------------------------------------------------------
-- Two sums can be taken in either order, and a sum of at most 1 each that is as great as it can be is 1 each.

module _ {A : Type 0} where
  pub total-add : (v w : A → ℕ) (xs : List A) → total (λ x. v x + w x) xs ≡ total v xs + total w xs
  unfolding total
  total-add v w [] = refl
  total-add v w (x ∷ xs) = omega (arith, total-add v w xs)

  pub total_zero : (xs : List A) → total (λ x. 0) xs ≡ 0
  unfolding total
  total_zero [] = refl
  total_zero (x ∷ xs) = omega (arith, total_zero xs)

  pub total_ext : (v w : A → ℕ) {xs : List A} → All (λ x. v x ≡ w x) xs → total v xs ≡ total w xs
  unfolding total
  total_ext v w nil = refl
  total_ext v w (cons e es) = rw (e, total_ext v w es)

  pub total-none : (w : A → ℕ) {xs : List A} → All (λ x. w x ≡ 0) xs → total w xs ≡ 0
  total-none w {xs} es = total_ext w (λ x. 0) es ∙ total_zero xs

  pub total-most : (w : A → ℕ) → ((x : A) → w x ≤ 1) → (xs : List A) → total w xs ≤ length xs
  unfolding total
  total-most w h [] = omega arith
  total-most w h (x ∷ xs) = omega (arith, h x, total-most w h xs)

  pub total-full : (w : A → ℕ) → ((x : A) → w x ≤ 1) → (xs : List A) → total w xs ≡ length xs → All (λ x. w x ≡ 1) xs
  unfolding total
  total-full w h [] e = nil
  total-full w h (x ∷ xs) e =
      let a = h x in
      let b = total-most w h xs in
      cons {x = x} (omega arith) (total-full w h xs (omega arith))

  pub total_mono : (v w : A → ℕ) → ((x : A) → v x ≤ w x) → (xs : List A) → total v xs ≤ total w xs
  unfolding total
  total_mono v w h [] = omega arith
  total_mono v w h (x ∷ xs) = omega (arith, h x, total_mono v w h xs)

  pub total-reverse : (w : A → ℕ) (xs ys : List A) → total w (reverse_aux xs ys) ≡ total w xs + total w ys
  unfolding total
  total-reverse w [] ys = sym (zero-add _)
  total-reverse w (x ∷ xs) ys = omega (arith, total-reverse w xs (x ∷ ys))

  -- an element taken off the front
  pub total-front : (w : A → ℕ) (d : A) (xs : List A) → 1 ≤ length xs → total w xs ≡ w (head_or d xs) + total w (tail xs)
  unfolding head_or total
  total-front w d [] h = absurd (omega arith)
  total-front w d (x ∷ xs) h = refl

pub total-gather : {A B : Type 0} (w : B → ℕ) (f : A → List B) (xs : List A) → total w (gather f xs) ≡ total (λ x. total w (f x)) xs
unfolding total gather
total-gather w f [] = refl
total-gather w f (x ∷ xs) = total-append w (f x) (gather f xs) ∙ rw (total-gather w f xs)

pub total_swap : {A B : Type 0} (w : A → B → ℕ) (xs : List A) (ys : List B) → total (λ x. total (w x) ys) xs ≡ total (λ y. total (λ x. w x y) xs) ys
unfolding total
total_swap w [] ys = sym (total_zero ys)
total_swap w (x ∷ xs) ys = rw (total_swap w xs ys) (sym (total-add (w x) (λ y. total (λ x. w x y) xs) ys))

-- How often --------------------------------------------------------------------------------------------------------------

-- 1 where two numbers are one
abbrev pub is : ℕ → ℕ → ℕ
is p q = choose (eqb p q) 1 0

pub is_same : (p q : ℕ) → p ≡ q → is p q ≡ 1
is_same p q e = choose-true _ _ _ (eq-eqb p q e)

pub is-other : (p q : ℕ) → (p ≡ q → ⊥) → is p q ≡ 0
is-other p q n = choose-false _ _ _ (ne_eqb p q n)

pub is_sym : (p q : ℕ) → is p q ≡ is q p
is_sym p q =
    cases (eqb p q) (λ t. let e = eqb-true p q t in is_same p q e ∙ sym (is_same q p (sym e)))
    (λ t. let n = eqb-false p q t in is-other p q n ∙ sym (is-other q p (λ e. n (sym e))))

pub times-nil : (p : ℕ) → times p [] ≡ 0
unfolding times
times-nil p = refl

pub times-cons : (p q : ℕ) (qs : List ℕ) → times p (q ∷ qs) ≡ is p q + times p qs
unfolding times
times-cons p q qs = refl

pub times-append : (p : ℕ) (ps qs : List ℕ) → times p (ps ++ qs) ≡ times p ps + times p qs
times-append p ps qs = times-total p (ps ++ qs) ∙ total-append (is p) ps qs ∙ rw (← times-total p ps, ← times-total p qs)

-- a number that is none of the list's stands in it no time, and the other way round
pub times_none : (p : ℕ) {qs : List ℕ} → All (λ q. p ≡ q → ⊥) qs → times p qs ≡ 0
times_none p nil = times-nil p
times_none p (cons {x = q} {xs = qs} n ns) = omega (arith, times-cons p q qs, is-other p q n, times_none p ns)

pub none-times : (p : ℕ) (qs : List ℕ) → times p qs ≡ 0 → All (λ q. p ≡ q → ⊥) qs
none-times p [] e = nil
none-times p (q ∷ qs) e = cons {x = q} (λ f. omega (arith, times-cons p q qs, is_same p q f)) (none-times p qs (omega (arith, times-cons p q qs)))

-- what two lists have in common can be counted from either
pub times_swap : (ps qs : List ℕ) → total (λ p. times p qs) ps ≡ total (λ q. times q ps) qs
times_swap ps qs =
    simp times-total (total_swap is ps qs ∙ total_ext _ _ (all-each (λ q. total_ext (λ p. is p q) (is q) (all-each (λ p. is_sym p q) ps)) qs))

-- In a row ---------------------------------------------------------------------------------------------------------------
-- Each number of a row stands once in it, and no other.

pub times-from-below : (p i k : ℕ) → p < i → times p (from i k) ≡ 0
unfolding from
times-from-below p i zero h = times-nil p
times-from-below p i (suc k) h = omega (arith, times-cons p i (from (suc i) k), is-other p i (λ e. omega arith), times-from-below p (suc i) k (omega arith))

pub times-from : (p i k : ℕ) → i ≤ p → p < i + k → times p (from i k) ≡ 1
unfolding from
times-from p i zero g h = absurd (omega arith)
times-from p i (suc k) g h =
    cases (eqb p i)
    (λ t. let e = eqb-true p i t in omega (arith, times-cons p i (from (suc i) k), is_same p i e, times-from-below p (suc i) k (omega arith)))
    (λ t. let n = eqb-false p i t in omega (arith, times-cons p i (from (suc i) k), is-other p i n, times-from p (suc i) k (omega arith) (omega arith)))

pub times-from-above : (p i k : ℕ) → i + k ≤ p → times p (from i k) ≡ 0
unfolding from
times-from-above p i zero h = times-nil p
times-from-above p i (suc k) h = omega (arith, times-cons p i (from (suc i) k), is-other p i (λ e. omega arith), times-from-above p (suc i) k (omega arith))

pub times-from-most : (p i k : ℕ) → times p (from i k) ≤ 1
times-from-most p i k =
    cases (leb i p)
    (λ t. cases (leb (i + k) p) (λ u. omega (arith, times-from-above p i k (leb-true _ _ u)))
    (λ u. omega (arith, times-from p i k (leb-true _ _ t) (leb-false _ _ u))))
    (λ t. omega (arith, times-from-below p i k (leb-false _ _ t)))

pub from-times : (p i k : ℕ) → times p (from i k) ≡ 1 → (i ≤ p) × (p < i + k)
from-times p i k e =
    cases (leb i p)
    (λ t. cases (leb (i + k) p) (λ u. absurd (omega (arith, times-from-above p i k (leb-true _ _ u))))
    (λ u. (leb-true _ _ t, leb-false _ _ u)))
    (λ t. absurd (omega (arith, times-from-below p i k (leb-false _ _ t))))

-- Looked up --------------------------------------------------------------------------------------------------------------
-- If no two have one number, each is found by its own.

module _ {A B : Type 0} (key : A → ℕ) (val : A → B) (at : ℕ → List A → B) (here : (x : A) (xs : List A) → at (key x) (x ∷ xs) ≡ val x)
    (there : (p : ℕ) (x : A) (xs : List A) → (key x ≡ p → ⊥) → at p (x ∷ xs) ≡ at p xs) where
  pub found-own : (xs : List A) → ((p : ℕ) → times p (map key xs) ≤ 1) → All (λ x. at (key x) xs ≡ val x) xs
  found-own [] u = nil
  found-own (x ∷ xs) u =
      let fewer : (p : ℕ) → times p (map key xs) ≤ 1 = λ p. omega (arith, u p, times-cons p (key x) (map key xs)) in
      let none : times (key x) (map key xs) ≡ 0 = omega (arith, u (key x), times-cons (key x) (key x) (map key xs), is_same (key x) (key x) refl) in
      cons (here x xs) (all_of (λ y k. there (key y) x xs k.0 ∙ k.1)
      (all_both (all_of_map (λ p. key x ≡ p → ⊥) key xs (none-times (key x) (map key xs) none)) (found-own xs fewer)))

-- The same numbers -------------------------------------------------------------------------------------------------------
-- Two lists each of which has every number of the other once have the same sums.

total-at-none : (p y : ℕ) (qs : List ℕ) → times p qs ≡ 0 → total (λ q. choose (eqb p q) y 0) qs ≡ 0
unfolding total
total-at-none p y [] e = refl
total-at-none p y (q ∷ qs) e =
    cases (eqb p q) (λ t. absurd (omega (arith, times-cons p q qs, is_same p q (eqb-true p q t))))
    (λ t. omega (arith, choose-false (eqb p q) y 0 t, total-at-none p y qs (omega (arith, times-cons p q qs))))

total-at-one : (p y : ℕ) (qs : List ℕ) → times p qs ≡ 1 → total (λ q. choose (eqb p q) y 0) qs ≡ y
unfolding total
total-at-one p y [] e = absurd (omega (arith, times-nil p))
total-at-one p y (q ∷ qs) e =
    cases (eqb p q)
    (λ t. omega (arith, choose-true (eqb p q) y 0 t, total-at-none p y qs (omega (arith, times-cons p q qs, is_same p q (eqb-true p q t)))))
    (λ t. omega (arith, choose-false (eqb p q) y 0 t, total-at-one p y qs (omega (arith, times-cons p q qs, is-other p q (eqb-false p q t)))))

choose_turn : (w : ℕ → ℕ) (p q : ℕ) → choose (eqb q p) (w q) 0 ≡ choose (eqb p q) (w p) 0
choose_turn w p q =
    cases (eqb p q) (λ t. let e = eqb-true p q t in rw e)
    (λ t. let n = eqb-false p q t in choose-false _ _ _ (ne_eqb q p (λ e. n (sym e))) ∙ sym (choose-false _ _ _ t))

pub total-numbers : (w : ℕ → ℕ) (ps qs : List ℕ) → All (λ p. times p qs ≡ 1) ps → All (λ q. times q ps ≡ 1) qs → total w ps ≡ total w qs
total-numbers w ps qs a b =
    let e : total w ps ≡ total (λ p. total (λ q. choose (eqb q p) (w q) 0) qs) ps =
    total_ext w _ (all_of (λ p k. sym (total_ext _ _ (all-each (λ q. choose_turn w p q) qs) ∙ total-at-one p (w p) qs k)) a) in
    e ∙ total_swap (λ p q. choose (eqb q p) (w q) 0) ps qs ∙ total_ext _ w (all_of (λ q k. total-at-one q (w q) ps k) b)
