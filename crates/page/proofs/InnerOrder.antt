-- Keys that each stand above the one before, from the empty key on, are those that rise and are not empty.
use mathlib.Core.Path.{◌≡◌, refl}
use mathlib.Core.Bool.{Bool, true, and-eq-true_iff}
use mathlib.Core.List.{List, [], ◌∷◌, map, map-map}
use Prim.Native.Nat.{ℕ, zero, suc, ◌+◌, ◌≤◌, ◌<◌}
use native.Mathlib.Nat.{add-zero, zero-add}
use native.Mathlib.Omega.{arith}
use lib.ListN.{length}
use Rattle.octets.specs.Keys.{compare_keys, before}
use Rattle.octets.proofs.Order.{≺_empty, before→≺}
use Rattle.model.specs.Lists.{every, from}
use Rattle.model.specs.Types.{Sep}
use Rattle.model.specs.Sizes.{key_most}
use Rattle.model.specs.Layouts.{record_of}
use Rattle.model.specs.Accept.{key_fits, rising}
use Rattle.model.proofs.Tests.{and-true, between_iff}
use Rattle.page.specs.Inner.{key_before}
use Rattle.page.proofs.InnerPages.{records}

-- Lists by number -----------------------------------------------------------------------------------------------------------
-- A test at every element, and between neighbours, is a test at every number.

module _ {A : Type 0} (f : A → Bool) (g : ℕ → A) where
  every-at : (i n : ℕ) → every f (map g (from i n)) ≡ true → (k : ℕ) → k < n → f (g (i + k)) ≡ true
  unfolding every from
  every-at i zero t k h = absurd (omega arith)
  every-at i (suc n) t zero h = rw add-zero (simp and-eq-true_iff at t).0
  every-at i (suc n) t (suc k) h =
      let e : i + suc k ≡ suc i + k = omega arith in
      rw e (every-at (suc i) n (simp and-eq-true_iff at t).1 k (omega arith))

  every_of : (i n : ℕ) → ((k : ℕ) → k < n → f (g (i + k)) ≡ true) → every f (map g (from i n)) ≡ true
  unfolding every from
  every_of i zero t = refl
  every_of i (suc n) t =
      and-true _ _ (rw add-zero at (t 0 (omega arith)))
      (every_of (suc i) n (λ k h. let e : suc i + k ≡ i + suc k = omega arith in rw e (t (suc k) (omega arith))))

module _ (g : ℕ → List ℕ) where
  rising-at : (i n : ℕ) → rising (map g (from i n)) ≡ true → (k : ℕ) → suc k < n → before (g (i + k)) (g (suc (i + k))) ≡ true
  unfolding rising from
  rising-at i zero t k h = absurd (omega arith)
  rising-at i (suc zero) t k h = absurd (omega arith)
  rising-at i (suc (suc n)) t zero h = rw add-zero (simp and-eq-true_iff at t).0
  rising-at i (suc (suc n)) t (suc k) h =
      let e : i + suc k ≡ suc i + k = omega arith in
      rw e (rising-at (suc i) (suc n) (simp and-eq-true_iff at t).1 k (omega arith))

  rising-of : (i n : ℕ) → ((k : ℕ) → suc k < n → before (g (i + k)) (g (suc (i + k))) ≡ true) → rising (map g (from i n)) ≡ true
  unfolding rising from
  rising-of i zero t = refl
  rising-of i (suc zero) t = refl
  rising-of i (suc (suc n)) t =
      and-true _ _ (rw add-zero at (t 0 (omega arith)))
      (rising-of (suc i) (suc n) (λ k h. let e : suc i + k ≡ i + suc k = omega arith in rw e (t (suc k) (omega arith))))

-- The empty key -------------------------------------------------------------------------------------------------------------
-- It is below every other, and none is below it.

not-empty : (a k : List ℕ) → before a k ≡ true → 1 ≤ length k
not-empty a [] e = absurd (≺_empty a (before→≺ a [] e))
not-empty a (x ∷ k) e = omega arith

empty-before : (k : List ℕ) → 1 ≤ length k → before [] k ≡ true
unfolding before compare_keys
empty-before [] h = absurd (omega arith)
empty-before (x ∷ k) h = refl

-- Records -------------------------------------------------------------------------------------------------------------------
-- The two tests at each record, and the model's two tests of all.

module _ (p : List ℕ) (c : ℕ) where
  pub keys-fit : ((i : ℕ) → i < c → length (record_of p i).key ≤ 32) → ((i : ℕ) → i < c → before (key_before p i) (record_of p i).key ≡ true)
      → every (λ s. key_fits s.key) (records p 0 c) ≡ true
  unfolding records key_fits key_most
  keys-fit l a =
      every_of (λ (s : Sep ℕ). key_fits s.key) (record_of p) 0 c
      (λ k h. rw zero-add ((between_iff 1 32 _).1 (not-empty _ _ (a k h), l k h)))

  pub fit_least : every (λ s. key_fits s.key) (records p 0 c) ≡ true → (i : ℕ) → i < c → 1 ≤ length (record_of p i).key
  unfolding records key_fits key_most
  fit_least t i h = ((between_iff 1 32 _).0 (rw zero-add at (every-at (λ (s : Sep ℕ). key_fits s.key) (record_of p) 0 c t i h))).0

  pub keys-rise : ((i : ℕ) → i < c → before (key_before p i) (record_of p i).key ≡ true) → rising (map (λ (s : Sep ℕ). s.key) (records p 0 c)) ≡ true
  unfolding records key_before
  keys-rise a = rw map-map (rising-of (λ i. (record_of p i).key) 0 c (λ k h. rw zero-add (a (suc k) h)))

  pub rise-above : every (λ s. key_fits s.key) (records p 0 c) ≡ true → rising (map (λ (s : Sep ℕ). s.key) (records p 0 c)) ≡ true
      → (i : ℕ) → i < c → before (key_before p i) (record_of p i).key ≡ true
  unfolding records key_before
  rise-above t r zero h = empty-before _ (fit_least t 0 h)
  rise-above t r (suc i) h = rw zero-add at (rising-at (λ i. (record_of p i).key) 0 c (rw map-map at r) i h)
