-- What holds of every element of a list, and of every two, as data that can be taken apart; and the test that says it. Each law goes
-- through the list as the data do.
use mathlib.Core.Path.{◌≡◌, refl, sym, subst}
use mathlib.Core.Logic.{◌↔◌}
use mathlib.Core.Bool.{Bool, true, ◌&&◌, and-eq-true_iff}
use mathlib.Core.List.{List, [], ◌∷◌, ◌++◌, map, Memᴰ}
use Prim.Native.Nat.{ℕ, zero, suc, ◌+◌, ◌≤◌, ◌<◌}
use native.Mathlib.Omega.{arith}
use lib.Dec.{eqb}
use borrow.Author.Tests.{eqb-true, eqb-false}
use Rattle.model.specs.Lists.{gather, every, from}
use Rattle.model.proofs.Tests.{cases, and-true, and_swap}

-- Every element -----------------------------------------------------------------------------------------------------------

pub data All {A : Type 0} (P : A → Type 0) : List A → Type 0 where
  nil : All P []
  cons : {x : A} {xs : List A} → P x → All P xs → All P (x ∷ xs)

module _ {A : Type 0} {P : A → Type 0} where
  pub all_cons : {x : A} {xs : List A} → All P (x ∷ xs) → P x × All P xs
  all_cons (cons p ps) = (p, ps)

  pub all-each : ((x : A) → P x) → (xs : List A) → All P xs
  all-each f [] = nil
  all-each f (x ∷ xs) = cons (f x) (all-each f xs)

  pub all_append : {xs ys : List A} → All P xs → All P ys → All P (xs ++ ys)
  all_append nil qs = qs
  all_append (cons p ps) qs = cons p (all_append ps qs)

  pub all-parts : (xs : List A) {ys : List A} → All P (xs ++ ys) → All P xs × All P ys
  all-parts [] ps = (nil, ps)
  all-parts (x ∷ xs) (cons p ps) = let r = all-parts xs ps in (cons p r.0, r.1)

  pub all_both : {Q : A → Type 0} {xs : List A} → All P xs → All Q xs → All (λ x. P x × Q x) xs
  all_both nil nil = nil
  all_both (cons p ps) (cons q qs) = cons (p, q) (all_both ps qs)

  pub all_of : {Q : A → Type 0} → ((x : A) → P x → Q x) → {xs : List A} → All P xs → All Q xs
  all_of f nil = nil
  all_of f (cons {x} p ps) = cons (f x p) (all_of f ps)

  pub all-member : {x : A} {xs : List A} → All P xs → Memᴰ x xs → P x
  all-member nil m = elim m [ ]
  all-member (cons p ps) (Memᴰ.head e) = subst P (sym e) p
  all-member (cons p ps) (Memᴰ.tail i) = all-member ps i

module _ {A B : Type 0} {P : B → Type 0} where
  pub all_map : (f : A → B) → ((x : A) → P (f x)) → (xs : List A) → All P (map f xs)
  all_map f g [] = nil
  all_map f g (x ∷ xs) = cons (g x) (all_map f g xs)

  pub all-gather : (f : A → List B) → ((x : A) → All P (f x)) → (xs : List A) → All P (gather f xs)
  unfolding gather
  all-gather f g [] = nil
  all-gather f g (x ∷ xs) = all_append (g x) (all-gather f g xs)

pub all_of_map : {A B : Type 0} (P : B → Type 0) (f : A → B) (xs : List A) → All P (map f xs) → All (λ x. P (f x)) xs
all_of_map P f [] nil = nil
all_of_map P f (x ∷ xs) (cons p ps) = cons p (all_of_map P f xs ps)

-- The test ----------------------------------------------------------------------------------------------------------------

module _ {A : Type 0} (f : A → Bool) where
  pub every→all : (xs : List A) → every f xs ≡ true → All (λ x. f x ≡ true) xs
  unfolding every
  every→all [] e = nil
  every→all (x ∷ xs) e = let k = simp and-eq-true_iff at e in cons k.0 (every→all xs k.1)

  pub all→every : {xs : List A} → All (λ x. f x ≡ true) xs → every f xs ≡ true
  unfolding every
  all→every nil = refl
  all→every (cons {x} p ps) = and-true (f x) _ p (all→every ps)

  pub every_iff : (P : A → Type 0) → ((x : A) → (f x ≡ true) ↔ P x) → (xs : List A) → (every f xs ≡ true) ↔ All P xs
  every_iff P q xs = (λ e. all_of (λ x. (q x).0) (every→all xs e), λ a. all→every (all_of (λ x. (q x).1) a))

pub every-and : {A : Type 0} (f g : A → Bool) (xs : List A) → every (λ x. f x && g x) xs ≡ (every f xs && every g xs)
unfolding every
every-and f g [] = refl
every-and f g (x ∷ xs) = rw (every-and f g xs) (and_swap (f x) (g x) (every f xs) (every g xs))

-- Every number of a row -----------------------------------------------------------------------------------------------------

pub all_from : {P : ℕ → Type 0} (i k : ℕ) → ((p : ℕ) → i ≤ p → p < i + k → P p) → All P (from i k)
unfolding from
all_from i zero f = nil
all_from i (suc k) f = cons (f i (omega arith) (omega arith)) (all_from (suc i) k (λ p g h. f p (omega arith) (omega arith)))

pub from_all : (P : ℕ → Type 0) (i k p : ℕ) → All P (from i k) → i ≤ p → p < i + k → P p
unfolding from
from_all P i zero p a g h = absurd (omega arith)
from_all P i (suc k) p (cons x a) g h =
    cases (eqb p i) (λ t. rw (eqb-true p i t) x) (λ t. from_all P (suc i) k p a (omega (arith, eqb-false p i t)) (omega arith))

-- Every two ---------------------------------------------------------------------------------------------------------------

-- a relation between every element and all those after it
pub data Pairwise {A : Type 0} (R : A → A → Type 0) : List A → Type 0 where
  lone : Pairwise R []
  joint : {x : A} {xs : List A} → All (R x) xs → Pairwise R xs → Pairwise R (x ∷ xs)
