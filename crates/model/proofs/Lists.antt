-- Laws of the list functions: each goes over an append as it should, and over a map; and by its elements, or index by index.
use mathlib.Core.Path.{◌≡◌, refl, sym, ap, ◌∙◌}
use mathlib.Core.Bool.{Bool, true, and-eq-true_iff, false≢true}
use mathlib.Core.List.{List, [], ◌∷◌, ◌++◌, map, tail, append_assoc}
use Prim.Native.Nat.{ℕ, zero, suc, ◌+◌, ◌≤◌, ◌<◌}
use native.Mathlib.Nat.{zero-add, add-zero, add_assoc}
use native.Mathlib.Omega.{arith}
use lib.ListN.{length, get_or, drop, length-append, length-replicate}
use lib.Dec.{eqb}
use borrow.Author.Tests.{eqb-true, eq-eqb}
use Rattle.octets.specs.Choice.{choose}
use Rattle.octets.specs.Runs.{zeros}
use Rattle.model.specs.Lists.{gather, every, total, from, times, same, pad}
use Rattle.model.proofs.Each.{All, nil, cons}

module _ {A B : Type 0} where
  pub map-append : (f : A → B) (xs ys : List A) → map f (xs ++ ys) ≡ map f xs ++ map f ys
  map-append f [] ys = refl
  map-append f (x ∷ xs) ys = ap {B = List _} (λ l. f x ∷ l) (map-append f xs ys)

  pub gather_append : (f : A → List B) (xs ys : List A) → gather f (xs ++ ys) ≡ gather f xs ++ gather f ys
  unfolding gather
  gather_append f [] ys = refl
  gather_append f (x ∷ xs) ys = rw (gather_append f xs ys, append_assoc)

pub map-gather : {A B C : Type 0} (f : B → C) (g : A → List B) (xs : List A) → map f (gather g xs) ≡ gather (λ x. map f (g x)) xs
unfolding gather
map-gather f g [] = refl
map-gather f g (x ∷ xs) = map-append f (g x) (gather g xs) ∙ rw (map-gather f g xs)

pub gather_ext : {A B : Type 0} (f g : A → List B) {xs : List A} → All (λ x. f x ≡ g x) xs → gather f xs ≡ gather g xs
unfolding gather
gather_ext f g nil = refl
gather_ext f g (cons e es) = rw (e, gather_ext f g es)

-- numbers from i + 1 on are those from i on, each one more
pub gather_suc : {B : Type 0} (f : ℕ → List B) (i k : ℕ) → gather f (from (suc i) k) ≡ gather (λ p. f (suc p)) (from i k)
unfolding gather from
gather_suc f i zero = refl
gather_suc f i (suc k) = rw (gather_suc f (suc i) k)

module _ {A : Type 0} where
  pub total-nil : (w : A → ℕ) → total w [] ≡ 0
  unfolding total
  total-nil w = refl

  pub total-cons : (w : A → ℕ) (x : A) (xs : List A) → total w (x ∷ xs) ≡ w x + total w xs
  unfolding total
  total-cons w x xs = refl

  pub total-append : (w : A → ℕ) (xs ys : List A) → total w (xs ++ ys) ≡ total w xs + total w ys
  unfolding total
  total-append w [] ys = sym (zero-add _)
  total-append w (x ∷ xs) ys = rw (total-append w xs ys) (sym (add_assoc (w x) (total w xs) (total w ys)))

  pub length-total : (xs : List A) → length xs ≡ total (λ x. 1) xs
  unfolding total
  length-total [] = refl
  length-total (x ∷ xs) = omega (arith, length-total xs)

  pub every_append : (f : A → Bool) (xs ys : List A) → every f (xs ++ ys) ≡ true → (every f xs ≡ true) × (every f ys ≡ true)
  unfolding every
  every_append f [] ys t = (refl, t)
  every_append f (x ∷ xs) ys t =
      let k = simp and-eq-true_iff at t in
      let r = every_append f xs ys k.1 in
      (simp and-eq-true_iff (k.0, r.0), r.1)

  pub every-same : (f g : A → Bool) → ((x : A) → f x ≡ g x) → (xs : List A) → every f xs ≡ every g xs
  unfolding every
  every-same f g e [] = refl
  every-same f g e (x ∷ xs) = rw (e x, every-same f g e xs)

pub total-map : {A B : Type 0} (w : B → ℕ) (f : A → B) (xs : List A) → total w (map f xs) ≡ total (λ x. w (f x)) xs
unfolding total
total-map w f [] = refl
total-map w f (x ∷ xs) = ap (λ (n : ℕ). w (f x) + n) (total-map w f xs)

-- how often a number stands in a list, as a sum
pub times-total : (p : ℕ) (ps : List ℕ) → times p ps ≡ total (λ q. choose (eqb p q) 1 0) ps
unfolding times total
times-total p [] = refl
times-total p (q ∷ ps) = ap (λ (n : ℕ). choose (eqb p q) 1 0 + n) (times-total p ps)

pub length_from : (i n : ℕ) → length (from i n) ≡ n
unfolding from
length_from i zero = refl
length_from i (suc n) = ap suc (length_from (suc i) n)

pub length-pad : (L : ℕ) (x : List ℕ) → length x ≤ L → length (pad L x) ≡ L
unfolding pad zeros
length-pad L x h = simp (length-append, length-replicate) (omega arith)

-- All but the first -------------------------------------------------------------------------------------------------------

module _ {A : Type 0} where
  pub length-tail : (xs : List A) → length xs ≤ suc (length (tail xs))
  length-tail [] = omega arith
  length-tail (x ∷ xs) = omega arith

  pub drop-tail : (n : ℕ) (xs : List A) → drop n (tail xs) ≡ drop (suc n) xs
  drop-tail zero [] = refl
  drop-tail (suc n) [] = refl
  drop-tail n (x ∷ xs) = refl

-- Index by index ----------------------------------------------------------------------------------------------------------
-- If f gives the elements from index i on, then the list is f of those indices.

pub data Reads {A : Type 0} (f : ℕ → A) : ℕ → List A → Type 0 where
  none : {i : ℕ} → Reads f i []
  one : {i : ℕ} {x : A} {xs : List A} → f i ≡ x → Reads f (suc i) xs → Reads f i (x ∷ xs)

pub map-from : {A : Type 0} {f : ℕ → A} {i : ℕ} {xs : List A} → Reads f i xs → map f (from i (length xs)) ≡ xs
unfolding from
map-from none = refl
map-from (one e r) = rw (e, map-from r)

pub get_or-map_from : {A : Type 0} (f : ℕ → A) (d : A) (i k p : ℕ) → p < k → get_or (map f (from i k)) p d ≡ f (i + p)
unfolding from
get_or-map_from f d i zero p h = absurd (omega arith)
get_or-map_from f d i (suc k) zero h = rw add-zero
get_or-map_from f d i (suc k) (suc p) h = let e : suc i + p ≡ i + suc p = omega arith in get_or-map_from f d (suc i) k p (omega arith) ∙ rw e

-- The same bytes ----------------------------------------------------------------------------------------------------------
-- Two runs of bytes that test the same are one.

pub same_refl : (l : List ℕ) → same l l ≡ true
unfolding same
same_refl [] = refl
same_refl (x ∷ l) = rw (eq-eqb x x refl, same_refl l)

pub same_eq : (l m : List ℕ) → same l m ≡ true → l ≡ m
unfolding same
same_eq [] [] t = refl
same_eq [] (y ∷ m) t = absurd (false≢true t)
same_eq (x ∷ l) [] t = absurd (false≢true t)
same_eq (x ∷ l) (y ∷ m) t = let k = simp and-eq-true_iff at t in rw (eqb-true x y k.0, same_eq l m k.1)
