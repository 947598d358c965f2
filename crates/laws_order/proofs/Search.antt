-- A search by keys passes what is below the key and stops before what is above it; the searches of the definitions are this one.
use mathlib.Core.Path.{◌≡◌, refl, sym, ◌∙◌}
use mathlib.Core.List.{List, [], ◌∷◌, ◌++◌, map}
use mathlib.Core.Option
use mathlib.Core.Option.{none, some}
use Prim.Native.Nat.{ℕ}
use Rattle.octets.specs.Keys.{compare_keys, three}
use Rattle.octets.proofs.Order.{◌≺◌, order_lt, order_gt}
use Rattle.model.specs.Types.{Cell, Entry}
use Rattle.model.specs.Map.{lookup}
use Rattle.model.specs.InLeaf.{found}
use Rattle.model.specs.Calls.{Standing, standing_of}
use Rattle.model.proofs.Each.{All, cons}
use Rattle.laws_order.proofs.Sundry.{three-at}
use Rattle.laws_order.specs.Finding.{pick, first_found}

-- The search ------------------------------------------------------------------------------------------------------------

module _ {A : Type 0} (key : A → List ℕ) (k : List ℕ) where
  pick-right : (xs ys : List A) → All (λ x. key x ≺ k) xs → pick key k (xs ++ ys) ≡ pick key k ys
  unfolding pick three
  pick-right [] ys b = refl
  pick-right (x ∷ xs) ys (cons u b) = rw (order_gt u) (pick-right xs ys b)

  pick-short : (zs : List A) → All (λ z. k ≺ key z) zs → pick key k zs ≡ none
  unfolding pick three
  pick-short [] a = refl
  pick-short (z ∷ zs) (cons u a) = rw (order_lt u)

  pick-left : (ys zs : List A) → All (λ z. k ≺ key z) zs → pick key k (ys ++ zs) ≡ pick key k ys
  unfolding pick
  pick-left [] zs a = pick-short zs a
  pick-left (y ∷ ys) zs a = rw (pick-left ys zs a)

  pub pick-around : (xs ys zs : List A) → All (λ x. key x ≺ k) xs → All (λ z. k ≺ key z) zs → pick key k (xs ++ (ys ++ zs)) ≡ pick key k ys
  pick-around xs ys zs b a = pick-right xs (ys ++ zs) b ∙ pick-left ys zs a

pub pick-map : {A B : Type 0} (key : B → List ℕ) (f : A → B) (k : List ℕ) (xs : List A) → pick key k (map f xs) ≡ Option.map f (pick (λ x. key (f x)) k xs)
unfolding pick
pick-map key f k [] = refl
pick-map key f k (x ∷ xs) = rw (pick-map key f k xs) (sym (three-at (Option.map f) (compare_keys k (key (f x))) none (some x) (pick (λ y. key (f y)) k xs)))

-- Each search of the definitions is this one ----------------------------------------------------------------------------

pub lookup-pick : (k : List ℕ) (m : List Entry) → lookup k m ≡ Option.map (λ e. e.value) (pick (λ e. e.key) k m)
unfolding lookup pick
lookup-pick k [] = refl
lookup-pick k (x ∷ xs) = rw (lookup-pick k xs) (sym (three-at (Option.map (λ (e : Entry). e.value)) (compare_keys k x.key) none (some x) (pick (λ e. e.key) k xs)))

pub standing-pick : (k : List ℕ) (xs : List Standing) → standing_of k xs ≡ pick (λ x. x.cell.key) k xs
unfolding standing_of pick
standing-pick k [] = refl
standing-pick k (x ∷ xs) = rw (standing-pick k xs)

pub found-pick : (k : List ℕ) (cs : List Cell) → first_found (found k cs) ≡ pick (λ c. c.key) k cs
unfolding found pick first_found
found-pick k [] = refl
found-pick k (c ∷ cs) = three-at first_found (compare_keys k c.key) [] (c ∷ []) (found k cs) ∙ rw (found-pick k cs)
