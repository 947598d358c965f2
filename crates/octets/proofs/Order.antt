-- The order of keys: `compare_keys` decides it, and it is strict and total.
use mathlib.Core.Path.{◌≡◌, refl, sym}
use mathlib.Core.Bool.{true, false, true≢false, false≢true}
use mathlib.Core.List.{List, [], ◌∷◌, ◌++◌}
use mathlib.Core.Logic.{◌⊎◌, inl, inr}
use Prim.Native.Nat.{ℕ, ◌<◌}
use native.Mathlib.Nat.{lt_trans}
use native.Mathlib.Omega.{arith}
use borrow.Author.Tests.{ltb-true, ltb-false}
use lib.Dec.{ltb}
use Rattle.octets.specs.Choice.{choose}
use Rattle.std.specs.Ordering.{is_lt}
use Rattle.octets.specs.Keys.{compare_keys, before, three}
use Rattle.std.specs.declared.cmp.Ordering.{Ordering}
use Rattle.std.specs.declared.cmp.Ordering.TheVariants.{Less, Equal, Greater}
use Rattle.octets.proofs.Choice.{either_by}

-- The order -------------------------------------------------------------------------------------------------------------
-- The first difference decides, and a key is before those that it begins.

infix 40 ◌≺◌
pub data ◌≺◌ : List ℕ → List ℕ → Type 0 where
  ends : {y : ℕ} {ys : List ℕ} → [] ≺ (y ∷ ys)
  here : {x y : ℕ} {xs ys : List ℕ} → x < y → (x ∷ xs) ≺ (y ∷ ys)
  there : {x : ℕ} {xs ys : List ℕ} → xs ≺ ys → (x ∷ xs) ≺ (x ∷ ys)

pub ≺_trans : {a b c : List ℕ} → a ≺ b → b ≺ c → a ≺ c
≺_trans ends (here h) = ends
≺_trans ends (there h) = ends
≺_trans (here g) (here h) = here (lt_trans g h)
≺_trans (here g) (there h) = here g
≺_trans (there g) (here h) = here h
≺_trans (there g) (there h) = there (≺_trans g h)

≺_differ : {a b : List ℕ} → a ≺ b → a ≡ b → ⊥
≺_differ ends e = cc
≺_differ (here {x} {y} h) e = let f : x ≡ y = cc in omega arith
≺_differ (there {xs = xs} {ys = ys} h) e = ≺_differ h (let f : xs ≡ ys = cc in f)

pub ≺_irrefl : {a : List ℕ} → a ≺ a → ⊥
≺_irrefl h = ≺_differ h refl

pub ≺_asym : {a b : List ℕ} → a ≺ b → b ≺ a → ⊥
≺_asym g h = ≺_irrefl (≺_trans g h)

pub ≺_longer : (a : List ℕ) (x : ℕ) (s : List ℕ) → a ≺ (a ++ (x ∷ s))
≺_longer [] x s = ends
≺_longer (y ∷ a) x s = there (≺_longer a x s)

pub ≺_empty : (a : List ℕ) → a ≺ [] → ⊥
≺_empty [] p = ≺_irrefl p
≺_empty (x ∷ a) p = ≺_asym p ends

-- What a comparison says ------------------------------------------------------------------------------------------------
-- One of the three, so any two keys are in order, alike, or in order the other way round.

pub data Ordered : List ℕ → List ℕ → Ordering → Type 0 where
  first : {a b : List ℕ} → a ≺ b → Ordered a b Less
  alike : {a : List ℕ} → Ordered a a Equal
  second : {a b : List ℕ} → b ≺ a → Ordered a b Greater

deeper : {x : ℕ} {a b : List ℕ} {o : Ordering} → Ordered a b o → Ordered (x ∷ a) (x ∷ b) o
deeper (first h) = first (there h)
deeper alike = alike
deeper (second h) = second (there h)

headed : (x y : ℕ) (xs ys : List ℕ) → ltb x y ≡ false → Ordered xs ys (compare_keys xs ys)
    → Ordered (x ∷ xs) (y ∷ ys) (choose (ltb y x) Greater (compare_keys xs ys))
headed x y xs ys f r =
    either_by (Ordered (x ∷ xs) (y ∷ ys)) (ltb y x) _ _
    (λ g. second (here (ltb-true y x g)))
    (λ g. let e : x ≡ y = omega (arith, ltb-false x y f, ltb-false y x g) in rw e (deeper r))

pub ordered : (a b : List ℕ) → Ordered a b (compare_keys a b)
unfolding compare_keys
ordered [] [] = alike
ordered [] (y ∷ ys) = first ends
ordered (x ∷ xs) [] = second ends
ordered (x ∷ xs) (y ∷ ys) =
    either_by (Ordered (x ∷ xs) (y ∷ ys)) (ltb x y) _ _
    (λ f. first (here (ltb-true x y f)))
    (λ f. headed x y xs ys f (ordered xs ys))

pub compared : (P : Ordering → Type 0) (a b : List ℕ) → (a ≺ b → P Less) → (a ≡ b → P Equal) → (b ≺ a → P Greater) → P (compare_keys a b)
compared P a b f g h = go (ordered a b) f g h
  where
    go : {a b : List ℕ} {o : Ordering} → Ordered a b o → (a ≺ b → P Less) → (a ≡ b → P Equal) → (b ≺ a → P Greater) → P o
    go (first p) f g h = f p
    go alike f g h = g refl
    go (second p) f g h = h p

pub order_lt : {a b : List ℕ} → a ≺ b → compare_keys a b ≡ Less
order_lt {a} {b} p = compared (λ o. o ≡ Less) a b (λ q. refl) (λ e. absurd (≺_irrefl (rw e at p))) (λ q. absurd (≺_asym p q))

pub order_gt : {a b : List ℕ} → b ≺ a → compare_keys a b ≡ Greater
order_gt {a} {b} p = compared (λ o. o ≡ Greater) a b (λ q. absurd (≺_asym p q)) (λ e. absurd (≺_irrefl (rw e at p))) (λ q. refl)

pub order_same : (a : List ℕ) → compare_keys a a ≡ Equal
order_same a = compared (λ o. o ≡ Equal) a a (λ q. absurd (≺_irrefl q)) (λ e. refl) (λ q. absurd (≺_irrefl q))

-- From the answer -------------------------------------------------------------------------------------------------------
-- Each answer says which of the three it is.

pub less≢equal : Less ≡ Equal → ⊥
less≢equal e = let z : ◌≡◌ {A = ℕ} 0 1 = cc in omega arith

pub less≢greater : Less ≡ Greater → ⊥
less≢greater e = let z : ◌≡◌ {A = ℕ} 0 1 = cc in omega arith

pub equal≢greater : Equal ≡ Greater → ⊥
equal≢greater e = let z : ◌≡◌ {A = ℕ} 0 1 = cc in omega arith

pub less→≺ : (a b : List ℕ) → compare_keys a b ≡ Less → a ≺ b
less→≺ a b = compared (λ o. o ≡ Less → a ≺ b) a b (λ p e. p) (λ q e. absurd (less≢equal (sym e))) (λ p e. absurd (less≢greater (sym e)))

pub order_eq : (a b : List ℕ) → compare_keys a b ≡ Equal → a ≡ b
order_eq a b = compared (λ o. o ≡ Equal → a ≡ b) a b (λ p e. absurd (less≢equal e)) (λ q e. q) (λ p e. absurd (equal≢greater (sym e)))

pub greater→≻ : (a b : List ℕ) → compare_keys a b ≡ Greater → b ≺ a
greater→≻ a b = compared (λ o. o ≡ Greater → b ≺ a) a b (λ p e. absurd (less≢greater e)) (λ q e. absurd (equal≢greater e)) (λ p e. p)

pub less→greater : (a b : List ℕ) → compare_keys a b ≡ Less → compare_keys b a ≡ Greater
less→greater a b e = order_gt (less→≺ a b e)

pub greater→less : (a b : List ℕ) → compare_keys a b ≡ Greater → compare_keys b a ≡ Less
greater→less a b e = order_lt (greater→≻ a b e)

-- The test --------------------------------------------------------------------------------------------------------------
-- `before` is true exactly where the keys are in order.

pub before→≺ : (a b : List ℕ) → before a b ≡ true → a ≺ b
unfolding before
before→≺ a b = compared (λ o. is_lt o ≡ true → a ≺ b) a b (λ p e. p) (λ q e. absurd (false≢true e)) (λ p e. absurd (false≢true e))

pub ≺→before : {a b : List ℕ} → a ≺ b → before a b ≡ true
unfolding before
≺→before p = rw (order_lt p)

pub not_before→ : (a b : List ℕ) → before a b ≡ false → (a ≺ b → ⊥)
not_before→ a b e p = true≢false (rw e at (sym (≺→before p)))

pub not_before← : (a b : List ℕ) → (a ≺ b → ⊥) → before a b ≡ false
unfolding before
not_before← a b n = compared (λ o. is_lt o ≡ false) a b (λ p. absurd (n p)) (λ q. refl) (λ p. refl)

-- Keys that are not in order --------------------------------------------------------------------------------------------
-- A key that is not below another is above all that the other is above.

pub ≺_of_not : {a b c : List ℕ} → a ≺ b → (c ≺ b → ⊥) → a ≺ c
≺_of_not {a} {b} {c} p n = compared (λ o. a ≺ c) b c (λ q. ≺_trans p q) (λ e. rw (← e) p) (λ q. absurd (n q))

pub ≺_not_of : {a b c : List ℕ} → (a ≺ b → ⊥) → c ≺ b → c ≺ a
≺_not_of n p = ≺_of_not p n

pub not_≺ : (a b : List ℕ) → (a ≺ b → ⊥) → (b ≺ a) ⊎ (a ≡ b)
not_≺ a b n = compared (λ o. (b ≺ a) ⊎ (a ≡ b)) a b (λ p. absurd (n p)) (λ e. inr e) (λ p. inl p)

-- Choices by keys -------------------------------------------------------------------------------------------------------
-- What holds of each branch, by how the keys stand, holds of the choice.

pub by_keys : {A : Type 0} (P : A → Type 0) (a b : List ℕ) (x y z : A) → (a ≺ b → P x) → (a ≡ b → P y) → (b ≺ a → P z)
    → P (three (compare_keys a b) x y z)
unfolding three
by_keys P a b x y z f g h = compared (λ o. P (three o x y z)) a b f g h

pub by_before : {A : Type 0} (P : A → Type 0) (a b : List ℕ) (x y : A) → (a ≺ b → P x) → ((a ≺ b → ⊥) → P y) → P (choose (before a b) x y)
by_before P a b x y f g = either_by P (before a b) x y (λ e. f (before→≺ a b e)) (λ e. g (not_before→ a b e))
