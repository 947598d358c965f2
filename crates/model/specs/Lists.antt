-- Lists, as the other files use them. Nothing of the store.
use Rattle.std.specs.Prelude.{Bool, true, false, ◌&&◌, List, [], ◌∷◌, ◌++◌, ℕ, zero, suc, ◌+◌, ◌-◌, length, eqb}
use Rattle.octets.specs.Choice.{choose}
use Rattle.octets.specs.Runs.{zeros}

module _ {A B : Type 0} where
  -- f of each element, one after another
  unfoldable pub gather : (A → List B) → List A → List B
  gather f [] = []
  gather f (x ∷ xs) = f x ++ gather f xs

module _ {A : Type 0} where
  -- a test at every element
  unfoldable pub every : (A → Bool) → List A → Bool
  every f [] = true
  every f (x ∷ xs) = f x && every f xs

  -- the sum of f over the elements
  unfoldable pub total : (A → ℕ) → List A → ℕ
  total f [] = 0
  total f (x ∷ xs) = f x + total f xs

  unfoldable pub head_or : A → List A → A
  head_or d [] = d
  head_or d (x ∷ xs) = x

-- i, i + 1, .. : n numbers
unfoldable pub from : ℕ → ℕ → List ℕ
from i zero = []
from i (suc n) = i ∷ from (suc i) n

-- how often a number stands in a list
unfoldable pub times : ℕ → List ℕ → ℕ
times x [] = 0
times x (y ∷ ys) = choose (eqb x y) 1 0 + times x ys

unfoldable pub same : List ℕ → List ℕ → Bool
same [] [] = true
same [] (y ∷ ys) = false
same (x ∷ xs) [] = false
same (x ∷ xs) (y ∷ ys) = eqb x y && same xs ys

-- the bytes, filled up with zeros to a length
unfoldable pub pad : ℕ → List ℕ → List ℕ
pad n bytes = bytes ++ zeros (n - length bytes)
