-- A run of bytes written over others, and a run read. Every write and every read of bytes is said by these.
use Rattle.std.specs.Prelude.{List, [], ◌∷◌, ℕ, zero, suc, take, drop, replicate}

-- the bytes l with those of s in their places from index at on; what would stand past the end is left out
unfoldable pub over : List ℕ → ℕ → List ℕ → List ℕ
over [] at s = []
over (x ∷ l) (suc at) s = x ∷ over l at s
over (x ∷ l) zero [] = x ∷ l
over (x ∷ l) zero (y ∷ s) = y ∷ over l zero s

-- the n bytes from index at on
unfoldable pub part : List ℕ → ℕ → ℕ → List ℕ
part l at n = take n (drop at l)

unfoldable pub zeros : ℕ → List ℕ
zeros n = replicate n 0
