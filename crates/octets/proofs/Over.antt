-- The algebra of writing: runs of bytes written over others.
use mathlib.Core.Path.{◌≡◌, refl, sym, ap, ◌∙◌}
use mathlib.Core.List.{List, [], ◌∷◌, ◌++◌, append-nil}
use mathlib.Core.Logic.{◌⊎◌, inl, inr, ⊎_elim}
use Prim.Native.Nat.{ℕ, zero, suc, ◌+◌, ◌≤◌, ◌<◌}
use native.Mathlib.Nat.{add-zero, zero-add}
use native.Mathlib.Omega.{arith}
use lib.ListN.{length, take, drop, get_or, set, length-set, length-replicate, replicate-append-replicate, drop_of_length-le}
use lib.Seq.{sets, sets-eq, set-set, set_comm, set-get_or, set-append_left, get_or-set_same, get_or-set_other}
use Rattle.octets.specs.Runs.{over, zeros}

-- The whole -------------------------------------------------------------------------------------------------------------
-- A write keeps the length, and one of nothing keeps all.

pub length_over : (l : List ℕ) (at : ℕ) (s : List ℕ) → length (over l at s) ≡ length l
unfolding over
length_over [] at s = refl
length_over (x ∷ l) (suc at) s = ap suc (length_over l at s)
length_over (x ∷ l) zero [] = refl
length_over (x ∷ l) zero (y ∷ s) = ap suc (length_over l zero s)

pub over_none : (l : List ℕ) (at : ℕ) → over l at [] ≡ l
unfolding over
over_none [] at = refl
over_none (x ∷ l) (suc at) = ap (λ (m : List ℕ). x ∷ m) (over_none l at)
over_none (x ∷ l) zero = refl

-- a byte, then those behind it
pub over-store : (l : List ℕ) (at x : ℕ) (s : List ℕ) → over l at (x ∷ s) ≡ over (set l at x) (suc at) s
unfolding over
over-store [] at x s = refl
over-store (y ∷ l) (suc at) x s = ap (λ (m : List ℕ). y ∷ m) (over-store l at x s)
over-store (y ∷ l) zero x s = refl

-- A byte ----------------------------------------------------------------------------------------------------------------
-- A byte beside the run is as it was, and a byte within it is the run's.

pub get_or-over_out : (l : List ℕ) (at : ℕ) (s : List ℕ) (i : ℕ) → (i < at) ⊎ (at + length s ≤ i) → get_or (over l at s) i 0 ≡ get_or l i 0
get_or-over_out l at [] i h = rw over_none
get_or-over_out l at (x ∷ s) i h =
    let n : i ≡ at → ⊥ = ⊎_elim (λ p. omega arith) (λ p. omega arith) h in
    rw over-store (get_or-over_out (set l at x) (suc at) s i (⊎_elim (λ p. inl (omega arith)) (λ p. inr (omega arith)) h)
    ∙ get_or-set_other l at i x 0 n)

pub get_or-over_in : (l : List ℕ) (at : ℕ) (s : List ℕ) (i : ℕ) → at + length s ≤ length l → i < length s
    → get_or (over l at s) (at + i) 0 ≡ get_or s i 0
get_or-over_in l at [] i h p = absurd (omega arith)
get_or-over_in l at (x ∷ s) zero h p =
    rw (over-store, add-zero) (get_or-over_out (set l at x) (suc at) s at (inl (omega arith)) ∙ get_or-set_same l at x 0 (omega arith))
get_or-over_in l at (x ∷ s) (suc i) h p =
    let e : at + suc i ≡ suc at + i = omega arith in
    let k : length (set l at x) ≡ length l = length-set l at x in
    rw (over-store, e) (get_or-over_in (set l at x) (suc at) s i (omega arith) (omega arith))

-- A store ---------------------------------------------------------------------------------------------------------------
-- A store beside the run can come before it, and a store within it changes the run.

pub set-over : (l : List ℕ) (at : ℕ) (s : List ℕ) (i x : ℕ) → (i < at) ⊎ (at + length s ≤ i) → set (over l at s) i x ≡ over (set l i x) at s
set-over l at [] i x h = simp over_none
set-over l at (y ∷ s) i x h =
    let n : at ≡ i → ⊥ = ⊎_elim (λ p. omega arith) (λ p. omega arith) h in
    simp over-store (set-over (set l at y) (suc at) s i x (⊎_elim (λ p. inl (omega arith)) (λ p. inr (omega arith)) h)
    ∙ rw (set_comm l at i y x n))

pub set-inside : (l : List ℕ) (at : ℕ) (s : List ℕ) (j y : ℕ) → j < length s → set (over l at s) (at + j) y ≡ over l at (set s j y)
set-inside l at [] j y h = absurd (omega arith)
set-inside l at (x ∷ s) zero y h =
    simp (over-store, add-zero) (set-over (set l at x) (suc at) s at y (inl (omega arith)) ∙ rw (set-set l at x y))
set-inside l at (x ∷ s) (suc j) y h =
    let e : at + suc j ≡ suc at + j = omega arith in
    simp (over-store, e) (set-inside (set l at x) (suc at) s j y (omega arith))

-- Two runs --------------------------------------------------------------------------------------------------------------
-- In the same place the last one stays, apart they go in either order, one within the other changes it, and one behind the other they are one.

pub over-over : (l : List ℕ) (at : ℕ) (s t : List ℕ) → length s ≡ length t → over (over l at s) at t ≡ over l at t
over-over l at [] [] e = simp over_none
over-over l at [] (y ∷ t) e = absurd (omega arith)
over-over l at (x ∷ s) [] e = absurd (omega arith)
over-over l at (x ∷ s) (y ∷ t) e =
    simp over-store (rw (set-over (set l at x) (suc at) s at y (inl (omega arith)), set-set l at x y)
    (over-over (set l at y) (suc at) s t (omega arith)))

pub over-comm : (l : List ℕ) (at : ℕ) (s : List ℕ) (bt : ℕ) (t : List ℕ) → (at + length s ≤ bt) ⊎ (bt + length t ≤ at)
    → over (over l at s) bt t ≡ over (over l bt t) at s
over-comm l at s bt [] h = simp over_none
over-comm l at s bt (y ∷ t) h =
    simp over-store (rw (set-over l at s bt y (⊎_elim (λ p. inr p) (λ p. inl (omega arith)) h))
    (over-comm (set l bt y) at s (suc bt) t (⊎_elim (λ p. inl (omega arith)) (λ p. inr (omega arith)) h)))

pub over-inside : (l : List ℕ) (at : ℕ) (s : List ℕ) (j : ℕ) (t : List ℕ) → j + length t ≤ length s
    → over (over l at s) (at + j) t ≡ over l at (over s j t)
over-inside l at s j [] h = simp over_none
over-inside l at s j (y ∷ t) h =
    let e : suc (at + j) ≡ at + suc j = omega arith in
    let k : length (set s j y) ≡ length s = length-set s j y in
    simp over-store (rw (set-inside l at s j y (omega arith), e) (over-inside l at (set s j y) (suc j) t (omega arith)))

pub over-append : (l : List ℕ) (at : ℕ) (s t : List ℕ) → over l at (s ++ t) ≡ over (over l at s) (at + length s) t
over-append l at [] t = rw (over_none, add-zero)
over-append l at (x ∷ s) t =
    let e : suc at + length s ≡ at + suc (length s) = omega arith in
    simp over-store (over-append (set l at x) (suc at) s t ∙ rw e)

-- a run that stands there already changes nothing
pub over-same : (l : List ℕ) (at : ℕ) (s : List ℕ) → ((i : ℕ) → i < length s → get_or s i 0 ≡ get_or l (at + i) 0) → over l at s ≡ l
over-same l at [] f = over_none l at
over-same l at (x ∷ s) f =
    let z : x ≡ get_or l at 0 = rw add-zero at (f 0 (omega arith)) in
    let e : set l at x ≡ l = rw z (set-get_or l at 0) in
    rw (over-store, e) (over-same l (suc at) s
    (λ i w. let k : at + suc i ≡ suc at + i = omega arith in rw k at (f (suc i) (omega arith))))

-- As lists joined -------------------------------------------------------------------------------------------------------
-- What stands before the run, the run, and what stands behind it.

over_sets : (l : List ℕ) (at : ℕ) (s : List ℕ) → over l at s ≡ sets l at s
over_sets l at [] = over_none l at
over_sets l at (x ∷ s) = over-store l at x s ∙ over_sets (set l at x) (suc at) s

pub over_eq : (l : List ℕ) (at : ℕ) (s : List ℕ) → at + length s ≤ length l → over l at s ≡ take at l ++ s ++ drop (at + length s) l
over_eq l at s h = over_sets l at s ∙ sets-eq s l at h

pub over-front : (l s : List ℕ) → length s ≤ length l → over l 0 s ≡ s ++ drop (length s) l
over-front l s h =
    let e : 0 + length s ≡ length s = omega arith in
    over_eq l 0 s (omega arith) ∙ rw e

pub over-all : (l s : List ℕ) → length s ≡ length l → over l 0 s ≡ s
over-all l s e = over-front l s (omega arith) ∙ rw (drop_of_length-le l {i = length s} (omega arith), append-nil)

-- In lists joined -------------------------------------------------------------------------------------------------------
-- A run within one of them is written there.

pub over_first : (a b : List ℕ) (at : ℕ) (s : List ℕ) → at + length s ≤ length a → over (a ++ b) at s ≡ over a at s ++ b
over_first a b at [] h = simp over_none
over_first a b at (x ∷ s) h =
    let k : length (set a at x) ≡ length a = length-set a at x in
    simp over-store (rw (set-append_left a b at x (omega arith)) (over_first (set a at x) b (suc at) s (omega arith)))

pub over-second : (a b : List ℕ) (at : ℕ) (s : List ℕ) → over (a ++ b) (length a + at) s ≡ a ++ over b at s
unfolding over
over-second [] b at s = rw zero-add
over-second (x ∷ a) b at s =
    let e : suc (length a) + at ≡ suc (length a + at) = omega arith in
    rw e (ap (λ (m : List ℕ). x ∷ m) (over-second a b at s))

pub over-past : (a b s : List ℕ) → over (a ++ b) (length a) s ≡ a ++ over b 0 s
over-past a b s = rw add-zero at (over-second a b 0 s)

-- Zeros -----------------------------------------------------------------------------------------------------------------
-- Every byte of a run of zeros is zero, two such runs are one, and written over zeros they change nothing.

pub length-zeros : (n : ℕ) → length (zeros n) ≡ n
unfolding zeros
length-zeros n = length-replicate n 0

pub get_or-zeros : (n i : ℕ) → get_or (zeros n) i 0 ≡ 0
unfolding zeros
get_or-zeros zero i = refl
get_or-zeros (suc n) zero = refl
get_or-zeros (suc n) (suc i) = get_or-zeros n i

pub zeros-append : (m n : ℕ) → zeros m ++ zeros n ≡ zeros (m + n)
unfolding zeros
zeros-append m n = replicate-append-replicate m n 0

pub over_zeros : (l : List ℕ) (at n : ℕ) → ((i : ℕ) → i < n → get_or l (at + i) 0 ≡ 0) → over l at (zeros n) ≡ l
over_zeros l at n f =
    let k : length (zeros n) ≡ n = length-zeros n in
    over-same l at (zeros n) (λ i w. get_or-zeros n i ∙ sym (f i (omega arith)))
