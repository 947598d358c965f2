-- Numbers written to bytes and read from them.
use mathlib.Core.Path.{◌≡◌, sym, ◌∙◌}
use mathlib.Core.List.{List, [], ◌∷◌, ◌++◌}
use mathlib.Core.Logic.{◌⊎◌, inl, inr, ⊎_elim}
use Prim.Native.Nat.{ℕ, zero, suc, ◌+◌, ◌*◌, ◌/◌, ◌%◌, ◌≤◌, ◌<◌}
use native.Mathlib.Nat.{add-zero, add_assoc}
use native.Mathlib.Numerals.{add-one}
use native.Mathlib.Omega.{arith}
use lib.ListN.{length, get_or, get_or-append}
use lib.Seq.{drop-cons, get_or-append-add}
use Rattle.std.specs.Int.{to_le_bytes, w16, w32}
use Rattle.octets.specs.Numbers.{word16, word32, bytes16, bytes32}
use Rattle.octets.specs.Laws.{laws16, laws32}
use Rattle.octets.specs.Runs.{over, part}
use Rattle.octets.proofs.Over.{get_or-over_out, get_or-over_in}
use Rattle.octets.proofs.Part.{part_at, part-add, over-part}

-- Written ---------------------------------------------------------------------------------------------------------------
-- A number has as many bytes as its width, and they are those that the library gives.

pub length-bytes16 : (x : ℕ) → length (bytes16 x) ≡ 2
length-bytes16 = laws16.long

pub length-bytes32 : (x : ℕ) → length (bytes32 x) ≡ 4
length-bytes32 = laws32.long

pub le_bytes16 : (x : ℕ) → x < 65536 → to_le_bytes w16 x ≡ bytes16 x
unfolding bytes16
le_bytes16 x h = let e : x / 256 % 256 ≡ x / 256 = omega arith in rw e

pub le_bytes32 : (x : ℕ) → x < 4294967296 → to_le_bytes w32 x ≡ bytes32 x
unfolding bytes32
le_bytes32 x h = let e : x / 16777216 % 256 ≡ x / 16777216 = omega arith in rw e

-- Read elsewhere --------------------------------------------------------------------------------------------------------
-- A number goes by its bytes alone: apart from a write it is as it was, within a run it is the run's, and in a part or in lists joined it is that of the place.

pub word16_ext : (l m : List ℕ) (i j : ℕ) → ((k : ℕ) → k < 2 → get_or l (i + k) 0 ≡ get_or m (j + k) 0) → word16 l i ≡ word16 m j
unfolding word16
word16_ext l m i j f = rw (simp add-zero at (f 0 (omega arith)), f 1 (omega arith))

pub word32_ext : (l m : List ℕ) (i j : ℕ) → ((k : ℕ) → k < 4 → get_or l (i + k) 0 ≡ get_or m (j + k) 0) → word32 l i ≡ word32 m j
unfolding word32
word32_ext l m i j f =
    rw (word16_ext l m i j (λ k p. f k (omega arith)), word16_ext l m (i + 2) (j + 2) (λ k p. simp add_assoc (f (2 + k) (omega arith))))

pub word16-over-out : (l : List ℕ) (at : ℕ) (s : List ℕ) (j : ℕ) → (j + 2 ≤ at) ⊎ (at + length s ≤ j) → word16 (over l at s) j ≡ word16 l j
word16-over-out l at s j a =
    word16_ext _ _ j j (λ k p. get_or-over_out l at s (j + k) (⊎_elim (λ h. inl (omega arith)) (λ h. inr (omega arith)) a))

pub word32-over-out : (l : List ℕ) (at : ℕ) (s : List ℕ) (j : ℕ) → (j + 4 ≤ at) ⊎ (at + length s ≤ j) → word32 (over l at s) j ≡ word32 l j
word32-over-out l at s j a =
    word32_ext _ _ j j (λ k p. get_or-over_out l at s (j + k) (⊎_elim (λ h. inl (omega arith)) (λ h. inr (omega arith)) a))

pub word16-over_in : (l : List ℕ) (at : ℕ) (s : List ℕ) (j : ℕ) → at + length s ≤ length l → j + 2 ≤ length s
    → word16 (over l at s) (at + j) ≡ word16 s j
word16-over_in l at s j h w = word16_ext _ _ (at + j) j (λ k p. rw add_assoc (get_or-over_in l at s (j + k) h (omega arith)))

pub word32-over_in : (l : List ℕ) (at : ℕ) (s : List ℕ) (j : ℕ) → at + length s ≤ length l → j + 4 ≤ length s
    → word32 (over l at s) (at + j) ≡ word32 s j
word32-over_in l at s j h w = word32_ext _ _ (at + j) j (λ k p. rw add_assoc (get_or-over_in l at s (j + k) h (omega arith)))

pub word16-part : (l : List ℕ) (at n j : ℕ) → j + 2 ≤ n → word16 (part l at n) j ≡ word16 l (at + j)
word16-part l at n j h = word16_ext _ _ j (at + j) (λ k p. rw add_assoc (part_at l at n (j + k) (omega arith)))

pub word32-part : (l : List ℕ) (at n j : ℕ) → j + 4 ≤ n → word32 (part l at n) j ≡ word32 l (at + j)
word32-part l at n j h = word32_ext _ _ j (at + j) (λ k p. rw add_assoc (part_at l at n (j + k) (omega arith)))

pub word16-append-left : (a b : List ℕ) (j : ℕ) → j + 2 ≤ length a → word16 (a ++ b) j ≡ word16 a j
word16-append-left a b j h = word16_ext _ _ j j (λ k p. get_or-append a b 0 (j + k) (omega arith))

pub word32-append-left : (a b : List ℕ) (j : ℕ) → j + 4 ≤ length a → word32 (a ++ b) j ≡ word32 a j
word32-append-left a b j h = word32_ext _ _ j j (λ k p. get_or-append a b 0 (j + k) (omega arith))

pub word16-append-right : (a b : List ℕ) (m j : ℕ) → length a ≡ m → word16 (a ++ b) (m + j) ≡ word16 b j
word16-append-right a b m j e = word16_ext _ _ (m + j) j (λ k p. rw (← e, add_assoc) (get_or-append-add a b (j + k) 0))

pub word32-append-right : (a b : List ℕ) (m j : ℕ) → length a ≡ m → word32 (a ++ b) (m + j) ≡ word32 b j
word32-append-right a b m j e = word32_ext _ _ (m + j) j (λ k p. rw (← e, add_assoc) (get_or-append-add a b (j + k) 0))

-- Read where it was written ---------------------------------------------------------------------------------------------
-- The number comes back: from its bytes, from a list that begins with them, and from any place that they were written to.

pub word16-bytes16 : (x : ℕ) → word16 (bytes16 x) 0 ≡ x
word16-bytes16 = laws16.again

pub word32-bytes32 : (x : ℕ) → word32 (bytes32 x) 0 ≡ x
word32-bytes32 = laws32.again

pub word16-front : (x : ℕ) (s : List ℕ) → word16 (bytes16 x ++ s) 0 ≡ x
word16-front x s =
    let k : length (bytes16 x) ≡ 2 = length-bytes16 x in
    word16-append-left (bytes16 x) s 0 (omega arith) ∙ word16-bytes16 x

pub word32-front : (x : ℕ) (s : List ℕ) → word32 (bytes32 x ++ s) 0 ≡ x
word32-front x s =
    let k : length (bytes32 x) ≡ 4 = length-bytes32 x in
    word32-append-left (bytes32 x) s 0 (omega arith) ∙ word32-bytes32 x

pub word16-over : (l : List ℕ) (at x : ℕ) → at + 2 ≤ length l → word16 (over l at (bytes16 x)) at ≡ x
word16-over l at x h =
    let k : length (bytes16 x) ≡ 2 = length-bytes16 x in
    (rw add-zero at (word16-over_in l at (bytes16 x) 0 (omega arith) (omega arith))) ∙ word16-bytes16 x

pub word32-over : (l : List ℕ) (at x : ℕ) → at + 4 ≤ length l → word32 (over l at (bytes32 x)) at ≡ x
word32-over l at x h =
    let k : length (bytes32 x) ≡ 4 = length-bytes32 x in
    (rw add-zero at (word32-over_in l at (bytes32 x) 0 (omega arith) (omega arith))) ∙ word32-bytes32 x

pub bytes16_inj : (x y : ℕ) → bytes16 x ≡ bytes16 y → x ≡ y
bytes16_inj x y e = sym (word16-bytes16 x) ∙ rw e (word16-bytes16 y)

pub bytes32_inj : (x y : ℕ) → bytes32 x ≡ bytes32 y → x ≡ y
bytes32_inj x y e = sym (word32-bytes32 x) ∙ rw e (word32-bytes32 y)

-- Bounds ----------------------------------------------------------------------------------------------------------------
-- A number of bytes below 256 fits its width, and the bytes of a number that fits are below 256.

pub word16-bound : (l : List ℕ) (i : ℕ) → get_or l i 0 < 256 → get_or l (i + 1) 0 < 256 → word16 l i < 65536
unfolding word16
word16-bound l i p q = omega arith

pub word32-bound : (l : List ℕ) (i : ℕ) → word16 l i < 65536 → word16 l (i + 2) < 65536 → word32 l i < 4294967296
unfolding word32
word32-bound l i p q = omega arith

pub bytes16-bound : (x k : ℕ) → x < 65536 → get_or (bytes16 x) k 0 < 256
unfolding bytes16
bytes16-bound x zero h = omega arith
bytes16-bound x (suc zero) h = omega arith
bytes16-bound x (suc (suc k)) h = omega arith

pub bytes32-bound : (x k : ℕ) → x < 4294967296 → get_or (bytes32 x) k 0 < 256
unfolding bytes32
bytes32-bound x zero h = omega arith
bytes32-bound x (suc zero) h = omega arith
bytes32-bound x (suc (suc zero)) h = omega arith
bytes32-bound x (suc (suc (suc zero))) h = omega arith
bytes32-bound x (suc (suc (suc (suc k)))) h = omega arith

-- Written where it was read ---------------------------------------------------------------------------------------------
-- The bytes of a number read are those that it was read from, so written back they change nothing.

pub bytes16-sum : (a b : ℕ) → a < 256 → bytes16 (a + 256 * b) ≡ a ∷ b ∷ []
unfolding bytes16
bytes16-sum a b p =
    let e : (a + 256 * b) % 256 ≡ a = omega arith in
    let f : (a + 256 * b) / 256 ≡ b = omega arith in
    rw (e, f)

pub bytes32-sum : (a b c d : ℕ) → a < 256 → b < 256 → c < 256 → bytes32 (a + 256 * b + 65536 * (c + 256 * d)) ≡ a ∷ b ∷ c ∷ d ∷ []
unfolding bytes32
bytes32-sum a b c d p q r =
    let x = a + 256 * b + 65536 * (c + 256 * d) in
    let e : x % 256 ≡ a = omega arith in
    let f : x / 256 ≡ b + 256 * (c + 256 * d) = omega arith in
    let g : (b + 256 * (c + 256 * d)) % 256 ≡ b = omega arith in
    let h : x / 65536 ≡ c + 256 * d = omega arith in
    let i : (c + 256 * d) % 256 ≡ c = omega arith in
    let j : x / 16777216 ≡ d = omega arith in
    rw (e, f, g, h, i, j)

pub part-two : (l : List ℕ) (i : ℕ) → i + 2 ≤ length l → part l i 2 ≡ get_or l i 0 ∷ get_or l (i + 1) 0 ∷ []
unfolding part
part-two l i h = rw (add-one, drop-cons l i 0 (omega arith), drop-cons l (suc i) 0 (omega arith))

pub bytes16-word16 : (l : List ℕ) (i : ℕ) → i + 2 ≤ length l → get_or l i 0 < 256 → bytes16 (word16 l i) ≡ part l i 2
unfolding word16
bytes16-word16 l i h p = bytes16-sum _ _ p ∙ rw (part-two l i h)

pub bytes32-word32 : (l : List ℕ) (i : ℕ) → i + 4 ≤ length l → get_or l i 0 < 256 → get_or l (i + 1) 0 < 256 → get_or l (i + 2) 0 < 256
    → bytes32 (word32 l i) ≡ part l i 4
unfolding word32 word16
bytes32-word32 l i h p q r =
    bytes32-sum _ _ _ _ p q r ∙ sym (part-add l i 2 2 ∙ rw (part-two l i (omega arith), part-two l (i + 2) (omega arith)))

pub over-word16 : (l : List ℕ) (i : ℕ) → i + 2 ≤ length l → get_or l i 0 < 256 → over l i (bytes16 (word16 l i)) ≡ l
over-word16 l i h p = rw (bytes16-word16 l i h p) (over-part l i 2 h)

pub over-word32 : (l : List ℕ) (i : ℕ) → i + 4 ≤ length l → get_or l i 0 < 256 → get_or l (i + 1) 0 < 256 → get_or l (i + 2) 0 < 256
    → over l i (bytes32 (word32 l i)) ≡ l
over-word32 l i h p q r = rw (bytes32-word32 l i h p q r) (over-part l i 4 h)
