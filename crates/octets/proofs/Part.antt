-- The algebra of reading: runs of bytes read out of others, and what a write makes of them.
use mathlib.Core.Path.{◌≡◌, refl, sym, ◌∙◌}
use mathlib.Core.List.{List, [], ◌++◌}
use mathlib.Core.Logic.{◌⊎◌, inl, inr, ⊎_elim}
use Prim.Native.Nat.{ℕ, ◌+◌, ◌≤◌, ◌<◌}
use native.Mathlib.Nat.{add-zero}
use native.Mathlib.Omega.{arith}
use lib.ListN.{length, drop, get_or, length-append, length-take, length-drop, get_or-append}
use lib.Seq.{get_or-take, get_or-drop, ext_get_or, take-length, take_at, take-add, drop-drop, drop-append-add}
use Rattle.octets.specs.Runs.{over, part, zeros}
use Rattle.octets.proofs.Over.{length_over, get_or-over_out, get_or-over_in, over-inside, over-same, length-zeros, get_or-zeros}

-- One part --------------------------------------------------------------------------------------------------------------
-- A part has the length asked for and the bytes that stand there, and these determine it.

pub part_length : (l : List ℕ) (at n : ℕ) → at + n ≤ length l → length (part l at n) ≡ n
unfolding part
part_length l at n h = simp (length-take, length-drop) (omega arith)

pub part_at : (l : List ℕ) (at n i : ℕ) → i < n → get_or (part l at n) i 0 ≡ get_or l (at + i) 0
unfolding part
part_at l at n i h = rw (get_or-take n (drop at l) i 0 h, get_or-drop)

pub part_ext : (l m : List ℕ) (at bt n : ℕ) → at + n ≤ length l → bt + n ≤ length m
    → ((i : ℕ) → i < n → get_or l (at + i) 0 ≡ get_or m (bt + i) 0) → part l at n ≡ part m bt n
part_ext l m at bt n h k f =
    let p : length (part l at n) ≡ n = part_length l at n h in
    let q : length (part m bt n) ≡ n = part_length m bt n k in
    ext_get_or 0 (part l at n) (part m bt n) (p ∙ sym q)
    (λ i w. let v : i < n = omega arith in part_at l at n i v ∙ f i v ∙ sym (part_at m bt n i v))

pub part_none : (l : List ℕ) (at : ℕ) → part l at 0 ≡ []
unfolding part
part_none l at = refl

pub part-all : (s : List ℕ) → part s 0 (length s) ≡ s
unfolding part
part-all s = take-length s

-- Parts of parts and of lists joined ------------------------------------------------------------------------------------
-- A part of a part is a part, two parts that touch are one, and a part of lists joined is a part of the one that it lies in.

pub part-part : (l : List ℕ) (at n j k : ℕ) → at + n ≤ length l → j + k ≤ n → part (part l at n) j k ≡ part l (at + j) k
part-part l at n j k h w =
    let e : length (part l at n) ≡ n = part_length l at n h in
    part_ext (part l at n) l j (at + j) k (omega arith) (omega arith)
    (λ i v. let r : at + j + i ≡ at + (j + i) = omega arith in rw r (part_at l at n (j + i) (omega arith)))

pub part-add : (l : List ℕ) (at m n : ℕ) → part l at (m + n) ≡ part l at m ++ part l (at + m) n
unfolding part
part-add l at m n = take-add m n (drop at l) ∙ rw drop-drop

pub part-append-left : (a b : List ℕ) (at n : ℕ) → at + n ≤ length a → part (a ++ b) at n ≡ part a at n
part-append-left a b at n h =
    let e : length (a ++ b) ≡ length a + length b = length-append a b in
    part_ext (a ++ b) a at at n (omega arith) h (λ i w. get_or-append a b 0 (at + i) (omega arith))

pub part-append-right : (a b : List ℕ) (m at n : ℕ) → length a ≡ m → part (a ++ b) (m + at) n ≡ part b at n
unfolding part
part-append-right a b m at n e = rw (← e, drop-append-add)

pub part-first : (a b : List ℕ) (m : ℕ) → length a ≡ m → part (a ++ b) 0 m ≡ a
unfolding part
part-first a b m e = take_at a b m e

pub part-second : (a b : List ℕ) (m n : ℕ) → length a ≡ m → length b ≡ n → part (a ++ b) m n ≡ b
part-second a b m n e f = (rw add-zero at (part-append-right a b m 0 n e)) ∙ rw (← f) (part-all b)

pub part-zeros : (m at n : ℕ) → at + n ≤ m → part (zeros m) at n ≡ zeros n
part-zeros m at n h =
    let k : length (zeros m) ≡ m = length-zeros m in
    let p : length (part (zeros m) at n) ≡ n = part_length (zeros m) at n (omega arith) in
    ext_get_or 0 (part (zeros m) at n) (zeros n) (p ∙ sym (length-zeros n))
    (λ i w. part_at (zeros m) at n i (omega arith) ∙ get_or-zeros m (at + i) ∙ sym (get_or-zeros n i))

-- A part and a write ----------------------------------------------------------------------------------------------------
-- A part apart from the write is as it was, and one within it is the run's.

pub part-over-out : (l : List ℕ) (at : ℕ) (s : List ℕ) (j n : ℕ) → j + n ≤ length l → (j + n ≤ at) ⊎ (at + length s ≤ j)
    → part (over l at s) j n ≡ part l j n
part-over-out l at s j n h a =
    let e : length (over l at s) ≡ length l = length_over l at s in
    part_ext (over l at s) l j j n (omega arith) h
    (λ i w. get_or-over_out l at s (j + i) (⊎_elim (λ p. inl (omega arith)) (λ p. inr (omega arith)) a))

pub part-over_in : (l : List ℕ) (at : ℕ) (s : List ℕ) (j n : ℕ) → at + length s ≤ length l → j + n ≤ length s
    → part (over l at s) (at + j) n ≡ part s j n
part-over_in l at s j n h k =
    let e : length (over l at s) ≡ length l = length_over l at s in
    part_ext (over l at s) s (at + j) j n (omega arith) k
    (λ i w. let v : at + j + i ≡ at + (j + i) = omega arith in rw v (get_or-over_in l at s (j + i) h (omega arith)))

pub part-here : (l : List ℕ) (at : ℕ) (s : List ℕ) → at + length s ≤ length l → part (over l at s) at (length s) ≡ s
part-here l at s h = (rw add-zero at (part-over_in l at s 0 (length s) h (omega arith))) ∙ part-all s

pub part-stands : (l : List ℕ) (at : ℕ) (s : List ℕ) (n : ℕ) → length s ≡ n → at + n ≤ length l → part (over l at s) at n ≡ s
part-stands l at s n e h = rw (← e) (part-here l at s (omega arith))

-- A part written --------------------------------------------------------------------------------------------------------
-- A part written back changes nothing, so a write within a part is that part written with the change.

pub over-part : (l : List ℕ) (at n : ℕ) → at + n ≤ length l → over l at (part l at n) ≡ l
over-part l at n h =
    let e : length (part l at n) ≡ n = part_length l at n h in
    over-same l at (part l at n) (λ i w. part_at l at n i (omega arith))

pub over-within : (l : List ℕ) (at n j : ℕ) (s : List ℕ) → at + n ≤ length l → j + length s ≤ n
    → over l (at + j) s ≡ over l at (over (part l at n) j s)
over-within l at n j s h k =
    let e : length (part l at n) ≡ n = part_length l at n h in
    rw (over-part l at n h) at (over-inside l at (part l at n) j s (omega arith))

pub part-over-around : (l : List ℕ) (at n j : ℕ) (s : List ℕ) → at + n ≤ length l → j + length s ≤ n
    → part (over l (at + j) s) at n ≡ over (part l at n) j s
part-over-around l at n j s h k =
    let t : List ℕ = over (part l at n) j s in
    let e : length t ≡ n = length_over (part l at n) j s ∙ part_length l at n h in
    rw (over-within l at n j s h k) (part-stands l at t n e h)
