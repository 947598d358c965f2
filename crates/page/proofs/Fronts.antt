-- A page that has its bytes in front and zeros behind: what it is written as, and what is read of it.
use mathlib.Core.Path.{◌≡◌, refl, sym, ap, ◌∙◌}
use mathlib.Core.Logic.{inr}
use mathlib.Core.List.{List, ◌++◌}
use Prim.Native.Nat.{ℕ, ◌+◌, ◌-◌, ◌≤◌, ◌<◌}
use native.Mathlib.Nat.{zero-add}
use native.Mathlib.Omega.{arith}
use lib.ListN.{length, get_or}
use Rattle.octets.specs.Runs.{over, part, zeros}
use Rattle.octets.specs.Numbers.{word16, word32, bytes16, bytes32}
use Rattle.octets.proofs.Over.{length_over, length-zeros}
use Rattle.octets.proofs.Part.{part-add, part-all, part_length, part-first, part-second, part-zeros, part-stands, part-over-out}
use Rattle.octets.proofs.Words.{bytes16-word16, bytes32-word32}
use Rattle.model.specs.Lists.{pad}

-- Front and rest ----------------------------------------------------------------------------------------------------------
-- A page is its first k bytes and the rest.

parts : (p : List ℕ) (k : ℕ) → k ≤ length p → part p 0 k ++ part p k (length p - k) ≡ p
parts p k h =
    let e : k + (length p - k) ≡ length p = omega arith in
    let z : 0 + k ≡ k = zero-add k in
    ap (λ (i : ℕ). part p 0 k ++ part p i (length p - k)) (sym z) ∙ (sym (part-add p 0 k (length p - k)) ∙ (ap (part p 0) e ∙ part-all p))

module _ (p b : List ℕ) (k : ℕ) (size : length b ≡ k) (fits : k ≤ length p) where
  behind : length (zeros (length p - length b)) ≡ length p - k
  behind = length-zeros _ ∙ omega arith

  pub pad-front : p ≡ pad (length p) b → part p 0 k ≡ b
  pad-front e = ap (λ (l : List ℕ). part l 0 k) e ∙ (unfold pad in part-first b (zeros (length p - length b)) k size)

  pub pad-rest : p ≡ pad (length p) b → part p k (length p - k) ≡ zeros (length (part p k (length p - k)))
  pad-rest e =
      let n : length (part p k (length p - k)) ≡ length p - length b = part_length p k (length p - k) (omega arith) ∙ omega arith in
      rw n (ap (λ (l : List ℕ). part l k (length p - k)) e ∙ (unfold pad in part-second b (zeros (length p - length b)) k (length p - k) size behind))

  pub pad-of : part p 0 k ≡ b → part p k (length p - k) ≡ zeros (length (part p k (length p - k))) → p ≡ pad (length p) b
  pad-of e z =
      let n : length (part p k (length p - k)) ≡ length p - length b = part_length p k (length p - k) (omega arith) ∙ omega arith in
      sym (parts p k fits) ∙ rw (e, z, n) (unfold pad in refl)

-- Written -----------------------------------------------------------------------------------------------------------------
-- Bytes in front of zeros are the page filled up with zeros.

pub front-over : (p b : List ℕ) (k : ℕ) → length b ≡ k → k ≤ length p → part p k (length p - k) ≡ zeros (length (part p k (length p - k)))
    → over p 0 b ≡ pad (length p) b
front-over p b k size fits z =
    let l = length_over p 0 b in
    let q : part (over p 0 b) k (length p - k) ≡ part p k (length p - k) = part-over-out p 0 b k (length p - k) (omega arith) (inr (omega arith)) in
    pad-of (over p 0 b) b k size (omega arith) (part-stands p 0 b k size (omega arith)) (rw (l, q) z) ∙ ap (λ (n : ℕ). pad n b) l

zeros-rest : (n k : ℕ) → k ≤ n → part (zeros n) k (n - k) ≡ zeros (length (part (zeros n) k (n - k)))
zeros-rest n k h = let e = part-zeros n k (n - k) (omega arith) in rw (e, length-zeros (n - k))

-- the same of a page that is cleared
pub zeros-over : (n : ℕ) (b : List ℕ) → length b ≤ n → over (zeros n) 0 b ≡ pad n b
zeros-over n b h =
    let z = length-zeros n in
    let r : part (zeros n) (length b) (length (zeros n) - length b) ≡ zeros (length (part (zeros n) (length b) (length (zeros n) - length b)))
    = rw z (zeros-rest n (length b) h) in
    front-over (zeros n) b (length b) refl (omega arith) r ∙ ap (λ (m : ℕ). pad m b) z

-- the same of a page of which the bytes behind are cleared
pub rest-over : (p b : List ℕ) (k : ℕ) → length b ≡ k → k ≤ length p → over (over p k (zeros (length p - k))) 0 b ≡ pad (length p) b
rest-over p b k size h =
    let l = length_over p k (zeros (length p - k)) in
    let z = part-stands p k (zeros (length p - k)) (length p - k) (length-zeros (length p - k)) (omega arith) in
    front-over _ b k size (omega arith) (rw (l, z, length-zeros (length p - k))) ∙ ap (λ (m : ℕ). pad m b) l

-- Read --------------------------------------------------------------------------------------------------------------------
-- The bytes of a page are the bytes of the numbers in it.

module _ (p : List ℕ) (bytes : (i : ℕ) → get_or p i 0 < 256) where
  pub read16 : (i : ℕ) → i + 2 ≤ length p → part p i 2 ≡ bytes16 (word16 p i)
  read16 i h = sym (bytes16-word16 p i h (bytes i))

  pub read32 : (i : ℕ) → i + 4 ≤ length p → part p i 4 ≡ bytes32 (word32 p i)
  read32 i h = sym (bytes32-word32 p i h (bytes i) (bytes (i + 1)) (bytes (i + 2)))
