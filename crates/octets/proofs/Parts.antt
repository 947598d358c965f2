-- What the library's methods leave of a slice, in the words of runs: a part written, zeroed, moved.
use mathlib.Core.Path.{◌≡◌, sym, ◌∙◌}
use mathlib.Core.List.{List}
use Prim.Native.Nat.{ℕ, ◌+◌, ◌-◌, ◌≤◌, ◌<◌}
use native.Mathlib.Nat.{zero-add}
use native.Mathlib.Omega.{arith}
use lib.ListN.{length, get_or, take, drop, replicate, length-take, length-drop, length-replicate}
use lib.Seq.{drop-drop}
use borrow.Rule.Slice.PartMut.{put_mid}
use Rattle.std.specs.List.{copy_within}
use Rattle.std.proofs.Common.{append_assoc}
use Rattle.octets.specs.Runs.{over, part, zeros}
use Rattle.octets.proofs.Over.{length-zeros, over_eq, over-all, over_zeros}
use Rattle.octets.proofs.Part.{part_length}

module _ (l : List ℕ) (at k : ℕ) where
  pub part_written : (s t : List ℕ) → t ≡ s → length s ≡ k → at + k ≤ length l → put_mid at k l t ≡ over l at s
  part_written s t f e h = rw (f, over_eq l at s (omega arith), e, drop-drop, append_assoc)

  pub part_zeroed : (n : ℕ) → k ≡ n → at + n ≤ length l → put_mid at k l (replicate (length (take k (drop at l))) 0) ≡ over l at (zeros n)
  unfolding zeros
  part_zeroed n e h =
      let f : length (take k (drop at l)) ≡ n = simp (length-take, length-drop) (omega arith) in
      part_written (replicate n 0) _ (rw f) (length-replicate n 0 ∙ sym e) (omega arith)

pub part_moved : (l : List ℕ) (from to n : ℕ) → from + n ≤ length l → to + n ≤ length l
    → copy_within l from (from + n) to ≡ over l to (part l from n)
unfolding part
part_moved l from to n h k =
    let e : length (part l from n) ≡ n = part_length l from n h in
    let f : from + n - from ≡ n = omega arith in
    rw (over_eq l to (part l from n) (omega arith), e, f)

-- a run of which each byte is zero
pub all-zeros : (r : List ℕ) (n : ℕ) → length r ≡ n → ((i : ℕ) → i < n → get_or r i 0 ≡ 0) → r ≡ zeros n
all-zeros r n h z = sym (over_zeros r 0 n (λ i w. rw zero-add (z i w))) ∙ over-all r (zeros n) (length-zeros n ∙ sym h)
