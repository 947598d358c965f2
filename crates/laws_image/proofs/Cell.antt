-- A cell says the lengths of its key and its value, and its value or where the chain begins, so it is read back where its chain stands.
use mathlib.Core.Path.{◌≡◌, refl, sym, ap, ◌∙◌}
use mathlib.Core.Bool.{true, false}
use mathlib.Core.List.{List, [], ◌∷◌, ◌++◌}
use Prim.Native.Nat.{ℕ, suc, ◌+◌, ◌*◌, ◌-◌, ◌/◌, ◌%◌, ◌≤◌, ◌<◌, min}
use native.Mathlib.Nat.{lt-div-mul-add, div-lt_iff_lt-mul, div-mul-le_self}
use native.Mathlib.Omega.{arith}
use lib.ListN.{length, take, drop, length-append}
use lib.Seq.{take-append_seam, drop-append_seam}
use lib.Dec.{leb}
use Rattle.octets.specs.Choice.{choose}
use Rattle.octets.specs.Numbers.{word16, bytes16}
use Rattle.octets.proofs.Words.{word16-bytes16}
use Rattle.model.specs.Lists.{head_or}
use Rattle.model.specs.Types.{Cell}
use Rattle.model.specs.Sizes.{inline_most, payload, chain_most, value_most, chain_length, cell_length}
use Rattle.model.specs.Layouts.{cell_size}
use Rattle.model.specs.Image.{cell_bytes, chain_pages, placed}
use Rattle.model.specs.Decode.{cell_from, cell_of, chain_from, held_by}
use Rattle.model.proofs.Tests.{cases}
use Rattle.laws_image.proofs.Sundry.{choose_ap}
use Rattle.laws_image.proofs.Standing.{Standing, chain_from-standing, held_by-standing}

-- ---- a cell's length
-- It is that of its bytes, and its first bytes say it.

pub length-cell_bytes : (c : Cell) → length (cell_bytes c) ≡ cell_length c
unfolding cell_bytes cell_length bytes16
length-cell_bytes c =
    simp (length-append, choose_ap length (leb (length c.value) inline_most) c.value (bytes16 (head_or 0 c.chain))) (omega arith)

pub cell_size-cell_bytes : (c : Cell) → cell_size (cell_bytes c) ≡ cell_length c
unfolding cell_size cell_bytes cell_length word16 bytes16
cell_size-cell_bytes c = let e : length c.value % 256 + 256 * (length c.value / 256) ≡ length c.value = omega arith in rw e

-- ---- a chain's length
-- A value that is not in its cell has pages enough to hold it, and no more than the longest value has.

pub chain_length-short : (L v : ℕ) → leb v inline_most ≡ true → chain_length L v ≡ 0
unfolding chain_length choose
chain_length-short L v t = rw t

pub chain_length-long : (L v : ℕ) → leb v inline_most ≡ false → chain_length L v ≡ (v + (payload L - 1)) / payload L
unfolding chain_length choose
chain_length-long L v t = rw t

rounded_up : (p v : ℕ) → 1 ≤ p → v ≤ (v + (p - 1)) / p * p
rounded_up p v h = let k : v + (p - 1) < (v + (p - 1)) / p * p + p = lt-div-mul-add (omega arith) in omega arith

rounded_least : (p v k : ℕ) → 1 ≤ p → (v + (p - 1)) / p ≡ suc k → k * p < v
rounded_least p v k h e =
    let d : (v + (p - 1)) / p * p ≤ v + (p - 1) = div-mul-le_self _ _ in
    let m : suc k * p ≤ v + (p - 1) = rw e at d in
    omega arith

rounded_most : (p v : ℕ) → 1 ≤ p → v ≤ 8 * p → (v + (p - 1)) / p ≤ 8
rounded_most p v h m =
    let k : (v + (p - 1)) / p < 9 = (div-lt_iff_lt-mul {k = p} {x = v + (p - 1)} {y = 9} (omega arith)).1 (omega arith) in omega arith

module _ (L : ℕ) (room : 9 ≤ L) where
  payload-some : 1 ≤ payload L
  unfolding payload
  payload-some = omega arith

  pub chain-holds : (v : ℕ) → leb v inline_most ≡ false → v ≤ chain_length L v * payload L
  chain-holds v t = rw (chain_length-long L v t) (rounded_up (payload L) v payload-some)

  -- and none to spare
  pub chain_needs : (v k : ℕ) → chain_length L v ≡ suc k → k * payload L < v
  chain_needs v k e =
      cases (leb v inline_most) (λ t. absurd (omega (arith, chain_length-short L v t)))
      (λ t. rounded_least (payload L) v k payload-some (sym (chain_length-long L v t) ∙ e))

  pub chain-most : (v : ℕ) → v ≤ value_most L → chain_length L v ≤ chain_most
  unfolding value_most chain_most
  chain-most v m =
      cases (leb v inline_most) (λ t. omega (arith, chain_length-short L v t))
      (λ t. rw (chain_length-long L v t) (rounded_most (payload L) v payload-some m))

-- ---- a cell read back

empty : (l : List ℕ) → length l ≡ 0 → l ≡ []
empty [] e = refl
empty (x ∷ l) e = absurd (omega arith)

-- what a cell's own lengths are
pub record Fine (L : ℕ) (c : Cell) : Type 0 where
  pub value : length c.value ≤ value_most L
  pub chain : length c.chain ≡ chain_length L (length c.value)

module _ (L : ℕ) (room : 9 ≤ L) (ps : List (List ℕ)) (c : Cell) (fine : Fine L c) (stands : Standing ps (chain_pages L c.chain c.value)) where
  abbrev v : ℕ
  v = length c.value

  abbrev read : List ℕ → Cell
  read bytes = cell_from L ps c.at (length c.key) v bytes

  chained : leb v inline_most ≡ false → read (c.key ++ bytes16 (head_or 0 c.chain)) ≡ c
  unfolding cell_from choose
  chained t =
      let first : List ℕ = bytes16 (head_or 0 c.chain) in
      let k : min chain_most (chain_length L v) ≡ length c.chain = omega (arith, chain-most L room v fine.value, fine.chain) in
      let a : take (length c.key) (c.key ++ first) ≡ c.key = take-append_seam c.key first in
      let b : drop (length c.key) (c.key ++ first) ≡ first = drop-append_seam c.key first in
      let e : (read (c.key ++ first)).chain ≡ c.chain = rw (b, k, word16-bytes16 (head_or 0 c.chain)) (chain_from-standing L ps c.chain c.value stands) in
      let f : (read (c.key ++ first)).value ≡ c.value =
      rw t (ap (held_by ps) e ∙ held_by-standing L ps c.chain c.value (rw fine.chain (chain-holds L room v t)) stands) in
      λ i. record { at = c.at; key = a i; value = f i; chain = e i }

  inline : leb v inline_most ≡ true → read (c.key ++ c.value) ≡ c
  unfolding cell_from choose chain_from chain_most
  inline t =
      let z = chain_length-short L v t in
      let a : take (length c.key) (c.key ++ c.value) ≡ c.key = take-append_seam c.key _ in
      let f : (read (c.key ++ c.value)).value ≡ c.value = rw t (drop-append_seam c.key _) in
      let e : (read (c.key ++ c.value)).chain ≡ c.chain = rw z (sym (empty c.chain (fine.chain ∙ z))) in
      λ i. record { at = c.at; key = a i; value = f i; chain = e i }

  pub cell_of-placed : cell_of L ps (placed c) ≡ c
  unfolding cell_of placed cell_bytes word16 bytes16 choose
  cell_of-placed =
      let e : v % 256 + 256 * (v / 256) ≡ v = omega arith in
      cases (leb v inline_most) (λ t. rw (e, t) (inline t)) (λ t. rw (e, t) (chained t))
