-- What is tested of an inner page's bytes: the front, a record, and one record after another.
use mathlib.Core.Path.{◌≡◌, sym, ap, ◌∙◌}
use mathlib.Core.Bool.{Bool, true}
use mathlib.Core.List.{List, [], ◌∷◌, ◌++◌, append_assoc, append_cancel_left}
use Prim.Native.Nat.{ℕ, suc, ◌+◌, ◌-◌, ◌*◌, ◌≤◌, ◌<◌}
use native.Mathlib.Nat.{zero-add}
use native.Mathlib.Numerals.{add-one}
use native.Mathlib.Omega.{arith}
use borrow.Author.Count.{below_more}
use lib.Bits.{bit_or}
use lib.ListN.{length, get_or}
use lib.Seq.{drop-cons}
use Rattle.octets.specs.Says.{Says}
use Rattle.octets.specs.Runs.{part, zeros}
use Rattle.octets.specs.Numbers.{word16, bytes16}
use Rattle.octets.specs.Keys.{before}
use Rattle.octets.proofs.Flags.{says_map, or-none}
use Rattle.octets.proofs.Part.{part_at, part-add, part_length}
use Rattle.model.specs.Lists.{pad}
use Rattle.model.specs.Sizes.{key_most}
use Rattle.model.specs.Layouts.{record_of, record_bytes}
use Rattle.page.specs.Inner.{front_is, KeyIn, key_before, FrontBytes, OneRecord, Ranked}
use Rattle.octets.proofs.Words.{part-two}
use Rattle.page.proofs.Fronts.{read16}

-- The front -----------------------------------------------------------------------------------------------------------------
-- Its two numbers may be any, so the first byte and those that are zero for good decide.

-- the bytes that are zero for good, joined
abbrev pub seen_in : List ℕ → ℕ
seen_in p = bit_or (bit_or (bit_or (bit_or (bit_or (bit_or (get_or p 1 0) (get_or p 4 0)) (get_or p 5 0)) (get_or p 6 0)) (get_or p 7 0)) (get_or p 10 0)) (get_or p 11 0)

front_read : (p : List ℕ) → ((i : ℕ) → get_or p i 0 < 256) → 12 ≤ length p
    → part p 0 12 ≡ get_or p 0 0 ∷ get_or p 1 0 ∷ bytes16 (word16 p 2) ++ (get_or p 4 0 ∷ get_or p 5 0 ∷ get_or p 6 0 ∷ get_or p 7 0 ∷ bytes16 (word16 p 8) ++ (get_or p 10 0 ∷ get_or p 11 0 ∷ []))
front_read p b h =
    rw (← read16 p b 2 (omega arith), ← read16 p b 8 (omega arith))
    (part-add p 0 2 10 ∙ rw (
      part-add p 2 2 8,
      part-add p 4 2 6,
      part-add p 6 2 4,
      part-add p 8 2 2,
      part-two p 0 (omega arith),
      part-two p 4 (omega arith),
      part-two p 6 (omega arith),
      part-two p 10 (omega arith),
    ))

module _ (p : List ℕ) (h : 12 ≤ length p) where
  pub front_yes : ((i : ℕ) → get_or p i 0 < 256) → get_or p 0 0 ≡ 2 → seen_in p ≡ 0 → FrontBytes p
  unfolding front_is zeros
  front_yes b k e =
      let s6 = or-none _ (get_or p 11 0) e in
      let s5 = or-none _ (get_or p 10 0) s6.0 in
      let s4 = or-none _ (get_or p 7 0) s5.0 in
      let s3 = or-none _ (get_or p 6 0) s4.0 in
      let s2 = or-none _ (get_or p 5 0) s3.0 in
      let s1 = or-none (get_or p 1 0) (get_or p 4 0) s2.0 in
      record { same = front_read p b h ∙ rw (k, s1.0, s1.1, s2.1, s3.1, s4.1, s5.1, s6.1) }

  at_front : FrontBytes p → (i : ℕ) → i < 12 → get_or p i 0 ≡ get_or (front_is (word16 p 2) (word16 p 8)) i 0
  at_front f i w = sym (part_at p 0 12 i w ∙ rw zero-add) ∙ ap (λ (l : List ℕ). get_or l i 0) f.same

  pub front_kind : FrontBytes p → get_or p 0 0 ≡ 2
  unfolding front_is
  front_kind f = at_front f 0 (omega arith)

  pub front-zeros : FrontBytes p → seen_in p ≡ 0
  unfolding front_is bytes16 zeros
  front-zeros f =
      rw (
        at_front f 1 (omega arith),
        at_front f 4 (omega arith),
        at_front f 5 (omega arith),
        at_front f 6 (omega arith),
        at_front f 7 (omega arith),
        at_front f 10 (omega arith),
        at_front f 11 (omega arith),
      )

-- A record ------------------------------------------------------------------------------------------------------------------
-- Its length, child and key are some record's, so its length's bound and what stands behind the key decide.

part-one : (p : List ℕ) (i n : ℕ) → i < length p → part p i (suc n) ≡ get_or p i 0 ∷ part p (i + 1) n
unfolding part
part-one p i n h = rw (drop-cons p i 0 h, add-one)

module _ (p : List ℕ) (i : ℕ) (h : 12 + 35 * (i + 1) ≤ length p) (n : ℕ) (e : n ≡ get_or p (12 + 35 * i) 0) (m : n ≤ 32) where
  -- the record before the zeros
  head : List ℕ
  head = n ∷ bytes16 (word16 p (12 + 35 * i + 1)) ++ part p (12 + 35 * i + 3) n

  key-length : length (part p (12 + 35 * i + 3) n) ≡ n
  key-length = part_length p (12 + 35 * i + 3) n (omega arith)

  record_read : ((i : ℕ) → get_or p i 0 < 256) → part p (12 + 35 * i) 35 ≡ head ++ part p (12 + 35 * i + 3 + n) (32 - n)
  unfolding head
  record_read b =
      let o : ℕ = 12 + 35 * i in
      let x : o + 1 + 2 ≡ o + 3 = omega arith in
      let y : 32 ≡ n + (32 - n) = omega arith in
      part-one p o 34 (omega arith)
      ∙ rw (← e, part-add p (o + 1) 2 32, x, read16 p b (o + 1) (omega arith))
      (ap (λ (l : List ℕ). n ∷ bytes16 (word16 p (o + 1)) ++ l) (ap (part p (o + 3)) y ∙ part-add p (o + 3) n (32 - n))
      ∙ ap (λ (l : List ℕ). n ∷ l) (sym (append_assoc (bytes16 (word16 p (o + 1))) (part p (o + 3) n) (part p (o + 3 + n) (32 - n)))))

  record_own : record_bytes (record_of p i) ≡ head ++ zeros (32 - n)
  unfolding record_bytes record_of pad key_most head bytes16
  record_own = rw (← e, key-length)

  pub record_says : (r : Bool) → ((i : ℕ) → get_or p i 0 < 256)
      → Says r (part p (12 + 35 * i + 3 + n) (12 + 35 * i + 35 - (12 + 35 * i + 3 + n)) ≡ zeros (length (part p (12 + 35 * i + 3 + n) (12 + 35 * i + 35 - (12 + 35 * i + 3 + n)))))
      → Says r (OneRecord p i)
  unfolding key_most
  record_says r b s =
      let d : 12 + 35 * i + 35 - (12 + 35 * i + 3 + n) ≡ 32 - n = omega arith in
      let l : length (part p (12 + 35 * i + 3 + n) (32 - n)) ≡ 32 - n = part_length p (12 + 35 * i + 3 + n) (32 - n) (omega arith) in
      let t : Says r (part p (12 + 35 * i + 3 + n) (32 - n) ≡ zeros (32 - n)) = rw (d, l) at s in
      says_map t
      (λ z. record { short = omega arith; same = record_read b ∙ (rw z (sym record_own)) })
      (λ k. append_cancel_left head _ _ (sym (record_read b) ∙ (k.same ∙ record_own)))

-- One record after another ---------------------------------------------------------------------------------------------------
-- A record whose key is above the last is ranked with those before it, and its key is the next one's last.

module _ (p : List ℕ) (c i : ℕ) (h : i < c) where
  pub one_inside : 12 + 35 * (i + 1) ≤ length p → OneRecord p i → KeyIn p i
  unfolding key_most
  one_inside l o = record { inside = omega (arith, o.short) }

  module _ (last key : List ℕ) (r : Bool) (l : last ≡ key_before p i) (k : key ≡ (record_of p i).key) (b : r ≡ before last key) where
    test : before (key_before p i) (record_of p i).key ≡ r
    test = rw (← l, ← k) (sym b)

    pub above_on : OneRecord p i → r ≡ true → ((j : ℕ) → j < i → Ranked p j) → (j : ℕ) → j < i + 1 → Ranked p j
    above_on o e f = below_more (Ranked p) i f (record { one = o; above = test ∙ e })

    pub key-on : key ≡ key_before p (i + 1)
    unfolding key_before
    key-on = rw add-one k
