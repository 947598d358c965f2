-- An inner page is its front, its records one behind the other, and zeros.
use mathlib.Core.Path.{◌≡◌, refl, sym, ap, ◌∙◌}
use mathlib.Core.List.{List, [], ◌∷◌, ◌++◌, append_assoc}
use mathlib.Core.Logic.{inr}
use Prim.Native.Nat.{ℕ, zero, suc, ◌+◌, ◌-◌, ◌*◌, ◌≤◌, ◌<◌}
use native.Mathlib.Nat.{add-zero}
use native.Mathlib.Omega.{arith}
use lib.ListN.{length, get_or, take, drop, length-append, take-append-drop}
use lib.Seq.{drop_at, drop-cons, length-take-le}
use Rattle.octets.specs.Runs.{over, part, zeros}
use Rattle.octets.specs.Numbers.{word16, bytes16}
use Rattle.octets.proofs.Over.{over-front, over-past, over-append, over-comm, length_over, length-zeros, zeros-append}
use Rattle.octets.proofs.Part.{part-append-right, part-first}
use Rattle.model.specs.Lists.{gather, pad}
use Rattle.model.specs.Types.{Sep}
use Rattle.model.specs.Sizes.{key_most}
use Rattle.model.specs.Layouts.{InnerPage, to_inner, record_bytes}
use Rattle.model.proofs.Lists.{gather_append, length-pad}
use Rattle.page.specs.Inner.{front_is, Short, none-short, one-short, Is, inner, no_sep}

-- A run in the middle -------------------------------------------------------------------------------------------------------
-- What is read there is the run, and what is written there takes its place; two runs that touch are written as one.

module _ (p a o t : List ℕ) (at : ℕ) (e : p ≡ a ++ (o ++ t)) (la : length a ≡ at) where
  pub part_middle : (n : ℕ) → length o ≡ n → part p at n ≡ o
  part_middle n lo =
      rw e (ap (λ (k : ℕ). part (a ++ (o ++ t)) k n) (sym (add-zero at)) ∙ (part-append-right a (o ++ t) at 0 n la ∙ part-first o t n lo))

  pub over_middle : (s : List ℕ) → length o ≡ length s → over p at s ≡ a ++ (s ++ t)
  over_middle s lo =
      let l : length s ≤ length (o ++ t) = omega (arith, length-append o t) in
      rw (e, ← la) (over-past a (o ++ t) s ∙ rw (over-front (o ++ t) s l, drop_at o t (length s) lo))

pub over_touch : (p : List ℕ) (at k : ℕ) (s t : List ℕ) → length s ≡ k → over (over p (at + k) t) at s ≡ over p at (s ++ t)
over_touch p at k s t e = over-comm p (at + k) t at s (inr (omega arith)) ∙ sym (over-append p at s t ∙ rw e)

-- Records -------------------------------------------------------------------------------------------------------------------
-- Each has 35 bytes.

pub record_length : (s : Sep ℕ) → length s.key ≤ 32 → length (record_bytes s) ≡ 35
unfolding record_bytes bytes16 key_most
record_length s h = omega (arith, length-pad 32 s.key h)

abbrev pub all : List (Sep ℕ) → List ℕ
all ss = gather record_bytes ss

pub all_cons : (s : Sep ℕ) (ss : List (Sep ℕ)) → all (s ∷ ss) ≡ record_bytes s ++ all ss
unfolding gather
all_cons s ss = refl

pub all-length : {ss : List (Sep ℕ)} → Short ss → length (all ss) ≡ 35 * length ss
unfolding gather
all-length none-short = refl
all-length (one-short {s} {ss} k h) = omega (arith, all-length h, length-append (record_bytes s) (all ss), record_length s k)

pub short-append : {xs ys : List (Sep ℕ)} → Short xs → Short ys → Short (xs ++ ys)
short-append none-short q = q
short-append (one-short k p) q = one-short k (short-append p q)

pub short-take : (n : ℕ) {ss : List (Sep ℕ)} → Short ss → Short (take n ss)
short-take zero p = none-short
short-take (suc n) none-short = none-short
short-take (suc n) (one-short k p) = one-short k (short-take n p)

pub short-drop : (n : ℕ) {ss : List (Sep ℕ)} → Short ss → Short (drop n ss)
short-drop zero p = p
short-drop (suc n) none-short = none-short
short-drop (suc n) (one-short k p) = short-drop n p

pub short-head : {s : Sep ℕ} {ss : List (Sep ℕ)} → Short (s ∷ ss) → length s.key ≤ 32
short-head (one-short k p) = k

pub short-tail : {s : Sep ℕ} {ss : List (Sep ℕ)} → Short (s ∷ ss) → Short ss
short-tail (one-short k p) = p

-- The page ------------------------------------------------------------------------------------------------------------------
-- So many zeros stand behind the records as are left of its length.

pub front_length : (c f : ℕ) → length (front_is c f) ≡ 12
unfolding front_is bytes16 zeros
front_length c f = refl

pub to_padded : (L : ℕ) (q : InnerPage) → to_inner L q ≡ pad L (front_is (length q.rest) q.first ++ all q.rest)
unfolding to_inner front_is bytes16 zeros
to_padded L q = refl

pub body-length : (c f : ℕ) {rest : List (Sep ℕ)} → Short rest → length (front_is c f ++ all rest) ≡ 12 + 35 * length rest
body-length c f {rest} s = omega (arith, length-append (front_is c f) (all rest), front_length c f, all-length s)

laid : (L z : ℕ) (q : InnerPage) → Short q.rest → 12 + 35 * length q.rest + z ≡ L
    → to_inner L q ≡ (front_is (length q.rest) q.first ++ all q.rest) ++ zeros z
unfolding pad
laid L z q s e =
    let b : List ℕ = front_is (length q.rest) q.first ++ all q.rest in
    let n : L - length b ≡ z = omega (arith, body-length (length q.rest) q.first s) in
    to_padded L q ∙ rw n

-- what is written as an inner page is one
pub is_made : (L : ℕ) (q : InnerPage) → Short q.rest → 12 + 35 * length q.rest ≤ L → Is (to_inner L q) q
is_made L q s h =
    let b : List ℕ = front_is (length q.rest) q.first ++ all q.rest in
    let n : length (to_inner L q) ≡ L
    = ap length (to_padded L q) ∙ length-pad L b (omega (arith, body-length (length q.rest) q.first s)) in
    record { short = s; room = omega arith; same = ap (λ (k : ℕ). to_inner k q) (sym n) }

-- and so is a page copied to the front of more zeros
pub is_wide : (p : List ℕ) (q : InnerPage) (n : ℕ) → Is p q → length p ≤ n → Is (over (zeros n) 0 p) q
is_wide p q n w h =
    let k : ℕ = n - length p in
    let z : ℕ = length p - (12 + 35 * length q.rest) in
    let r = w.room in
    let b : List ℕ = front_is (length q.rest) q.first ++ all q.rest in
    let e : zeros n ≡ zeros (length p) ++ zeros k = ap zeros (let m : n ≡ length p + k = omega arith in m) ∙ sym (zeros-append (length p) k) in
    let o : over (zeros n) 0 p ≡ p ++ zeros k = over_middle (zeros n) [] (zeros (length p)) (zeros k) 0 e refl p (length-zeros (length p)) in
    let l : length (over (zeros n) 0 p) ≡ n = length_over (zeros n) 0 p ∙ length-zeros n in
    let s : p ++ zeros k ≡ to_inner n q
    = ap (λ (x : List ℕ). x ++ zeros k) (w.same ∙ laid (length p) z q w.short (omega arith))
    ∙ (append_assoc b (zeros z) (zeros k) ∙ (rw (zeros-append z k) (sym (laid n (z + k) q w.short (omega arith))))) in
    record { short = w.short; room = omega arith; same = o ∙ (s ∙ ap (λ (x : ℕ). to_inner x q) (sym l)) }

count-read : (c f : ℕ) (x m : List ℕ) → word16 ((front_is c f ++ x) ++ m) 2 ≡ c
unfolding word16 front_is bytes16 zeros
count-read c f x m = omega arith

first_read : (c f : ℕ) (x m : List ℕ) → word16 ((front_is c f ++ x) ++ m) 8 ≡ f
unfolding word16 front_is bytes16 zeros
first_read c f x m = omega arith

-- Parted --------------------------------------------------------------------------------------------------------------------
-- A page's bytes around a place i between two records.

pub record Parted (p : List ℕ) (f i : ℕ) (X Y : List (Sep ℕ)) : Type 0 where
  pub left : Short X
  pub right : Short Y
  pub size : length X ≡ i
  pub count : word16 p 2 ≡ i + length Y
  pub gap : ℕ
  pub long : length p ≡ 12 + 35 * word16 p 2 + gap
  pub bytes : p ≡ (front_is (word16 p 2) f ++ all X) ++ (all Y ++ zeros gap)
  pub here : length (front_is (word16 p 2) f ++ all X) ≡ 12 + 35 * i

joined : (n f z : ℕ) (X Y : List (Sep ℕ)) → (front_is n f ++ all (X ++ Y)) ++ zeros z ≡ (front_is n f ++ all X) ++ (all Y ++ zeros z)
joined n f z X Y =
    rw (gather_append record_bytes X Y) (ap (λ (l : List ℕ). l ++ zeros z) (sym (append_assoc (front_is n f) (all X) (all Y))) ∙ append_assoc (front_is n f ++ all X) (all Y) (zeros z))

pub parted : (p : List ℕ) (f i : ℕ) (X Y : List (Sep ℕ)) → length X ≡ i → Short X → Short Y → Is p (inner f (X ++ Y)) → Parted p f i X Y
parted p f i X Y e x y w =
    let m : length (X ++ Y) ≡ i + length Y = length-append X Y ∙ rw e in
    let z : ℕ = length p - (12 + 35 * (i + length Y)) in
    let h = w.room in
    let b : p ≡ (front_is (length (X ++ Y)) f ++ all X) ++ (all Y ++ zeros z)
    = w.same ∙ (laid (length p) z (inner f (X ++ Y)) w.short (omega arith) ∙ joined (length (X ++ Y)) f z X Y) in
    let c : word16 p 2 ≡ length (X ++ Y) = ap (λ (l : List ℕ). word16 l 2) b ∙ count-read (length (X ++ Y)) f (all X) (all Y ++ zeros z) in
    record {
      left = x;
      right = y;
      size = e;
      count = c ∙ m;
      gap = z;
      long = omega arith;
      bytes = b ∙ ap (λ (n : ℕ). (front_is n f ++ all X) ++ (all Y ++ zeros z)) (sym c);
      here = omega (arith, body-length (word16 p 2) f x);
    }

-- and back
pub whole : (p : List ℕ) (n f z : ℕ) (X Y : List (Sep ℕ)) → Short X → Short Y → n ≡ length X + length Y
    → p ≡ (front_is n f ++ all X) ++ (all Y ++ zeros z) → Is p (inner f (X ++ Y))
whole p n f z X Y x y m e =
    let k : n ≡ length (X ++ Y) = m ∙ sym (length-append X Y) in
    let s : Short (X ++ Y) = short-append x y in
    let b : p ≡ (front_is (length (X ++ Y)) f ++ all (X ++ Y)) ++ zeros z = e ∙ (sym (joined n f z X Y) ∙ rw k) in
    let l : 12 + 35 * length (X ++ Y) + z ≡ length p
    = sym (ap length b ∙ omega (arith, length-append (front_is (length (X ++ Y)) f ++ all (X ++ Y)) (zeros z), body-length (length (X ++ Y)) f s, length-zeros z)) in
    record { short = s; room = omega arith; same = b ∙ sym (laid (length p) z (inner f (X ++ Y)) s l) }

-- the record behind the place
pub behind : {p : List ℕ} {f i : ℕ} {X Y : List (Sep ℕ)} {s : Sep ℕ} → (v : Parted p f i X (s ∷ Y))
    → p ≡ (front_is (word16 p 2) f ++ all X) ++ (record_bytes s ++ (all Y ++ zeros v.gap))
behind {p} {f} {i} {X} {Y} {s} v = v.bytes ∙ rw (all_cons s Y, append_assoc (record_bytes s) (all Y) (zeros v.gap))

module _ (p : List ℕ) (q : InnerPage) (i : ℕ) (w : Is p q) where
  pub parted-at : i ≤ length q.rest → Parted p q.first i (take i q.rest) (drop i q.rest)
  parted-at h =
      parted p q.first i (take i q.rest) (drop i q.rest) (length-take-le i q.rest h) (short-take i w.short) (short-drop i w.short)
      (rw (take-append-drop i q.rest) w)

  pub parted-around : i < length q.rest → Parted p q.first i (take i q.rest) (get_or q.rest i no_sep ∷ drop (suc i) q.rest)
  parted-around h = rw (← drop-cons q.rest i no_sep h) (parted-at (omega arith))

pub count-is : {p : List ℕ} {q : InnerPage} → Is p q → word16 p 2 ≡ length q.rest
count-is {p} {q} w = (parted-at p q 0 w (omega arith)).count ∙ omega arith

pub first-is : {p : List ℕ} {q : InnerPage} → Is p q → word16 p 8 ≡ q.first
first-is {p} {q} w =
    let v = parted-at p q 0 w (omega arith) in
    ap (λ (l : List ℕ). word16 l 8) v.bytes ∙ first_read (word16 p 2) q.first (all (take 0 q.rest)) _
