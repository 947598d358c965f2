-- Each change of an inner page's bytes is a change of its records.
use mathlib.Core.Path.{◌≡◌, refl, sym, ap, ◌∙◌}
use mathlib.Core.List.{List, [], ◌∷◌, ◌++◌, append_assoc, append-nil}
use Prim.Native.Nat.{ℕ, suc, ◌+◌, ◌-◌, ◌*◌, ◌≤◌, ◌<◌}
use native.Mathlib.Omega.{arith}
use lib.ListN.{length, get_or, take, drop, length-append, length-drop, take-append-drop}
use lib.Seq.{length-take-le, take-length}
use Rattle.octets.specs.Runs.{over, part, zeros}
use Rattle.octets.specs.Numbers.{word16, bytes16}
use Rattle.octets.proofs.Over.{length_over, over-append, length-zeros, zeros-append}
use Rattle.model.specs.Lists.{gather}
use Rattle.model.specs.Types.{Sep}
use Rattle.model.specs.Layouts.{InnerPage, to_inner, record_bytes}
use Rattle.model.proofs.Lists.{gather_append}
use Rattle.page.specs.Inner.{front_is, Fits, Joins, Short, none-short, one-short, Is, inner, Inserts, Removes, Replaces, SetsFirst, Fills, Appends, no_sep}
use Rattle.page.proofs.Fronts.{rest-over}
use Rattle.page.proofs.InnerLaid.{part_middle, over_middle, over_touch, all, all_cons, all-length, record_length, short-head, short-tail, short-take, short-drop, front_length, to_padded, body-length, Parted, parted, whole, behind, parted-at, parted-around, count-is}

-- In front of the records and behind them -----------------------------------------------------------------------------------
-- A number of the front is written in its place, and the zeros behind give room.

set-count : (c f n : ℕ) (x m : List ℕ) → over ((front_is c f ++ x) ++ m) 2 (bytes16 n) ≡ (front_is n f ++ x) ++ m
unfolding over front_is bytes16 zeros
set-count c f n x m = refl

set-child : (c f x : ℕ) (m : List ℕ) → over ((front_is c f ++ []) ++ m) 8 (bytes16 x) ≡ (front_is c x ++ []) ++ m
unfolding over front_is bytes16 zeros
set-child c f x m = refl

-- so many of the zeros behind the records
zeros-parted : (x : List ℕ) (n z : ℕ) → n ≤ z → x ++ zeros z ≡ (x ++ zeros n) ++ zeros (z - n)
zeros-parted x n z h =
    let e : n + (z - n) ≡ z = omega arith in
    sym (append_assoc x (zeros n) (zeros (z - n)) ∙ rw (zeros-append n (z - n), e))

-- The bytes that a change leaves -----------------------------------------------------------------------------------------------

-- a record put in as record i of c + 1, and taken out as record i of c
unfoldable pub put_at : List ℕ → ℕ → ℕ → List ℕ → List ℕ
put_at p c i r = over (over (over p (12 + 35 * (i + 1)) (part p (12 + 35 * i) (35 * (c - i)))) (12 + 35 * i) r) 2 (bytes16 (c + 1))

unfoldable pub cut_at : List ℕ → ℕ → ℕ → List ℕ
cut_at p c i =
    over (over (over p (12 + 35 * i) (part p (12 + 35 * (i + 1)) (35 * (c - i - 1)))) (12 + 35 * (c - 1)) (zeros 35)) 2 (bytes16 (c - 1))

-- m records of another page written behind c
unfoldable pub add_at : List ℕ → ℕ → List ℕ → ℕ → List ℕ
add_at p c from m = over (over p (12 + 35 * c) (part from 12 (35 * m))) 2 (bytes16 (c + m))

-- Around a place ------------------------------------------------------------------------------------------------------------
-- What stands behind the place is written anew: with a record more in front, with one less, or with another.

module _ (p : List ℕ) (f i : ℕ) (X Y : List (Sep ℕ)) (s : Sep ℕ) where
  put_in_lem : (v : Parted p f i X Y) → 35 ≤ v.gap → length s.key ≤ 32 → Is (put_at p (word16 p 2) i (record_bytes s)) (inner f (X ++ (s ∷ Y)))
  unfolding put_at gather
  put_in_lem v g k =
      let c : ℕ = word16 p 2 in
      let A : List ℕ = front_is c f ++ all X in
      let r : List ℕ = record_bytes s in
      let lr = record_length s k in
      let ly = all-length v.right in
      let e1 : part p (12 + 35 * i) (35 * (c - i)) ≡ all Y
      = part_middle p A (all Y) (zeros v.gap) (12 + 35 * i) v.bytes v.here (35 * (c - i)) (omega (arith, v.count)) in
      let q : 12 + 35 * (i + 1) ≡ 12 + 35 * i + 35 = omega arith in
      let e2 : over (over p (12 + 35 * (i + 1)) (all Y)) (12 + 35 * i) r ≡ A ++ ((r ++ all Y) ++ zeros (v.gap - 35))
      = rw q (over_touch p (12 + 35 * i) 35 r (all Y) lr)
      ∙ over_middle p A (all Y ++ zeros 35) (zeros (v.gap - 35)) (12 + 35 * i) (v.bytes ∙ rw (zeros-parted (all Y) 35 v.gap g)) v.here (r ++ all Y)
      (omega (arith, length-append r (all Y), length-append (all Y) (zeros 35), length-zeros 35)) in
      whole _ (c + 1) f (v.gap - 35) X (s ∷ Y) v.left (one-short k v.right) (omega (arith, v.count, v.size))
      (rw (e1, e2) (set-count c f (c + 1) (all X) ((r ++ all Y) ++ zeros (v.gap - 35))))

  module _ (v : Parted p f i X (s ∷ Y)) where
    own : length (record_bytes s) ≡ 35
    own = record_length s (short-head v.right)

    cut_out : Is (cut_at p (word16 p 2) i) (inner f (X ++ Y))
    unfolding cut_at
    cut_out =
        let c : ℕ = word16 p 2 in
        let A : List ℕ = front_is c f ++ all X in
        let r : List ℕ = record_bytes s in
        let ly = all-length (short-tail v.right) in
        let n : length (all Y) ≡ 35 * (c - i - 1) = omega (arith, v.count) in
        let e1 : part p (12 + 35 * (i + 1)) (35 * (c - i - 1)) ≡ all Y
        = part_middle p (A ++ r) (all Y) (zeros v.gap) (12 + 35 * (i + 1)) (behind v ∙ sym (append_assoc A r (all Y ++ zeros v.gap)))
        (omega (arith, length-append A r, own, v.here)) (35 * (c - i - 1)) n in
        let q : 12 + 35 * (c - 1) ≡ 12 + 35 * i + length (all Y) = omega (arith, v.count) in
        let e2 : over (over p (12 + 35 * i) (all Y)) (12 + 35 * (c - 1)) (zeros 35) ≡ A ++ ((all Y ++ zeros 35) ++ zeros v.gap)
        = rw q (sym (over-append p (12 + 35 * i) (all Y) (zeros 35)))
        ∙ over_middle p A (r ++ all Y) (zeros v.gap) (12 + 35 * i) (v.bytes ∙ rw all_cons) v.here (all Y ++ zeros 35)
        (omega (arith, length-append r (all Y), length-append (all Y) (zeros 35), length-zeros 35, own)) in
        whole _ (c - 1) f (35 + v.gap) X Y v.left (short-tail v.right) (omega (arith, v.count, v.size))
        (rw (e1, e2) (set-count c f (c - 1) (all X) ((all Y ++ zeros 35) ++ zeros v.gap) ∙ rw (append_assoc (all Y) (zeros 35) (zeros v.gap), zeros-append)))

    put-over : (t : Sep ℕ) → length t.key ≤ 32 → Is (over p (12 + 35 * i) (record_bytes t)) (inner f (X ++ (t ∷ Y)))
    unfolding gather
    put-over t h =
        let A : List ℕ = front_is (word16 p 2) f ++ all X in
        whole _ (word16 p 2) f v.gap X (t ∷ Y) v.left (one-short h (short-tail v.right)) (omega (arith, v.count, v.size))
        (over_middle p A (record_bytes s) (all Y ++ zeros v.gap) (12 + 35 * i) (behind v) v.here (record_bytes t) (own ∙ sym (record_length t h))
        ∙ rw (append_assoc (record_bytes t) (all Y) (zeros v.gap)))

-- One page -----------------------------------------------------------------------------------------------------------------
-- The same of the bytes of any page that they are.

pub put_is : (p r : List ℕ) (c i : ℕ) (p' : List ℕ) → c ≡ word16 p 2 → Fits p (word16 p 2) i → p' ≡ put_at p c i r → Inserts p i r p'
unfolding Inserts
put_is p r c i p' n h e q s w k b =
    let v = parted-at p q i w (omega (arith, h.place, count-is w)) in
    rw (e, n, b) (put_in_lem p q.first i (take i q.rest) (drop i q.rest) s v (omega (arith, h.room, v.long)) k)

pub cut-is : (p : List ℕ) (c i : ℕ) (p' : List ℕ) → c ≡ word16 p 2 → i < word16 p 2 → p' ≡ cut_at p c i → Removes p i p'
unfolding Removes
cut-is p c i p' n h e q w =
    let v = parted-around p q i w (omega (arith, count-is w)) in
    rw (e, n) (cut_out p q.first i (take i q.rest) (drop (suc i) q.rest) (get_or q.rest i no_sep) v)

pub replace_is : (p r : List ℕ) (i : ℕ) (p' : List ℕ) → p' ≡ over p (12 + 35 * i) r → Replaces p i r p'
unfolding Replaces
replace_is p r i p' e q s w h k b =
    rw (e, b) (put-over p q.first i (take i q.rest) (drop (suc i) q.rest) (get_or q.rest i no_sep) (parted-around p q i w h) s k)

pub first-set : (p : List ℕ) (child : ℕ) (p' : List ℕ) → p' ≡ over p 8 (bytes16 child) → SetsFirst p child p'
unfolding SetsFirst gather
first-set p child p' e q w =
    let v = parted-at p q 0 w (omega arith) in
    whole p' (word16 p 2) child v.gap [] q.rest none-short w.short v.count
    (e ∙ (ap (λ (l : List ℕ). over l 8 (bytes16 child)) v.bytes ∙ set-child (word16 p 2) q.first child (all q.rest ++ zeros v.gap)))

-- Records of another page ----------------------------------------------------------------------------------------------------
-- They are copied as they stand: n of them from record a on.

records-part : (p : List ℕ) (q : InnerPage) (a n : ℕ) → Is p q → a + n ≤ length q.rest → part p (12 + 35 * a) (35 * n) ≡ all (take n (drop a q.rest))
records-part p q a n w h =
    let v = parted-at p q a w (omega arith) in
    let Y : List (Sep ℕ) = drop a q.rest in
    let l : length (take n Y) ≡ n = length-take-le n Y (omega (arith, length-drop a q.rest)) in
    let s : all Y ≡ all (take n Y) ++ all (drop n Y) = ap all (sym (take-append-drop n Y)) ∙ gather_append record_bytes (take n Y) (drop n Y) in
    part_middle p (front_is (word16 p 2) q.first ++ all (take a q.rest)) (all (take n Y)) (all (drop n Y) ++ zeros v.gap) (12 + 35 * a)
    (v.bytes ∙ rw (s, append_assoc (all (take n Y)) (all (drop n Y)) (zeros v.gap))) v.here (35 * n) (omega (arith, all-length (short-take n v.right)))

-- a front and records in front of cleared bytes
filled : (p : List ℕ) (f n : ℕ) (R : List (Sep ℕ)) → n ≡ length R → Short R → 12 + 35 * n ≤ length p
    → over (over (over p (12 + 35 * n) (zeros (length p - (12 + 35 * n)))) 0 (front_is n f)) 12 (all R) ≡ to_inner (length p) (inner f R)
filled p f n R e s room =
    let z : List ℕ = over p (12 + 35 * n) (zeros (length p - (12 + 35 * n))) in
    let g : 12 ≡ 0 + length (front_is n f) = omega (arith, front_length n f) in
    ap (λ (k : ℕ). over (over z 0 (front_is n f)) k (all R)) g
    ∙ (sym (over-append z 0 (front_is n f) (all R))
    ∙ (rest-over p (front_is n f ++ all R) (12 + 35 * n) (omega (arith, body-length n f s)) room ∙ (rw e (sym (to_padded (length p) (inner f R))))))

pub fill_is : (p z b y p' from : List ℕ) (f a n : ℕ) → 12 + 35 * n ≤ length p → z ≡ over p (12 + 35 * n) (zeros (length p - (12 + 35 * n)))
    → b ≡ front_is n f → y ≡ over z 0 b → p' ≡ over y 12 (part from (12 + 35 * a) (12 + 35 * a + 35 * n - (12 + 35 * a))) → Fills from f a n p'
unfolding Fills
fill_is p z b y p' from f a n room e1 e2 e3 e4 q w h =
    let R : List (Sep ℕ) = take n (drop a q.rest) in
    let s : Short R = short-take n (short-drop a w.short) in
    let k : length R ≡ n = length-take-le n (drop a q.rest) (omega (arith, length-drop a q.rest)) in
    let d : 12 + 35 * a + 35 * n - (12 + 35 * a) ≡ 35 * n = omega arith in
    let o : p' ≡ to_inner (length p) (inner f R) = e4 ∙ rw (e3, e2, e1, d, records-part from q a n w h) (filled p f n R (sym k) s room) in
    let m : length p' ≡ length p = rw (e4, e3, e1, length_over, length_over) (length_over _ _ _) in
    record { short = s; room = omega arith; same = rw m o }

pub add_is : (p from : List ℕ) (c m : ℕ) (p' : List ℕ) → c ≡ word16 p 2 → m ≡ word16 from 2 → Joins p from → p' ≡ add_at p c from m → Appends p from p'
unfolding Appends add_at gather
add_is p from c m p' ec em j e q r w u =
    let X = q.rest in
    let R = r.rest in
    let v = parted p q.first (length X) X [] refl w.short none-short (rw (append-nil X) w) in
    let A : List ℕ = front_is (word16 p 2) q.first ++ all X in
    let at : 12 + 35 * c ≡ 12 + 35 * length X = omega (arith, count-is w) in
    let n : m ≡ length R = em ∙ count-is u in
    let b : part from 12 (35 * m) ≡ all R = rw n (records-part from r 0 (length R) u (omega arith) ∙ ap all (take-length R)) in
    let l : length (all R) ≡ 35 * m = omega (arith, all-length u.short) in
    let z : zeros v.gap ≡ zeros (35 * m) ++ zeros (v.gap - 35 * m) = zeros-parted [] (35 * m) v.gap (omega (arith, v.long, j.room)) in
    let o : over p (12 + 35 * c) (all R) ≡ A ++ (all R ++ zeros (v.gap - 35 * m))
    = rw at (over_middle p A (zeros (35 * m)) (zeros (v.gap - 35 * m)) (12 + 35 * length X) (v.bytes ∙ rw z) v.here (all R) (length-zeros (35 * m) ∙ sym l)) in
    whole p' (c + m) q.first (v.gap - 35 * m) X R w.short u.short (omega (arith, count-is w))
    (e ∙ rw (b, o) (set-count (word16 p 2) q.first (c + m) (all X) (all R ++ zeros (v.gap - 35 * m))))
