-- What is read of an inner page's bytes is what the page holds, so its bytes determine it.
use mathlib.Core.Path.{◌≡◌, refl, sym, ap, ◌∙◌}
use mathlib.Core.List.{List, [], ◌∷◌, ◌++◌, append_assoc}
use Prim.Native.Nat.{ℕ, suc, ◌+◌, ◌-◌, ◌*◌, ◌≤◌, ◌<◌}
use native.Mathlib.Nat.{add-zero, zero-add}
use native.Mathlib.Omega.{arith}
use lib.ListN.{length, get_or, take, length-append}
use lib.Seq.{take_at, ext_get_or, get_or-append-add, get_or-append_seam}
use Rattle.octets.specs.Runs.{part, zeros}
use Rattle.octets.specs.Numbers.{word16, bytes16}
use Rattle.octets.proofs.Part.{part-append-right}
use Rattle.octets.proofs.Words.{word16-append-right}
use Rattle.model.specs.Lists.{pad}
use Rattle.model.specs.Types.{Sep}
use Rattle.model.specs.Sizes.{key_most}
use Rattle.model.specs.Layouts.{InnerPage, of_inner, record_of, record_bytes}
use Rattle.model.proofs.Lists.{length-pad}
use Rattle.page.specs.Inner.{child_of, KeyIn, key_of, place_in, Keyed, record_is, front_is, Is, inner, no_sep}
use Rattle.page.proofs.InnerPages.{records, records-all, records-none, records-more}
use Rattle.page.proofs.InnerLaid.{part_middle, record_length, all, Parted, behind, parted-around, short-head, count-is, first-is}

-- A record ------------------------------------------------------------------------------------------------------------------
-- Its length, child and key stand behind the records before it.

length_front : (s : Sep ℕ) (t : List ℕ) → get_or (record_bytes s ++ t) 0 0 ≡ length s.key
unfolding record_bytes
length_front s t = refl

child-front : (s : Sep ℕ) (t : List ℕ) → word16 (record_bytes s ++ t) 1 ≡ s.child
unfolding record_bytes word16 bytes16
child-front s t = omega arith

padded_front : (s : Sep ℕ) (t : List ℕ) → length s.key ≤ 32 → part (record_bytes s ++ t) 3 32 ≡ pad key_most s.key
unfolding record_bytes part bytes16 key_most
padded_front s t h = take_at (pad 32 s.key) t 32 (length-pad 32 s.key h)

key-front : (s : Sep ℕ) (t : List ℕ) → part (record_bytes s ++ t) 3 (length s.key) ≡ s.key
unfolding record_bytes part bytes16 pad
key-front s t = ap (take (length s.key)) (append_assoc s.key (zeros (key_most - length s.key)) t) ∙ take_at s.key _ (length s.key) refl

module _ {p : List ℕ} {f i : ℕ} {X Y : List (Sep ℕ)} {s : Sep ℕ} (v : Parted p f i X (s ∷ Y)) where
  pub length-here : get_or p (12 + 35 * i) 0 ≡ length s.key
  length-here =
      let A : List ℕ = front_is (word16 p 2) f ++ all X in
      let T : List ℕ = all Y ++ zeros v.gap in
      let e : 12 + 35 * i ≡ length A + 0 = omega (arith, v.here) in
      ap (λ (l : List ℕ). get_or l (12 + 35 * i) 0) (behind v) ∙ rw e (get_or-append-add A (record_bytes s ++ T) 0 0 ∙ length_front s T)

  child-here : word16 p (12 + 35 * i + 1) ≡ s.child
  child-here =
      ap (λ (l : List ℕ). word16 l (12 + 35 * i + 1)) (behind v)
      ∙ (word16-append-right (front_is (word16 p 2) f ++ all X) (record_bytes s ++ (all Y ++ zeros v.gap)) (12 + 35 * i) 1 v.here ∙ child-front s _)

  key_here : (n : ℕ) → part p (12 + 35 * i + 3) n ≡ part (record_bytes s ++ (all Y ++ zeros v.gap)) 3 n
  key_here n =
      ap (λ (l : List ℕ). part l (12 + 35 * i + 3) n) (behind v)
      ∙ part-append-right (front_is (word16 p 2) f ++ all X) (record_bytes s ++ (all Y ++ zeros v.gap)) (12 + 35 * i) 3 n v.here

  pub record_here : record_of p i ≡ s
  unfolding record_of
  record_here =
      let k : part p (12 + 35 * i + 3) (get_or p (12 + 35 * i) 0) ≡ s.key = rw length-here (key_here (length s.key) ∙ key-front s _) in
      rw (k, child-here)

  pub bytes-here : part p (12 + 35 * i) 35 ≡ record_bytes s
  bytes-here =
      part_middle p (front_is (word16 p 2) f ++ all X) (record_bytes s) (all Y ++ zeros v.gap) (12 + 35 * i) (behind v) v.here 35
      (record_length s (short-head v.right))

  pub padded_here : part p (12 + 35 * i + 3) 32 ≡ pad key_most s.key
  padded_here = key_here 32 ∙ padded_front s _ (short-head v.right)

-- The page ------------------------------------------------------------------------------------------------------------------
-- Its numbers, its records and its children, by the bytes that the code reads.

module _ (p : List ℕ) (q : InnerPage) (w : Is p q) where
  pub record_is_lem : (i : ℕ) → i < length q.rest → record_of p i ≡ get_or q.rest i no_sep
  record_is_lem i h = record_here (parted-around p q i w h)

  -- a record that comes up or down with another child
  pub record_again : (i child : ℕ) → i < length q.rest → (b : List ℕ) (n : ℕ) → key_of p i b n
      → record_is n child b ≡ record_bytes (record { key = (get_or q.rest i no_sep).key; child = child })
  unfolding record_is record_bytes
  record_again i child h b n k =
      let v = parted-around p q i w h in
      rw (k.are, k.long, length-here v, padded_here v)

  pub keyed_is : length q.rest ≤ 14 → 12 + 35 * 14 ≤ length p → Keyed p
  keyed_is h l =
      record {
        few = rw (count-is w) h;
        long = l;
        keys = λ i k. let v = parted-around p q i w (omega (arith, count-is w)) in omega (arith, length-here v, short-head v.right);
      }

  pub key_in : (i : ℕ) → i < length q.rest → KeyIn p i
  key_in i h = let v = parted-around p q i w h in record { inside = omega (arith, length-here v, short-head v.right, w.room) }

  pub child-first-is : child_of p 0 ≡ q.first
  unfolding child_of
  child-first-is = first-is w

  pub child-is : (i : ℕ) → i < length q.rest → child_of p (suc i) ≡ (get_or q.rest i no_sep).child
  unfolding child_of
  child-is i h = ap (λ (s : Sep ℕ). s.child) (record_is_lem i h)

-- the record of a key from elsewhere
pub record_fresh : (k : List ℕ) (child : ℕ) → record_is (length k) child (pad key_most k) ≡ record_bytes (record { key = k; child = child })
unfolding record_is record_bytes
record_fresh k child = refl

-- a record between others, and its child
pub record_between : (p : List ℕ) (f : ℕ) (X : List (Sep ℕ)) (s : Sep ℕ) (Y : List (Sep ℕ)) → Is p (inner f (X ++ (s ∷ Y))) → record_of p (length X) ≡ s
record_between p f X s Y w =
    record_is_lem p (inner f (X ++ (s ∷ Y))) w (length X) (omega (arith, length-append X (s ∷ Y))) ∙ get_or-append_seam X s Y no_sep

pub child-between : (p : List ℕ) (f : ℕ) (X : List (Sep ℕ)) (s : Sep ℕ) (Y : List (Sep ℕ)) → Is p (inner f (X ++ (s ∷ Y)))
    → child_of p (suc (length X)) ≡ s.child
unfolding child_of
child-between p f X s Y w = ap (λ (r : Sep ℕ). r.child) (record_between p f X s Y w)

-- The whole -----------------------------------------------------------------------------------------------------------------
-- The reading of the bytes is the page, and no other page has the same.

inner-same : (f g : ℕ) (X Y : List (Sep ℕ)) → f ≡ g → X ≡ Y → inner f X ≡ inner g Y
inner-same f g X Y e k = rw (e, k)

pub is_unique : (p : List ℕ) (q q' : InnerPage) → Is p q → Is p q' → q ≡ q'
is_unique p q q' w u =
    let n : length q.rest ≡ length q'.rest = sym (count-is w) ∙ count-is u in
    inner-same q.first q'.first q.rest q'.rest (sym (first-is w) ∙ first-is u)
    (ext_get_or no_sep q.rest q'.rest n (λ i h. sym (record_is_lem p q w i h) ∙ record_is_lem p q' u i (omega arith)))

records-are : (p : List ℕ) (i : ℕ) (ss : List (Sep ℕ)) → ((k : ℕ) → k < length ss → record_of p (i + k) ≡ get_or ss k no_sep) → records p i (length ss) ≡ ss
records-are p i [] f = records-none p i
records-are p i (s ∷ ss) f =
    records-more p i (length ss)
    ∙ rw (
      ap (record_of p) (sym (add-zero i)) ∙ f 0 (omega arith),
      records-are p (suc i) ss (λ k h. let e : suc i + k ≡ i + suc k = omega arith in rw e (f (suc k) (omega arith))),
    )

pub own_is : (p : List ℕ) (q : InnerPage) → Is p q → length q.rest ≤ 14 → of_inner p ≡ q
unfolding of_inner
own_is p q w h =
    inner-same _ q.first _ q.rest (first-is w)
    (records-all p (rw (count-is w) h) ∙ rw (count-is w) (records-are p 0 q.rest (λ k l. rw (zero-add k) (record_is_lem p q w k l))))

pub place_is : (p : List ℕ) (q : InnerPage) (key : List ℕ) → Is p q → length q.rest ≤ 14 → place_in key (of_inner p).rest ≡ place_in key q.rest
place_is p q key w h = ap (λ (r : InnerPage). place_in key r.rest) (own_is p q w h)
