-- Each number of a page stands at a place of its own, so a page that is written is read back: the header, a free page, an overflow page, an inner page.
use mathlib.Core.Path.{◌≡◌, refl, sym, ◌∙◌}
use mathlib.Core.List.{List, ◌++◌, map, append_assoc}
use Prim.Native.Nat.{ℕ, suc, ◌+◌, ◌*◌, ◌-◌, ◌≤◌, min}
use native.Mathlib.Nat.{add-zero}
use native.Mathlib.Omega.{arith}
use lib.ListN.{length, get_or, take, drop, length-append}
use lib.Seq.{drop_at, drop-drop, get_or-drop, take-append_seam}
use Rattle.octets.specs.Runs.{part, zeros}
use Rattle.octets.specs.Numbers.{word16, word32, bytes16, bytes32}
use Rattle.model.specs.Lists.{gather, from, pad}
use Rattle.model.specs.Types.{Sep}
use Rattle.model.specs.Sizes.{key_most, inner_most}
use Rattle.model.specs.Layouts.{HeadPage, InnerPage, OverPage, to_head, of_head, to_free, of_free, to_over, of_over, record_bytes, to_inner, record_of, of_inner}
use Rattle.model.proofs.Each.{All, nil, cons}
use Rattle.model.proofs.Lists.{length-pad, Reads, none, one, map-from}
use Rattle.laws_image.proofs.Sundry.{word16-drop}

-- ---- header

head_reads : (L : ℕ) (q : HeadPage) → let p = to_head L q in
    (word16 p 0 ≡ q.n) × ((word16 p 2 ≡ q.root) × ((word16 p 4 ≡ q.height) × ((word16 p 6 ≡ q.free)
    × ((word32 p 8 ≡ q.count) × (word16 p 12 ≡ q.edition)))))
unfolding to_head pad bytes16 bytes32 word16 word32
head_reads L q = (omega arith, (omega arith, (omega arith, (omega arith, (omega arith, omega arith)))))

pub of_head-to_head : (L : ℕ) (q : HeadPage) → of_head (to_head L q) ≡ q
unfolding of_head
of_head-to_head L q =
    let r = head_reads L q in
    let a = r.0 in
    let b = r.1.0 in
    let c = r.1.1.0 in
    let d = r.1.1.1.0 in
    let e = r.1.1.1.1.0 in
    let f = r.1.1.1.1.1 in
    λ i. record { n = a i; root = b i; height = c i; free = d i; count = e i; edition = f i }

pub length-to_head : (L : ℕ) (q : HeadPage) → 14 ≤ L → length (to_head L q) ≡ L
unfolding to_head bytes16 bytes32
length-to_head L q h = length-pad L _ (omega arith)

-- ---- free page

pub of_free-to_free : (L next : ℕ) → of_free (to_free L next) ≡ next
unfolding of_free to_free pad bytes16 word16
of_free-to_free L next = omega arith

pub length-to_free : (L next : ℕ) → 4 ≤ L → length (to_free L next) ≡ L
unfolding to_free bytes16
length-to_free L next h = length-pad L _ (omega arith)

-- ---- overflow page
-- The payload is the bytes after the first eight, as many as the page says that it holds.

over_reads : (L : ℕ) (q : OverPage) → let p = to_over L q in
    (word16 p 2 ≡ q.next) × ((word16 p 4 ≡ length q.held) × ((z : List ℕ) × (drop 8 p ≡ q.held ++ z)))
unfolding to_over pad bytes16 word16
over_reads L q = (omega arith, (omega arith, (_, refl)))

pub of_over-to_over : (L : ℕ) (q : OverPage) → of_over (to_over L q) ≡ q
unfolding of_over part
of_over-to_over L q =
    let r = over_reads L q in
    let a = r.0 in
    let b : take (word16 (to_over L q) 4) (drop 8 (to_over L q)) ≡ q.held = rw (r.1.0, r.1.1.1) (take-append_seam q.held _) in
    λ i. record { next = a i; held = b i }

pub length-to_over : (L : ℕ) (q : OverPage) → 8 + length q.held ≤ L → length (to_over L q) ≡ L
unfolding to_over bytes16
length-to_over L q h = length-pad L _ (omega arith)

-- ---- inner page
-- Every record has the same length, whatever its key, so record i stands at its place.

abbrev pub ShortKeys : List (Sep ℕ) → Type 0
ShortKeys ss = All (λ s. length s.key ≤ key_most) ss

-- a record at an offset
module _ (page : List ℕ) (o : ℕ) (s : Sep ℕ) (rest : List ℕ) (stands : drop o page ≡ record_bytes s ++ rest) (short : length s.key ≤ key_most) where
  record_size : get_or page o 0 ≡ length s.key
  unfolding record_bytes
  record_size = (rw add-zero at (sym (get_or-drop o page 0 0))) ∙ rw stands

  record_child : word16 page (o + 1) ≡ s.child
  unfolding record_bytes bytes16 word16
  record_child = sym (word16-drop page o 1) ∙ rw stands (omega arith)

  record_body : drop (o + 3) page ≡ pad key_most s.key ++ rest
  unfolding record_bytes bytes16
  record_body = sym (drop-drop 3 o page) ∙ rw stands

  record_key : part page (o + 3) (get_or page o 0) ≡ s.key
  unfolding part pad
  record_key = rw (record_size, record_body, append_assoc s.key (zeros (key_most - length s.key)) rest) (take-append_seam s.key _)

  record_rest : drop (o + 35) page ≡ rest
  unfolding key_most
  record_rest =
      let k : o + 3 + 32 ≡ o + 35 = omega arith in
      (rw k at (sym (drop-drop 32 (o + 3) page))) ∙ rw record_body (drop_at (pad 32 s.key) rest 32 (length-pad 32 s.key short))

records-read : (page : List ℕ) (i : ℕ) {ss : List (Sep ℕ)} (rest : List ℕ) → ShortKeys ss → drop (12 + 35 * i) page ≡ gather record_bytes ss ++ rest
    → Reads (record_of page) i ss
unfolding gather record_of
records-read page i rest nil e = none
records-read page i rest (cons {x = s} {xs = ss} k ks) e =
    let tail : List ℕ = gather record_bytes ss ++ rest in
    let o : ℕ = 12 + 35 * i in
    let f : drop o page ≡ record_bytes s ++ tail = e ∙ append_assoc (record_bytes s) _ rest in
    let n : 12 + 35 * i + 35 ≡ 12 + 35 * suc i = omega arith in
    let a = record_key page o s tail f k in
    let b = record_child page o s tail f k in
    one {i = i} {x = s} (λ j. record { key = a j; child = b j }) (records-read page (suc i) rest ks (rw n at (record_rest page o s tail f k)))

inner_reads : (L : ℕ) (q : InnerPage) → let p = to_inner L q in
    (word16 p 2 ≡ length q.rest) × ((word16 p 8 ≡ q.first) × ((z : List ℕ) × (drop 12 p ≡ gather record_bytes q.rest ++ z)))
unfolding to_inner pad zeros bytes16 word16
inner_reads L q = (omega arith, (omega arith, (_, refl)))

pub of_inner-to_inner : (L : ℕ) (q : InnerPage) → ShortKeys q.rest → length q.rest ≤ inner_most → of_inner (to_inner L q) ≡ q
unfolding of_inner
of_inner-to_inner L q short few =
    let p : List ℕ = to_inner L q in
    let r = inner_reads L q in
    let c : min inner_most (word16 p 2) ≡ length q.rest = omega (arith, r.0) in
    let e : map (record_of p) (from 0 (min inner_most (word16 p 2))) ≡ q.rest = rw c (map-from (records-read p 0 r.1.1.0 short r.1.1.1)) in
    let f = r.1.0 in
    λ i. record { first = f i; rest = e i }

pub length-record_bytes : (s : Sep ℕ) → length s.key ≤ key_most → length (record_bytes s) ≡ 35
unfolding record_bytes bytes16 key_most
length-record_bytes s h = let e : length (pad 32 s.key) ≡ 32 = length-pad 32 s.key h in omega arith

pub length-records : {ss : List (Sep ℕ)} → ShortKeys ss → length (gather record_bytes ss) ≡ 35 * length ss
unfolding gather
length-records nil = refl
length-records (cons {x = s} {xs = ss} k ks) = omega (arith, length-append (record_bytes s) (gather record_bytes ss), length-record_bytes s k, length-records ks)

pub length-to_inner : (L : ℕ) (q : InnerPage) → ShortKeys q.rest → 12 + 35 * length q.rest ≤ L → length (to_inner L q) ≡ L
unfolding to_inner bytes16 zeros
length-to_inner L q short h = length-pad L _ (omega (arith, length-records short))
