-- An inner page by itself: it is its own re-encoding exactly if its front and its records are and zeros stand behind them.
use mathlib.Core.Path.{◌≡◌, sym, ap, ◌∙◌}
use mathlib.Core.Bool.{Bool, true, and-eq-true_iff}
use mathlib.Core.List.{List, [], ◌∷◌, ◌++◌, append_assoc, map}
use Prim.Native.Nat.{ℕ, zero, suc, ◌+◌, ◌-◌, ◌*◌, ◌≤◌, ◌<◌}
use native.Mathlib.Nat.{add-zero, zero-add}
use native.Mathlib.Omega.{arith}
use lib.ListN.{length, get_or, length-map}
use Rattle.octets.specs.Says.{Says}
use Rattle.octets.specs.Runs.{part, zeros}
use Rattle.octets.specs.Numbers.{word16}
use Rattle.octets.specs.Keys.{before}
use Rattle.octets.proofs.Flags.{says_map}
use Rattle.octets.proofs.Part.{part-add, part_none, part_length, part-first}
use Rattle.model.specs.Lists.{gather, pad, every, from}
use Rattle.model.specs.Types.{Sep}
use Rattle.model.specs.Sizes.{key_most, inner_most}
use Rattle.model.specs.Layouts.{InnerPage, to_inner, of_inner, record_of, record_bytes}
use Rattle.model.specs.Accept.{key_fits, rising}
use Rattle.model.proofs.Tests.{between_iff}
use Rattle.model.proofs.Lists.{length_from}
use Rattle.page.specs.Inner.{front_is, Short, none-short, one-short, Is, inner, key_before, FrontBytes, AllRanked, InnerBytes}
use Rattle.page.proofs.Fronts.{pad-of, pad-rest}
use Rattle.page.proofs.InnerPages.{records, records-all, records-none, records-more}
use Rattle.page.proofs.InnerLaid.{all, front_length, to_padded, body-length, short-head, count-is, parted-at, parted-around}
use Rattle.page.proofs.InnerReads.{length-here, record_here, bytes-here, own_is}
use Rattle.page.proofs.InnerOrder.{keys-fit, keys-rise, rise-above}

-- Records -------------------------------------------------------------------------------------------------------------------
-- One behind the other they are the bytes that they were read from.

records-bytes : (p : List ℕ) (i n : ℕ) → ((k : ℕ) → k < n → part p (12 + 35 * (i + k)) 35 ≡ record_bytes (record_of p (i + k)))
    → part p (12 + 35 * i) (35 * n) ≡ all (records p i n)
unfolding gather
records-bytes p i zero f = rw (records-none p i) (part_none p (12 + 35 * i))
records-bytes p i (suc n) f =
    let x : 35 * suc n ≡ 35 + 35 * n = omega arith in
    let y : 12 + 35 * i + 35 ≡ 12 + 35 * suc i = omega arith in
    rw (
      x,
      part-add p (12 + 35 * i) 35 (35 * n),
      y,
      rw add-zero at (f 0 (omega arith)),
      records-more p i n,
      records-bytes p (suc i) n (λ k h. let e : suc i + k ≡ i + suc k = omega arith in rw e (f (suc k) (omega arith))),
    )

records-short : (p : List ℕ) (i n : ℕ) → ((k : ℕ) → k < n → length (record_of p (i + k)).key ≤ 32) → Short (records p i n)
records-short p i zero f = rw (records-none p i) none-short
records-short p i (suc n) f =
    rw (records-more p i n) (one-short (rw add-zero at (f 0 (omega arith)))
    (records-short p (suc i) n (λ k h. let e : suc i + k ≡ i + suc k = omega arith in rw e (f (suc k) (omega arith)))))

records-length : (p : List ℕ) (i n : ℕ) → length (records p i n) ≡ n
unfolding records
records-length p i n = length-map (from i n) (record_of p) ∙ length_from i n

own-page : (p : List ℕ) → word16 p 2 ≤ 14 → of_inner p ≡ inner (word16 p 8) (records p 0 (word16 p 2))
unfolding of_inner
own-page p h = ap (inner (word16 p 8)) (records-all p h)

fits-short : (ss : List (Sep ℕ)) → every (λ s. key_fits s.key) ss ≡ true → Short ss
unfolding every key_fits key_most
fits-short [] t = none-short
fits-short (s ∷ ss) t =
    let k = simp and-eq-true_iff at t in
    one-short ((between_iff 1 32 _).0 k.0).1 (fits-short ss k.1)

-- The page ------------------------------------------------------------------------------------------------------------------
-- What follows the rule has a right front and right records, and what has these follows it if zeros stand behind them.

module _ (p : List ℕ) (long : 12 + 35 * 14 ≤ length p) where
  own-count : word16 p 2 ≤ 14 → length (of_inner p).rest ≡ word16 p 2
  own-count h = ap length (records-all p h) ∙ records-length p 0 (word16 p 2)

  pub rule_few : InnerBytes p → word16 p 2 ≤ 14
  unfolding inner_most
  rule_few k = k.few

  -- it is the page that it is read as
  pub rule_is : InnerBytes p → Is p (of_inner p)
  rule_is k = record { short = fits-short _ k.keys; room = omega (arith, own-count (rule_few k), rule_few k); same = k.same }

  pub rule_front : InnerBytes p → FrontBytes p
  unfolding of_inner gather
  rule_front k =
      let v = parted-at p (of_inner p) 0 (rule_is k) (omega arith) in
      let F : List ℕ = front_is (word16 p 2) (word16 p 8) in
      record { same = ap (λ (l : List ℕ). part l 0 12) (v.bytes ∙ append_assoc F [] _) ∙ part-first F _ 12 (front_length (word16 p 2) (word16 p 8)) }

  pub rule_ranked : InnerBytes p → AllRanked p (word16 p 2)
  unfolding key_most
  rule_ranked k i h =
      let v = parted-around p (of_inner p) i (rule_is k) (omega (arith, own-count (rule_few k))) in
      let own = records-all p (rule_few k) in
      record {
        one = record {
          short = omega (arith, length-here v, short-head v.right);
          same = bytes-here v ∙ ap record_bytes (sym (record_here v));
        };
        above = rise-above p (word16 p 2) (rw own at k.keys) (rw own at k.order) i h;
      }

  module _ (f : FrontBytes p) (few : word16 p 2 ≤ 14) (a : AllRanked p (word16 p 2)) where
    key-short : (i : ℕ) → i < word16 p 2 → length (record_of p i).key ≤ 32
    unfolding record_of key_most
    key-short i h = let s = (a i h).one.short in omega (arith, part_length p (12 + 35 * i + 3) (get_or p (12 + 35 * i) 0) (omega arith))

    body : List ℕ
    body = front_is (word16 p 2) (word16 p 8) ++ all (records p 0 (word16 p 2))

    size : length body ≡ 12 + 35 * word16 p 2
    unfolding body
    size =
        let s : Short (records p 0 (word16 p 2)) = records-short p 0 (word16 p 2) (λ i h. rw zero-add (key-short i h)) in
        omega (arith, body-length (word16 p 2) (word16 p 8) s, records-length p 0 (word16 p 2))

    to-body : to_inner (length p) (of_inner p) ≡ pad (length p) body
    unfolding body
    to-body = ap (to_inner (length p)) (own-page p few) ∙ (to_padded (length p) (inner (word16 p 8) (records p 0 (word16 p 2))) ∙ rw (records-length p 0 (word16 p 2)))

    front-body : part p 0 (12 + 35 * word16 p 2) ≡ body
    unfolding body
    front-body = part-add p 0 12 (35 * word16 p 2) ∙ rw (f.same, records-bytes p 0 (word16 p 2) (λ i h. rw zero-add (a i h).one.same))

    rule_by : (r : Bool)
        → Says r (part p (12 + 35 * word16 p 2) (length p - (12 + 35 * word16 p 2)) ≡ zeros (length (part p (12 + 35 * word16 p 2) (length p - (12 + 35 * word16 p 2)))))
        → Says r (InnerBytes p)
    unfolding inner_most
    rule_by r s =
        let own = records-all p few in
        let above : (i : ℕ) → i < word16 p 2 → before (key_before p i) (record_of p i).key ≡ true = λ i h. (a i h).above in
        let c : ℕ = word16 p 2 in
        says_map s
        (λ z. record {
          few = few;
          keys = rw own (keys-fit p c key-short above);
          order = rw own (keys-rise p c above);
          same = pad-of p body (12 + 35 * c) size (omega arith) front-body z ∙ sym to-body;
        })
        (λ k. pad-rest p body (12 + 35 * c) size (omega arith) (k.same ∙ to-body))

  pub rule_says : (r : Bool) (c : ℕ) → FrontBytes p → c ≡ word16 p 2 → c ≤ 14 → AllRanked p c
      → Says r (part p (12 + 35 * c) (length p - (12 + 35 * c)) ≡ zeros (length (part p (12 + 35 * c) (length p - (12 + 35 * c))))) → Says r (InnerBytes p)
  rule_says r c f e few a s = rule_by f (omega arith) (rw e at a) r (rw e at s)

-- the bytes of a page whose keys fit and rise follow the rule
pub rule_of : (p : List ℕ) (q : InnerPage) → Is p q → length q.rest ≤ 14 → every (λ s. key_fits s.key) q.rest ≡ true
    → rising (map (λ (s : Sep ℕ). s.key) q.rest) ≡ true → InnerBytes p
unfolding inner_most
rule_of p q w h k o =
    let e = own_is p q w h in
    record { few = rw (count-is w) h; keys = rw e k; order = rw e o; same = rw e w.same }
