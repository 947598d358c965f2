-- Inner pages read and written by their bytes.
use mathlib.Core.Path.{◌≡◌, refl, sym, ap, ◌∙◌}
use mathlib.Core.Bool.{Bool, true, false}
use mathlib.Core.List.{List, [], ◌∷◌, ◌++◌, map}
use Prim.Native.Nat.{ℕ, zero, suc, ◌+◌, ◌-◌, ◌*◌, ◌≤◌, ◌<◌, min}
use native.Mathlib.Numerals.{add-one}
use native.Mathlib.Omega.{arith}
use lib.ListN.{length, get_or, set, replicate}
use Rattle.octets.specs.Choice.{choose}
use Rattle.octets.specs.Runs.{over, part}
use Rattle.octets.specs.Numbers.{word16, bytes16}
use Rattle.octets.specs.Keys.{before}
use Rattle.octets.proofs.Choice.{choose-true, choose-false}
use Rattle.octets.proofs.Over.{over-all}
use Rattle.model.specs.Lists.{from}
use Rattle.model.specs.Types.{Sep}
use Rattle.model.specs.Sizes.{inner_most}
use Rattle.model.specs.Layouts.{record_of, of_inner}
use Rattle.page.specs.Inner.{child_of, key_of, place_in, Keyed, record_is}

-- Read ----------------------------------------------------------------------------------------------------------------------
-- A child and a key stand at the offset of their record.

pub child-first : (p : List ℕ) (place x : ℕ) → place ≡ 0 → x ≡ word16 p 8 → x ≡ child_of p place
unfolding child_of
child-first p place x e f = rw e f

pub child-later : (p : List ℕ) (place x : ℕ) → (place ≡ 0 → ⊥) → x ≡ word16 p (12 + 35 * (place - 1) + 1) → x ≡ child_of p place
unfolding child_of record_of
child-later p zero x n f = absurd (n refl)
child-later p (suc i) x n f = let e : suc i - 1 ≡ i = omega arith in f ∙ rw e

pub key-part : (p : List ℕ) (i n : ℕ) → n ≡ get_or p (12 + 35 * i) 0 → part p (12 + 35 * i + 3) (12 + 35 * i + 3 + n - (12 + 35 * i + 3)) ≡ (record_of p i).key
unfolding record_of
key-part p i n e = let q : 12 + 35 * i + 3 + n - (12 + 35 * i + 3) ≡ get_or p (12 + 35 * i) 0 = omega arith in rw q

pub key-value : (p b : List ℕ) (i n : ℕ) → b ≡ part p (12 + 35 * i + 3) (12 + 35 * i + 35 - (12 + 35 * i + 3)) → n ≡ get_or p (12 + 35 * i) 0 → n < 256
    → key_of p i b n
key-value p b i n e f l = let q : 12 + 35 * i + 35 - (12 + 35 * i + 3) ≡ 32 = omega arith in record { are = e ∙ rw q; long = f; byte = l }

-- Written -------------------------------------------------------------------------------------------------------------------
-- A record is its length, its child and its key, one behind the other.

pub record_made : (y q bytes : List ℕ) (len child : ℕ) → length bytes ≡ 32 → y ≡ over (set (replicate 35 0) 0 len) 1 (bytes16 child) → q ≡ over y 3 bytes
    → q ≡ record_is len child bytes
unfolding over bytes16 record_is
record_made y q bytes len child h e f =
    f ∙ (rw e (ap (λ (l : List ℕ). len ∷ bytes16 child ++ l) (over-all (replicate 32 0) bytes h)))

-- Searched ------------------------------------------------------------------------------------------------------------------
-- The search passes one separator at a time: what is left of it starts at the next.

unfoldable pub records : List ℕ → ℕ → ℕ → List (Sep ℕ)
records p i n = map (record_of p) (from i n)

pub records-all : (p : List ℕ) → word16 p 2 ≤ 14 → (of_inner p).rest ≡ records p 0 (word16 p 2)
unfolding of_inner records inner_most
records-all p h = let e : min 14 (word16 p 2) ≡ word16 p 2 = omega arith in rw e

pub records-none : (p : List ℕ) (i : ℕ) → records p i 0 ≡ []
unfolding records from
records-none p i = refl

pub records-more : (p : List ℕ) (i n : ℕ) → records p i (suc n) ≡ record_of p i ∷ records p (suc i) n
unfolding records from
records-more p i n = refl

-- what the search of a key still has to add at record i of c
pub record Sought (p key : List ℕ) (c i : ℕ) : Type 0 where
  pub left : place_in key (of_inner p).rest ≡ i + place_in key (records p i (c - i))

module _ (p key : List ℕ) (c : ℕ) (k : Keyed p) (n : c ≡ word16 p 2) where
  pub sought-start : Sought p key c 0
  sought-start =
      record { left = ap (place_in key) (records-all p k.few) ∙ (rw (← n) (let e : c - 0 ≡ c = omega arith in let z : 0 + place_in key (records p 0 c) ≡ place_in key (records p 0 c) = omega arith in rw (e, z))) }

  module _ (i : ℕ) (s : Sought p key c i) where
    pub sought_end : c ≤ i → i ≤ c → c ≡ place_in key (of_inner p).rest
    sought_end h l =
        let e : c - i ≡ 0 = omega arith in
        let z : place_in key (records p i (c - i)) ≡ 0 = rw (e, records-none p i) (unfold place_in in refl) in
        omega (arith, s.left)

    module _ (h : i < c) where
      stepped : place_in key (records p i (c - i)) ≡ choose (before key (record_of p i).key) 0 (suc (place_in key (records p (suc i) (c - suc i))))
      unfolding place_in
      stepped = let e : c - i ≡ suc (c - suc i) = omega arith in rw (e, records-more p i (c - suc i))

      module _ (r : Bool) (t : List ℕ) (q : t ≡ (record_of p i).key) (b : r ≡ before key t) where
        test : before key (record_of p i).key ≡ r
        test = sym (b ∙ ap (before key) q)

        pub sought-here : r ≡ true → i ≡ place_in key (of_inner p).rest
        sought-here e = omega (arith, s.left, stepped ∙ choose-true _ 0 (suc (place_in key (records p (suc i) (c - suc i)))) (test ∙ e))

        pub sought-on : r ≡ false → Sought p key c (i + 1)
        sought-on e =
            record { left = let w = stepped ∙ choose-false _ 0 (suc (place_in key (records p (suc i) (c - suc i)))) (test ∙ e) in rw add-one (omega (arith, s.left)) }
