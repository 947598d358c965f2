-- A search by halves: the keys below the low end are below the key, and those from the high end on are above it.
use Rattle.std.proofs.Common.{◌≡◌, sym, ◌∙◌, true, List, ℕ, ◌+◌, ◌≤◌, ◌<◌, arith}
use native.Mathlib.Decide.{dec_le}
use Rattle.std.specs.declared.cmp.Ordering.{Ordering}
use Rattle.std.specs.declared.cmp.Ordering.TheVariants.{Less, Equal, Greater}
use Rattle.octets.specs.Numbers.{word16}
use Rattle.octets.specs.Keys.{compare_keys, before}
use Rattle.octets.proofs.Order.{≺_trans, less→≺, order_eq, greater→≻, before→≺, ≺→before}
use Rattle.model.specs.Layouts.{slot_of}
use Rattle.checking.specs.Alone.{key_of}
use Rattle.leaf.specs.Finding.{Ordered, key_at}

pub record Between (page key : List ℕ) (low high : ℕ) : Type 0 where
  pub order : low ≤ high
  pub inside : high ≤ word16 page 2
  pub below : (i : ℕ) → i < low → before (key_at page i) key ≡ true
  pub above : (i : ℕ) → high ≤ i → i < word16 page 2 → before key (key_at page i) ≡ true

module _ (page key : List ℕ) (w : Ordered page) (low high m : ℕ) (b : Between page key low high) (p : low ≤ m) (q : m < high) where
  pub went-up : compare_keys (key_at page m) key ≡ Less → Between page key (m + 1) high
  went-up e =
      let g = less→≺ (key_at page m) key e in
      record {
        order = omega arith;
        inside = b.inside;
        below = λ i h. elim (dec_le m i) [
          | yes k ↦ let f : i ≡ m = omega arith in rw f (≺→before g)
          | no n ↦ ≺→before (≺_trans (before→≺ _ _ (w.rising i m (omega arith) (omega (arith, b.inside)))) g)
        ];
        above = b.above;
      }

  pub went-down : compare_keys (key_at page m) key ≡ Greater → Between page key low m
  went-down e =
      let g = greater→≻ (key_at page m) key e in
      record {
        order = p;
        inside = omega (arith, b.inside);
        below = b.below;
        above = λ i h k. elim (dec_le i m) [
          | yes n ↦ let f : i ≡ m = omega arith in rw f (≺→before g)
          | no n ↦ ≺→before (≺_trans g (before→≺ _ _ (w.rising m i (omega arith) k)))
        ];
      }

-- the comparison's answer is that of the key in a slot
pub compared-slot : (page key t b : List ℕ) (m : ℕ) (o x : Ordering) → t ≡ key_of b → b ≡ (slot_of page m).bytes → o ≡ compare_keys t key → o ≡ x
    → compare_keys (key_at page m) key ≡ x
unfolding key_at
compared-slot page key t b m o x e f g h = rw (← f, ← e) (sym g ∙ h)

pub same-key : (page key : List ℕ) (m : ℕ) → compare_keys (key_at page m) key ≡ Equal → key_at page m ≡ key
same-key page key m = order_eq (key_at page m) key
