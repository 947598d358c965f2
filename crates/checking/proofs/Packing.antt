-- Cells apart take up no more room than they lie in: the first takes its own, and the others lie in what is left on either side of it.
use mathlib.Core.Path.{◌≡◌, refl}
use mathlib.Core.List.{List}
use mathlib.Core.Logic.{◌⊎◌, inl, inr}
use Prim.Native.Nat.{ℕ, ◌+◌, ◌-◌, ◌≤◌, ◌<◌, min, max}
use native.Mathlib.Omega.{arith}
use lib.ListN.{length}
use lib.Dec.{leb}
use borrow.Author.Tests.{leb-true, leb-false}
use Rattle.model.specs.Lists.{total}
use Rattle.model.specs.Layouts.{Placed}
use Rattle.laws_image.proofs.LeafPages.{Clear, Cells, no_cell, a-cell}
use Rattle.model.proofs.Each.{nil, cons}
use Rattle.model.proofs.Tests.{cases}

-- how much of the n bytes at o lies from a on and before b
unfoldable within : ℕ → ℕ → ℕ → ℕ → ℕ
within a b o n = min b (o + n) - max a o

abbrev inside : ℕ → ℕ → Placed → ℕ
inside a b c = within a b c.at (length c.bytes)

-- ---- on either side
-- What is clear of the n bytes at o lies before them or after them.

less : (e f g : ℕ) → g ≤ f → e - f ≤ e - g
less e f g h = omega arith

more : (d e f : ℕ) → d ≤ e → d - f ≤ e - f
more d e f h = omega arith

later : (a y x : ℕ) → y ≤ x → max (max a y) x ≤ max a x
later a y x h = omega arith

sooner : (b y x : ℕ) → x ≤ y → min b x ≤ min (min b y) x
sooner b y x h = omega arith

after : (a b o n x m : ℕ) → o + n ≤ x → within a b x m ≤ within (max a (o + n)) b x m
unfolding within
after a b o n x m h = less (min b (x + m)) (max a x) (max (max a (o + n)) x) (later a (o + n) x h)

ahead : (a b o x m : ℕ) → x + m ≤ o → within a b x m ≤ within a (min b o) x m
unfolding within
ahead a b o x m h = more (min b (x + m)) (min (min b o) (x + m)) (max a x) (sooner b o (x + m) h)

parted : (a b o n x m : ℕ) → (o + n ≤ x) ⊎ (x + m ≤ o) → within a b x m ≤ within a (min b o) x m + within (max a (o + n)) b x m
parted a b o n x m (inl h) = omega (arith, after a b o n x m h)
parted a b o n x m (inr h) = omega (arith, ahead a b o x m h)

sides : (a b o n : ℕ) {cs : List Placed} → Clear o n cs
    → total (inside a b) cs ≤ total (inside a (min b o)) cs + total (inside (max a (o + n)) b) cs
unfolding total
sides a b o n nil = omega arith
sides a b o n (cons {x = c} h hs) = omega (arith, parted a b o n c.at (length c.bytes) h, sides a b o n hs)

-- ---- all together
-- The bytes themselves and both sides are no more than the room.

module _ (a b o n : ℕ) where
  -- they lie past the room, or before it, or meet it
  past : b ≤ o → within a b o n ≡ 0
  unfolding within
  past h = omega arith

  before : o + n ≤ a → within a b o n ≡ 0
  unfolding within
  before h = omega arith

  meeting : o < b → a < o + n → within a b o n + ((o - a) + (b - (o + n))) ≤ b - a
  unfolding within
  meeting h k = go (min b (o + n) - max a o) refl
    where
      go : (w : ℕ) → min b (o + n) - max a o ≡ w → w + ((o - a) + (b - (o + n))) ≤ b - a
      go w e = omega arith

  shared : within a b o n + ((min b o - a) + (b - max a (o + n))) ≤ b - a
  shared =
      cases (leb b o) (λ t. let h = leb-true b o t in omega (arith, past h))
      (λ t. cases (leb (o + n) a) (λ u. let h = leb-true (o + n) a u in omega (arith, before h))
      (λ u. let h = leb-false b o t in let k = leb-false (o + n) a u in
      omega (arith, meeting h k, more (min b o) o a (omega arith), less b (max a (o + n)) (o + n) (omega arith))))

packed : {L s : ℕ} (a b : ℕ) {cs : List Placed} → Cells L s cs → total (inside a b) cs ≤ b - a
unfolding total
packed a b no_cell = omega arith
packed a b (a-cell {c} f o fs) =
    let x = c.at in
    let n = length c.bytes in
    omega (arith, shared a b x n, sides a b x n o, packed a (min b x) fs, packed (max a (x + n)) b fs)

-- ---- cells
-- They lie between the cell start and the end of the page.

whole : (s L o n : ℕ) → s ≤ o → o + n ≤ L → n ≡ within s L o n
unfolding within
whole s L o n h k = omega arith

all-inside : {L s : ℕ} {cs : List Placed} → Cells L s cs → total (λ (c : Placed). length c.bytes) cs ≡ total (inside s L) cs
unfolding total
all-inside no_cell = refl
all-inside {L} {s} (a-cell {c} f o fs) = omega (arith, whole s L c.at (length c.bytes) f.low f.high, all-inside fs)

pub cells-packed : {L s : ℕ} {cs : List Placed} → s ≤ L → Cells L s cs → s + total (λ (c : Placed). length c.bytes) cs ≤ L
cells-packed {L} {s} h fs = omega (arith, all-inside fs, packed s L fs)
