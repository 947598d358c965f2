-- The cells of a leaf with one more, without one, or packed: what holds of each cell goes on holding, and every sum changes by the cell alone.
use mathlib.Core.Path.{◌≡◌, refl, sym, ap, ◌∙◌}
use mathlib.Core.List.{List, [], ◌∷◌, ◌++◌, cons≢nil}
use Prim.Native.Nat.{ℕ, suc, ◌+◌, ◌-◌, ◌*◌, ◌≤◌}
use native.Mathlib.Omega.{arith}
use lib.ListN.{length}
use lib.Dec.{leb}
use Rattle.octets.specs.Keys.{compare_keys, three}
use Rattle.std.specs.declared.cmp.Ordering.{Ordering}
use Rattle.std.specs.declared.cmp.Ordering.TheVariants.{Less, Equal, Greater}
use Rattle.octets.proofs.Choice.{either, either_by, by_order}
use Rattle.model.specs.Lists.{total}
use Rattle.model.specs.Types.{Cell, Leaf}
use Rattle.model.specs.Sizes.{key_most, inline_most, cell_length, cost, costs}
use Rattle.model.specs.InLeaf.{with, without, found, moved, packed, packed_leaf, room_for}
use Rattle.model.proofs.Tests.{leb_iff}
use Rattle.model.proofs.Each.{All, nil, cons, all_of}
use Rattle.model.proofs.Lists.{total-nil, total-cons, total-append, length-total}
use Rattle.laws_size.proofs.Full.{KeyFit, CellFit}

-- ---- each cell
-- No other cells come in.

module _ {P : Cell → Type 0} where
  pub all_without : (k : List ℕ) {cs : List Cell} → All P cs → All P (without k cs)
  unfolding without
  all_without k nil = nil
  all_without k (cons p a) = by_order (All P) (compare_keys k _) _ _ _ (λ e. cons p a) (λ e. a) (λ e. cons p (all_without k a))

  pub all-with : (x : Cell) {cs : List Cell} → P x → All P cs → All P (with x cs)
  unfolding with
  all-with x q nil = cons q nil
  all-with x q (cons p a) = by_order (All P) (compare_keys x.key _) _ _ _ (λ e. cons q (cons p a)) (λ e. cons q a) (λ e. cons p (all-with x q a))

  pub all-packed : ((o : ℕ) (c : Cell) → P c → P (moved o c)) → (e : ℕ) {cs : List Cell} → All P cs → All P (packed e cs)
  unfolding packed
  all-packed f e nil = nil
  all-packed f e (cons {x = x} p a) = cons (f _ _ p) (all-packed f (e - cell_length x) a)

pub fit-moved : {L : ℕ} (o : ℕ) (c : Cell) → CellFit L c → CellFit L (moved o c)
unfolding moved
fit-moved o c f = record { key = f.key; value = f.value; chain = f.chain }

-- ---- sums
-- A cell put in takes the place of the one with its key, so the sum is that without the key and the cell's own.

module _ (f : Cell → ℕ) where
  pub total-with : (x : Cell) (cs : List Cell) → total f (with x cs) ≡ total f (without x.key cs) + f x
  unfolding with without three
  total-with x [] = omega (arith, total-cons f x [])
  total-with x (c ∷ cs) = go (compare_keys x.key c.key) (total-with x cs)
    where
      go : (o : Ordering) → total f (with x cs) ≡ total f (without x.key cs) + f x
          → total f (three o (x ∷ c ∷ cs) (x ∷ cs) (c ∷ with x cs)) ≡ total f (three o (c ∷ cs) cs (c ∷ without x.key cs)) + f x
      go Less ih = omega (arith, total-cons f x (c ∷ cs))
      go Equal ih = omega (arith, total-cons f x cs)
      go Greater ih = omega (arith, total-cons f c (with x cs), total-cons f c (without x.key cs))

  pub total-found : (k : List ℕ) (cs : List Cell) → total f cs ≡ total f (without k cs) + total f (found k cs)
  unfolding without found three
  total-found k [] = omega (arith, total-nil f)
  total-found k (c ∷ cs) = go (compare_keys k c.key) (total-found k cs)
    where
      go : (o : Ordering) → total f cs ≡ total f (without k cs) + total f (found k cs)
          → total f (c ∷ cs) ≡ total f (three o (c ∷ cs) cs (c ∷ without k cs)) + total f (three o [] (c ∷ []) (found k cs))
      go Less ih = omega (arith, total-nil f)
      go Equal ih = omega (arith, total-cons f c cs, total-cons f c [], total-nil f)
      go Greater ih = omega (arith, total-cons f c cs, total-cons f c (without k cs))

  -- a key that is not there is not missed
  pub total_absent : (k : List ℕ) (cs : List Cell) → found k cs ≡ [] → total f (without k cs) ≡ total f cs
  total_absent k cs e = omega (arith, total-found k cs, ap (λ (l : List Cell). total f l) e, total-nil f)

  pub total-packed : ((o : ℕ) (c : Cell) → f (moved o c) ≡ f c) → (e : ℕ) (cs : List Cell) → total f (packed e cs) ≡ total f cs
  unfolding packed
  total-packed same e [] = refl
  total-packed same e (c ∷ cs) =
      let o = e - cell_length c in
      omega (arith, total-cons f (moved o c) (packed o cs), total-cons f c cs, same o c, total-packed same o cs)

  pub total-room : ((o : ℕ) (c : Cell) → f (moved o c) ≡ f c) → (L n : ℕ) (l : Leaf) → total f (room_for L n l).cells ≡ total f l.cells
  unfolding room_for packed_leaf
  total-room same L n l = either (λ (m : Leaf). total f m.cells ≡ total f l.cells) _ _ _ (total-packed same L l.cells) refl

pub found-packed : (k : List ℕ) (e : ℕ) (cs : List Cell) → found k cs ≡ [] → found k (packed e cs) ≡ []
unfolding found packed moved three
found-packed k e [] h = refl
found-packed k e (c ∷ cs) h = go (compare_keys k c.key) h (found-packed k (e - cell_length c) cs)
  where
    go : (o : Ordering) → three o [] (c ∷ []) (found k cs) ≡ [] → (found k cs ≡ [] → found k (packed (e - cell_length c) cs) ≡ [])
        → three o [] (moved (e - cell_length c) c ∷ []) (found k (packed (e - cell_length c) cs)) ≡ []
    go Less h ih = refl
    go Equal h ih = absurd (cons≢nil h)
    go Greater h ih = ih h

pub found-room : (k : List ℕ) (L n : ℕ) (l : Leaf) → found k l.cells ≡ [] → found k (room_for L n l).cells ≡ []
unfolding room_for packed_leaf
found-room k L n l e = either (λ (m : Leaf). found k m.cells ≡ []) _ _ _ (found-packed k L l.cells e) e

-- how many there are: each cell counts 1
pub length-with : (x : Cell) (cs : List Cell) → length (with x cs) ≤ suc (length cs)
length-with x cs =
    let one : Cell → ℕ = λ c. 1 in
    omega (arith, length-total (with x cs), length-total cs, total-with one x cs, total-found one x.key cs)

pub length_without : (k : List ℕ) (cs : List Cell) → length (without k cs) ≤ length cs
length_without k cs =
    let one : Cell → ℕ = λ c. 1 in
    omega (arith, length-total (without k cs), length-total cs, total-found one k cs)

pub length-packed : (e : ℕ) (cs : List Cell) → length (packed e cs) ≡ length cs
length-packed e cs = length-total (packed e cs) ∙ (total-packed (λ c. 1) (λ o c. refl) e cs ∙ sym (length-total cs))

-- ---- costs
-- What a cell costs does not depend on where it stands.

pub length_moved : (o : ℕ) (c : Cell) → cell_length (moved o c) ≡ cell_length c
unfolding moved cell_length
length_moved o c = refl

pub cost-moved : (o : ℕ) (c : Cell) → cost (moved o c) ≡ cost c
unfolding cost
cost-moved o c = ap (λ (n : ℕ). n + 2) (length_moved o c)

pub costs-nil : costs [] ≡ 0
unfolding costs
costs-nil = total-nil cost

pub costs-cons : (c : Cell) (cs : List Cell) → costs (c ∷ cs) ≡ cost c + costs cs
unfolding costs
costs-cons c cs = total-cons cost c cs

pub costs-append : (xs ys : List Cell) → costs (xs ++ ys) ≡ costs xs + costs ys
unfolding costs
costs-append xs ys = total-append cost xs ys

pub costs-with : (x : Cell) (cs : List Cell) → costs (with x cs) ≡ costs (without x.key cs) + cost x
unfolding costs
costs-with x cs = total-with cost x cs

pub costs-without : (k : List ℕ) (cs : List Cell) → costs (without k cs) ≤ costs cs
unfolding costs
costs-without k cs = omega (arith, total-found cost k cs)

pub costs-packed : (e : ℕ) (cs : List Cell) → costs (packed e cs) ≡ costs cs
unfolding costs
costs-packed e cs = total-packed cost cost-moved e cs

pub costs-room : (L n : ℕ) (l : Leaf) → costs (room_for L n l).cells ≡ costs l.cells
unfolding costs
costs-room L n l = total-room cost cost-moved L n l

-- the bytes and the slots
pub costs-are : (cs : List Cell) → costs cs ≡ total cell_length cs + 2 * length cs
unfolding costs total cost
costs-are [] = refl
costs-are (c ∷ cs) = omega (arith, costs-are cs)

-- no cell costs more than one with the longest key and the longest value inside
unfoldable pub cell_most : ℕ
cell_most = 3 + key_most + inline_most + 2

pub cost-most : (c : Cell) → KeyFit c.key → cost c ≤ cell_most
unfolding cost cell_length cell_most inline_most
cost-most c k =
    either_by (λ (n : ℕ). 3 + length c.key + n + 2 ≤ 3 + key_most + 64 + 2) (leb (length c.value) 64) _ _
    (λ e. omega (arith, k.few, (leb_iff (length c.value) 64).0 e)) (λ e. omega (arith, k.few))

pub costs-most : {L : ℕ} {cs : List Cell} → All (CellFit L) cs → All (λ c. cost c ≤ cell_most) cs
costs-most a = all_of (λ c f. cost-most c f.key) a

pub some-cell : (cs : List Cell) → 1 ≤ costs cs → 1 ≤ length cs
some-cell [] h = absurd (omega (arith, costs-nil))
some-cell (c ∷ cs) h = omega arith
