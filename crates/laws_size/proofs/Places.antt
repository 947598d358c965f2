-- Cells go on standing apart inside their page: packed they stand end to end, fewer stand where they stood, and a new one goes below them all.
use mathlib.Core.Path.{◌≡◌, refl}
use mathlib.Core.List.{List, [], ◌∷◌}
use Prim.Native.Nat.{ℕ, suc, ◌+◌, ◌-◌, ◌*◌, ◌≤◌}
use native.Mathlib.Omega.{arith}
use lib.ListN.{length}
use Rattle.octets.specs.Keys.{compare_keys}
use Rattle.octets.proofs.Choice.{either_by, by_order}
use Rattle.model.specs.Lists.{total}
use Rattle.model.specs.Types.{Cell, Leaf}
use Rattle.model.specs.Sizes.{leaf_most, cell_length, cost, costs}
use Rattle.model.specs.InLeaf.{with, without, moved, packed, packed_leaf, room_for, added, removed}
use Rattle.model.proofs.Tests.{leb-not}
use Rattle.model.proofs.Each.{All, nil, cons, all_of, Pairwise, lone, joint}
use Rattle.model.proofs.Lists.{total-cons}
use Rattle.laws_size.proofs.Full.{Inside, Apart, before, after, Placed}
use Rattle.laws_size.proofs.Cells.{all_without, all-with, length-with, length_without, length-packed, length_moved, costs-are}

-- ---- stretches

swapped : {c d : Cell} → Apart c d → Apart d c
swapped (before h) = after h
swapped (after h) = before h

wider : {a b e f : ℕ} {cs : List Cell} → b ≤ a → e ≤ f → All (Inside a e) cs → All (Inside b f) cs
wider h g all = all_of (λ c i. record { low = omega (arith, i.low); high = omega (arith, i.high) }) all

-- what stands from a place on is apart from what ends there, and what ends at a place from what stands there
apart_above : {a e : ℕ} {c : Cell} {cs : List Cell} → c.at + cell_length c ≤ a → All (Inside a e) cs → All (Apart c) cs
apart_above h all = all_of (λ d i. before (omega (arith, i.low))) all

apart_below : {a e : ℕ} {c : Cell} {cs : List Cell} → e ≤ c.at → All (Inside a e) cs → All (Apart c) cs
apart_below h all = all_of (λ d i. after (omega (arith, i.high))) all

-- ---- packed

at_moved : (o : ℕ) (c : Cell) → (moved o c).at ≡ o
unfolding moved
at_moved o c = refl

packed-inside : (e : ℕ) (cs : List Cell) → total cell_length cs ≤ e → All (Inside (e - total cell_length cs) e) (packed e cs)
unfolding packed
packed-inside e [] h = nil
packed-inside e (c ∷ cs) h =
    let n = total-cons cell_length c cs in
    let o = e - cell_length c in
    cons {x = moved o c} (record { low = omega (arith, at_moved o c); high = omega (arith, at_moved o c, length_moved o c) })
    (wider (omega arith) (omega arith) (packed-inside o cs (omega arith)))

packed-apart : (e : ℕ) (cs : List Cell) → total cell_length cs ≤ e → Pairwise Apart (packed e cs)
unfolding packed
packed-apart e [] h = lone
packed-apart e (c ∷ cs) h =
    let n = total-cons cell_length c cs in
    let o = e - cell_length c in
    joint {x = moved o c} (apart_below (omega (arith, at_moved o c)) (packed-inside o cs (omega arith))) (packed-apart o cs (omega arith))

pub packed-placed : (L p : ℕ) (cs : List Cell) → 12 ≤ L → costs cs ≤ leaf_most L → Placed L (packed_leaf L p cs)
unfolding packed_leaf leaf_most
packed-placed L p cs long h =
    let n = costs-are cs in
    record { low = omega (arith, length-packed L cs); high = omega arith; inside = packed-inside L cs (omega arith); apart = packed-apart L cs (omega arith) }

-- ---- one fewer

without-apart : (k : List ℕ) {cs : List Cell} → Pairwise Apart cs → Pairwise Apart (without k cs)
unfolding without
without-apart k lone = lone
without-apart k (joint a p) =
    by_order (Pairwise Apart) (compare_keys k _) _ _ _ (λ e. joint a p) (λ e. p) (λ e. joint (all_without k a) (without-apart k p))

pub removed-placed : (L : ℕ) (k : List ℕ) (l : Leaf) → Placed L l → Placed L (removed k l)
unfolding removed
removed-placed L k l f =
    record { low = omega (arith, f.low, length_without k l.cells); high = f.high; inside = all_without k f.inside; apart = without-apart k f.apart }

-- ---- one more

with-apart : (x : Cell) {cs : List Cell} → All (Apart x) cs → Pairwise Apart cs → Pairwise Apart (with x cs)
unfolding with
with-apart x nil lone = joint nil lone
with-apart x (cons p o) (joint a w) =
    by_order (Pairwise Apart) (compare_keys x.key _) _ _ _
    (λ e. joint (cons p o) (joint a w)) (λ e. joint o w) (λ e. joint (all-with x (swapped p) a) (with-apart x o w))

record Roomy (L n : ℕ) (m : Leaf) : Type 0 where
  placed : Placed L m
  room : 12 + 2 * length m.cells + n + 2 ≤ m.start

roomed : (L n : ℕ) (l : Leaf) → 12 ≤ L → Placed L l → costs l.cells + n + 2 ≤ leaf_most L → Roomy L n (room_for L n l)
unfolding room_for
roomed L n l long f h =
    either_by (Roomy L n) _ _ _
    (λ e. record {
      placed = packed-placed L l.page l.cells long (omega arith);
      room = unfold packed_leaf leaf_most in omega (arith, costs-are l.cells, length-packed L l.cells, most-is);
    })
    (λ e. record { placed = f; room = omega (arith, f.low, leb-not (suc (l.start - (12 + 2 * length l.cells))) (n + 2) e) })
  where
    most-is : leaf_most L ≡ L - 12
    most-is = unfold leaf_most in refl

pub added-placed : (L : ℕ) (x : Cell) (l : Leaf) → 12 ≤ L → Placed L l → costs l.cells + cost x ≤ leaf_most L → Placed L (added L x l)
unfolding added cost
added-placed L x l long f h =
    let m = room_for L (cell_length x) l in
    let r = roomed L (cell_length x) l long f (omega arith) in
    let o = m.start - cell_length x in
    let y = moved o x in
    let at = at_moved o x in
    let n = length_moved o x in
    let high = r.placed.high in
    let room = r.room in
    record {
      low = omega (arith, length-with y m.cells);
      high = omega arith;
      inside = all-with y (record { low = omega arith; high = omega arith }) (wider (omega arith) (omega arith) r.placed.inside);
      apart = with-apart y (apart_above (omega arith) r.placed.inside) r.placed.apart;
    }
