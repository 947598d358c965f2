-- The tests of a page by itself as facts, both ways: each test says its field.
use mathlib.Core.Path.{◌≡◌, refl, ap, ◌∙◌}
use mathlib.Core.Logic.{◌↔◌, ◌⊎◌, inl, inr}
use mathlib.Core.Bool.{or-true, Bool, true, false, ◌||◌, and-eq-true_iff}
use mathlib.Core.List.{List, [], ◌∷◌, map}
use Prim.Native.Nat.{ℕ, ◌+◌, ◌*◌, ◌≤◌}
use native.Mathlib.Omega.{arith}
use lib.ListN.{length, get_or}
use lib.Dec.{leb}
use Rattle.octets.specs.Numbers.{word16, bytes16}
use Rattle.model.specs.Lists.{every, same, pad}
use Rattle.model.specs.Edition.{Edition}
use Rattle.model.specs.Types.{Sep}
use Rattle.model.specs.Sizes.{key_most, value_most, payload}
use Rattle.model.specs.Layouts.{OverPage, Placed, to_head, of_head, to_free, of_free, to_leaf, of_leaf, cell_size, to_inner, of_inner, to_over, of_over}
use Rattle.model.specs.Accept.{key_fits, rising}
use Rattle.model.proofs.Tests.{leb_iff, eqb_iff, between_iff, and-true}
use Rattle.laws_image.proofs.LeafPages.{Sits, Clear, Cells, no_cell, a-cell, GoodLeaf}
use Rattle.laws_size.proofs.Full.{KeyFit}
use Rattle.laws_size.proofs.Bools.{key_iff}
use Rattle.checking.specs.Alone.{head_alone, free_alone, over_alone, inner_alone, key_of, value_length, cell_alone, apart_placed, all_apart_placed, leaf_alone}
use Rattle.model.proofs.Each.{All, nil, cons, all_cons, every_iff}
use Rattle.model.proofs.Lists.{same_refl, same_eq}

pub same_iff : (l m : List ℕ) → (same l m ≡ true) ↔ (l ≡ m)
same_iff l m = (same_eq l m, λ e. rw e (same_refl m))

-- ---- header

pub record HeadAlone (E : Edition) (n : ℕ) (page : List ℕ) : Type 0 where
  pub layout : page ≡ to_head E.usable (of_head page)
  pub size : (of_head page).n ≡ n
  pub low : 1 ≤ (of_head page).height
  pub high : (of_head page).height ≤ E.most_levels
  pub edition : (of_head page).edition ≡ E.number

pub head_iff : (E : Edition) (n : ℕ) (page : List ℕ) → (head_alone E n page ≡ true) ↔ HeadAlone E n page
unfolding head_alone
head_iff E n page =
    let q = of_head page in
    let layout = same_iff page (to_head E.usable q) in
    let size = eqb_iff q.n n in
    let height = between_iff 1 E.most_levels q.height in
    let edition = eqb_iff q.edition E.number in (
      λ t. let k = simp and-eq-true_iff at t in
          let b = height.0 k.0.1 in
          record { layout = layout.0 k.0.0.0; size = size.0 k.0.0.1; low = b.0; high = b.1; edition = edition.0 k.1 },
      λ f. simp and-eq-true_iff (((layout.1 f.layout, size.1 f.size), height.1 (f.low, f.high)), edition.1 f.edition),
    )

-- ---- free page

pub free_iff : (L : ℕ) (page : List ℕ) → (free_alone L page ≡ true) ↔ (page ≡ to_free L (of_free page))
unfolding free_alone
free_iff L page = same_iff page (to_free L (of_free page))

-- ---- overflow page
-- It says how many bytes it holds.

pub record OverAlone (L : ℕ) (page : List ℕ) : Type 0 where
  pub layout : page ≡ to_over L (of_over page)
  pub fits : length (of_over page).held ≤ payload L

over-held : (L : ℕ) (q : OverPage) → word16 (to_over L q) 4 ≡ length q.held
unfolding to_over pad bytes16 word16
over-held L q = omega arith

pub length-held : (L : ℕ) (page : List ℕ) → page ≡ to_over L (of_over page) → word16 page 4 ≡ length (of_over page).held
length-held L page e = ap (λ (b : List ℕ). word16 b 4) e ∙ over-held L (of_over page)

pub over_iff : (L : ℕ) → 8 ≤ L → (page : List ℕ) → (over_alone L page ≡ true) ↔ OverAlone L page
unfolding over_alone payload
over_iff L room page =
    let fits = leb_iff (8 + word16 page 4) L in
    let layout = same_iff page (to_over L (of_over page)) in (
      λ t. let k = simp and-eq-true_iff at t in
          let e = layout.0 k.1 in
          record { layout = e; fits = omega (arith, length-held L page e, fits.0 k.0) },
      λ f. simp and-eq-true_iff (fits.1 (omega (arith, length-held L page f.layout, f.fits)), layout.1 f.layout),
    )

-- ---- inner page

pub record InnerAlone (L : ℕ) (page : List ℕ) : Type 0 where
  pub layout : page ≡ to_inner L (of_inner page)
  pub keys : All (λ (s : Sep ℕ). KeyFit s.key) (of_inner page).rest
  pub rises : rising (map (λ s. s.key) (of_inner page).rest) ≡ true

pub inner_iff : (L : ℕ) (page : List ℕ) → (inner_alone L page ≡ true) ↔ InnerAlone L page
unfolding inner_alone
inner_iff L page =
    let layout = same_iff page (to_inner L (of_inner page)) in
    let keys = every_iff (λ (s : Sep ℕ). key_fits s.key) (λ s. KeyFit s.key) (λ s. key_iff s.key) (of_inner page).rest in (
      λ t. let k = simp and-eq-true_iff at t in record { layout = layout.0 k.0.0; keys = keys.0 k.0.1; rises = k.1 },
      λ f. simp and-eq-true_iff ((layout.1 f.layout, keys.1 f.keys), f.rises),
    )

-- ---- leaf
-- Its cells sit in it and are clear of each other, and the lengths that they say are within their limits.

pub record Limits (L : ℕ) (b : List ℕ) : Type 0 where
  pub some : 1 ≤ get_or b 0 0
  pub few : get_or b 0 0 ≤ key_most
  pub value : value_length b ≤ value_most L

pub cell_iff : (L s : ℕ) (c : Placed) → (cell_alone L s c ≡ true) ↔ (Sits L s c × Limits L c.bytes)
unfolding cell_alone
cell_iff L s c =
    let b = c.bytes in
    let low = leb_iff s c.at in
    let high = leb_iff (c.at + length b) L in
    let some = leb_iff 3 (length b) in
    let size = eqb_iff (cell_size b) (length b) in
    let key = between_iff 1 key_most (get_or b 0 0) in
    let value = leb_iff (value_length b) (value_most L) in (
      λ t. let k = simp and-eq-true_iff at t in
          let r = key.0 k.0.1 in
          let a = k.0.0 in (
            record { low = low.0 a.0.0.0; high = high.0 a.0.0.1; some = some.0 a.0.1; size = size.0 a.1 },
            record { some = r.0; few = r.1; value = value.0 k.1 },
          ),
      λ f. let a = f.0 in let b = f.1 in simp and-eq-true_iff (
        ((((low.1 a.low, high.1 a.high), some.1 a.some), size.1 a.size), key.1 (b.some, b.few)),
        value.1 b.value,
      ),
    )

either_iff : (i j k l : ℕ) → (leb i j || leb k l ≡ true) ↔ ((i ≤ j) ⊎ (k ≤ l))
either_iff i j k l = (λ t. to (leb i j) refl t, back)
  where
    to : (x : Bool) → leb i j ≡ x → x || leb k l ≡ true → (i ≤ j) ⊎ (k ≤ l)
    to true p t = inl ((leb_iff i j).0 p)
    to false p t = inr ((leb_iff k l).0 t)

    back : (i ≤ j) ⊎ (k ≤ l) → leb i j || leb k l ≡ true
    back (inl h) = rw ((leb_iff i j).1 h)
    back (inr h) = rw ((leb_iff k l).1 h) (or-true (leb i j))

clear_iff : (c : Placed) (cs : List Placed) → (every (apart_placed c) cs ≡ true) ↔ Clear c.at (length c.bytes) cs
unfolding every apart_placed
clear_iff c [] = (λ t. nil, λ f. refl)
clear_iff c (d ∷ cs) =
    let here = either_iff (c.at + length c.bytes) d.at (d.at + length d.bytes) c.at in
    let there = clear_iff c cs in (
      λ t. let k = simp and-eq-true_iff at t in cons (here.0 k.0) (there.0 k.1),
      λ f. let k = all_cons f in and-true _ _ (here.1 k.0) (there.1 k.1),
    )

cells-apart : {L s : ℕ} {c : Placed} {cs : List Placed} → Cells L s (c ∷ cs) → Sits L s c × (Clear c.at (length c.bytes) cs × Cells L s cs)
cells-apart (a-cell f o fs) = (f, (o, fs))

pub cells_iff : (L s : ℕ) (cs : List Placed)
    → ((every (cell_alone L s) cs ≡ true) × (all_apart_placed cs ≡ true)) ↔ (Cells L s cs × All (λ c. Limits L c.bytes) cs)
unfolding every all_apart_placed
cells_iff L s [] = (λ t. (no_cell, nil), λ f. (refl, refl))
cells_iff L s (c ∷ cs) =
    let here = cell_iff L s c in
    let clear = clear_iff c cs in
    let there = cells_iff L s cs in (
      λ t. let i = simp and-eq-true_iff at t.0 in
          let j = simp and-eq-true_iff at t.1 in
          let a = here.0 i.0 in
          let r = there.0 (i.1, j.1) in
          (a-cell a.0 (clear.0 j.0) r.0, cons a.1 r.1),
      λ f. let a = cells-apart f.0 in
          let b = all_cons f.1 in
          let r = there.1 (a.1.1, b.1) in
          (and-true _ _ (here.1 (a.0, b.0)) r.0, and-true _ _ (clear.1 a.1.0) r.1),
    )

pub record LeafAlone (L : ℕ) (page : List ℕ) : Type 0 where
  pub layout : page ≡ to_leaf L (of_leaf L page)
  pub good : GoodLeaf L (of_leaf L page)
  pub limits : All (λ c. Limits L c.bytes) (of_leaf L page).cells
  pub rises : rising (map (λ (c : Placed). key_of c.bytes) (of_leaf L page).cells) ≡ true

pub leaf_iff : (L : ℕ) (page : List ℕ) → (leaf_alone L page ≡ true) ↔ LeafAlone L page
unfolding leaf_alone
leaf_iff L page =
    let q = of_leaf L page in
    let layout = same_iff page (to_leaf L q) in
    let start = between_iff (12 + 2 * length q.cells) L q.start in
    let cells = cells_iff L q.start q.cells in (
      λ t. let k = simp and-eq-true_iff at t in
          let b = start.0 k.0.0.0.1 in
          let c = cells.0 (k.0.0.1, k.0.1) in
          record { layout = layout.0 k.0.0.0.0; good = record { slots = b.0; start = b.1; cells = c.0 }; limits = c.1; rises = k.1 },
      λ f. let c = cells.1 (f.good.cells, f.limits) in
          simp and-eq-true_iff ((((layout.1 f.layout, start.1 (f.good.slots, f.good.start)), c.0), c.1), f.rises),
    )
