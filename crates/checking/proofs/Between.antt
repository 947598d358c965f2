-- A line in order between two bounds: a wall of the lower one in front and of the upper one behind, where there is one. So lines are joined at the
-- separator that is the upper bound of the one and the lower bound of the other, and a leaf's keys are in order between its bounds if they rise
-- and the first and the last are within.
use mathlib.Core.Path.{◌≡◌, refl, sym, ap, ◌∙◌}
use mathlib.Core.Logic.{◌↔◌}
use mathlib.Core.Bool.{Bool, true, ◌&&◌, and_assoc, and-true as and_right, and-eq-true_iff}
use mathlib.Core.List.{List, [], ◌∷◌, ◌++◌, map, append_assoc, append-nil}
use Prim.Native.Nat.{ℕ, ◌≤◌}
use native.Mathlib.Omega.{arith}
use lib.ListN.{length}
use Rattle.octets.specs.Keys.{before}
use Rattle.octets.specs.Runs.{part}
use Rattle.octets.proofs.Order.{≺_empty}
use Rattle.model.specs.Types.{entry}
use Rattle.model.specs.Map.{below_bound}
use Rattle.model.specs.Layouts.{Placed}
use Rattle.model.specs.Decode.{cell_from, cell_of}
use Rattle.model.specs.Accept.{rising}
use Rattle.model.proofs.Tests.{and-true}
use Rattle.laws_order.specs.Line.{Item, real, wall, of, Under, Above, Sorted, none-sorted, more-sorted, stands, in_line, fence}
use Rattle.laws_order.proofs.Items.{above_trans, above-tail, sorted-left, sorted-right}
use Rattle.laws_order.proofs.Neighbours.{in_line_iff}
use Rattle.checking.specs.Alone.{key_of}
use Rattle.checking.specs.Walk.{first_fits, last_fits}
use Rattle.model.proofs.Each.{all_append, all-each, nil, cons, all-parts}

-- no bytes mean no bound
unfoldable pub gate : List ℕ → List Item
gate [] = []
gate (b ∷ bs) = wall (b ∷ bs) ∷ []

abbrev pub Between : List ℕ → List ℕ → List Item → Type 0
Between low high xs = Sorted (wall low ∷ (xs ++ gate high))

-- ---- no bounds

pub between_open : (xs : List Item) → Sorted xs ↔ Between [] [] xs
unfolding gate
between_open xs = (λ s. rw append-nil (more-sorted (all-each (λ x. ≺_empty (of x)) xs) s), λ s. sorted-right (wall [] ∷ []) xs (rw append-nil at s))

-- ---- joined at a separator

join-at : (xs : List Item) (y : Item) (ys : List Item) → Sorted (xs ++ (y ∷ [])) → Sorted (y ∷ ys) → Sorted (xs ++ (y ∷ ys))
join-at [] y ys s r = r
join-at (x ∷ xs) y ys (more-sorted a s) r =
    let u = head (all-parts xs a).1 in
    more-sorted (all_append (all-parts xs a).0 (cons u (above_trans x y u (above-tail r)))) (join-at xs y ys s r)
  where
    head : Above x (y ∷ []) → Under x (of y)
    head (cons u b) = u

part_at : (xs : List Item) (y : Item) (ys : List Item) → Sorted (xs ++ (y ∷ ys)) → Sorted (xs ++ (y ∷ [])) × Sorted (y ∷ ys)
part_at xs y ys s = (sorted-left (xs ++ (y ∷ [])) ys (rw append_assoc s), sorted-right xs (y ∷ ys) s)

pub gate-fence : (k : List ℕ) → 1 ≤ length k → gate k ≡ fence k
unfolding gate
gate-fence [] h = absurd (omega arith)
gate-fence (b ∷ bs) h = refl

module _ (low k high : List ℕ) (xs ys : List Item) (some : 1 ≤ length k) where
  pub between_join : Between low k xs → Between k high ys → Between low high (xs ++ (wall k ∷ ys))
  between_join s r =
      rw (append_assoc xs (wall k ∷ ys) (gate high)) (join-at (wall low ∷ xs) (wall k) (ys ++ gate high) (rw (gate-fence k some) at s) r)

  pub between-part : Between low high (xs ++ (wall k ∷ ys)) → Between low k xs × Between k high ys
  between-part s =
      let r = part_at (wall low ∷ xs) (wall k) (ys ++ gate high) (rw (append_assoc xs (wall k ∷ ys) (gate high)) at s) in
      (rw (gate-fence k some) r.0, r.1)

-- ---- a leaf

pub record KeysFit (low high : List ℕ) (cs : List Placed) : Type 0 where
  pub rises : rising (map (λ (c : Placed). key_of c.bytes) cs) ≡ true
  pub first : first_fits low cs ≡ true
  pub last : last_fits high cs ≡ true

module _ (L : ℕ) (ps : List (List ℕ)) where
  abbrev pub items : List Placed → List Item
  items cs = map real (map entry (map (cell_of L ps) cs))

  abbrev keys : List Placed → List (List ℕ)
  keys cs = map (λ (c : Placed). key_of c.bytes) cs

  line-ends : (high : List ℕ) (c : Placed) (cs : List Placed) → in_line (items (c ∷ cs) ++ gate high) ≡ (rising (keys (c ∷ cs)) && last_fits high (c ∷ cs))
  unfolding in_line stands rising last_fits gate below_bound entry cell_of cell_from key_of part
  line-ends [] c [] = refl
  line-ends (b ∷ bs) c [] = and_right (before (key_of c.bytes) (b ∷ bs))
  line-ends high c (d ∷ cs) =
      let b = before (key_of c.bytes) (key_of d.bytes) in
      ap (λ (x : Bool). b && x) (line-ends high d cs) ∙ sym (and_assoc b (rising (keys (d ∷ cs))) (last_fits high (d ∷ cs)))

  line-starts : (low high : List ℕ) (c : Placed) (cs : List Placed)
      → in_line (wall low ∷ (items (c ∷ cs) ++ gate high)) ≡ (first_fits low (c ∷ cs) && in_line (items (c ∷ cs) ++ gate high))
  unfolding in_line stands first_fits entry cell_of cell_from key_of part
  line-starts low high c cs = refl

  -- an empty leaf has no upper bound
  pub keys_iff : (low high : List ℕ) (cs : List Placed) → (length cs ≡ 0 → high ≡ []) → KeysFit low high cs ↔ Between low high (items cs)
  unfolding rising first_fits last_fits gate
  keys_iff low high [] o =
      let e = o refl in
      (λ k. rw e (more-sorted nil none-sorted), λ s. record { rises = refl; first = refl; last = refl })
  keys_iff low high (c ∷ cs) o =
      let r = in_line_iff (wall low ∷ (items (c ∷ cs) ++ gate high)) in
      let e = line-starts low high c cs ∙ ap (λ (x : Bool). first_fits low (c ∷ cs) && x) (line-ends high c cs) in (
        λ k. r.0 (e ∙ and-true _ _ k.first (and-true _ _ k.rises k.last)),
        λ s. let t = simp and-eq-true_iff at (sym e ∙ r.1 s) in record { rises = t.1.0; first = t.0; last = t.1.1 },
      )
