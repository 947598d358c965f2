-- A range has exactly the entries whose keys are in it, in their order: it leaves out the others one by one.
use mathlib.Core.Path.{◌≡◌}
use mathlib.Core.Logic.{◌↔◌, inl, inr}
use mathlib.Core.Bool.{true}
use mathlib.Core.List.Memᴰ
use mathlib.Core.List.{List, [], ◌∷◌, map, Memᴰ}
use Prim.Native.Nat.{ℕ}
use Rattle.octets.proofs.Choice.{choose-true, either, either_by}
use Rattle.model.specs.Types.{Entry}
use Rattle.model.specs.Map.{in_range, range}
use Rattle.model.proofs.Each.{All, nil, cons}
use Rattle.laws_order.specs.Line.{Item, real, none-sorted, more-sorted, Rising}

module _ (low high : List ℕ) where
  range-there : (e : Entry) (m : List Entry) → Memᴰ e (range low high m) → Memᴰ e m × (in_range low high e.key ≡ true)
  unfolding range
  range-there e [] i = absurd (Memᴰ.not-nil i)
  range-there e (x ∷ xs) i =
      either_by (λ (l : List Entry). Memᴰ e l → Memᴰ e (x ∷ xs) × (in_range low high e.key ≡ true)) (in_range low high x.key)
      (x ∷ range low high xs) (range low high xs)
      (λ t j. elim (Memᴰ.cases_cons j) [ inl q ↦ (Memᴰ.head q, rw q t) | inr l ↦ (let r = range-there e xs l in (Memᴰ.tail r.0, r.1)) ])
      (λ t j. let r = range-there e xs j in (Memᴰ.tail r.0, r.1)) i

  there-range : (e : Entry) (m : List Entry) → Memᴰ e m → in_range low high e.key ≡ true → Memᴰ e (range low high m)
  unfolding range
  there-range e [] i t = elim i [ ]
  there-range e (x ∷ xs) (Memᴰ.head q) t = rw (choose-true (in_range low high x.key) (x ∷ range low high xs) (range low high xs) (rw q at t)) (Memᴰ.head q)
  there-range e (x ∷ xs) (Memᴰ.tail i) t =
      either (Memᴰ e) (in_range low high x.key) _ _ (Memᴰ.tail (there-range e xs i t)) (there-range e xs i t)

  pub range_iff : (e : Entry) (m : List Entry) → Memᴰ e (range low high m) ↔ (Memᴰ e m × (in_range low high e.key ≡ true))
  range_iff e m = (range-there e m, λ p. there-range e m p.0 p.1)

  all-range : {P : Item → Type 0} (m : List Entry) → All P (map real m) → All P (map real (range low high m))
  unfolding range
  all-range [] a = nil
  all-range {P} (x ∷ xs) (cons p a) =
      either (λ (l : List Entry). All P (map real l)) (in_range low high x.key) _ _ (cons p (all-range xs a)) (all-range xs a)

  pub range-rising : (m : List Entry) → Rising m → Rising (range low high m)
  unfolding range
  range-rising [] r = none-sorted
  range-rising (x ∷ xs) (more-sorted a r) =
      either Rising (in_range low high x.key) _ _ (more-sorted (all-range xs a) (range-rising xs r)) (range-rising xs r)
