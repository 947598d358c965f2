-- Each item against the next is each against all that follow: what stands under the next stands under whatever the next stands under.
use mathlib.Core.Path.{◌≡◌, refl, ap}
use mathlib.Core.Logic.{◌↔◌}
use mathlib.Core.Bool.{Bool, true, not, ◌&&◌, and-eq-true_iff}
use mathlib.Core.List.{List, [], ◌∷◌, map}
use Prim.Native.Nat.{ℕ}
use Rattle.octets.specs.Keys.{before}
use Rattle.octets.proofs.Order.{before→≺, ≺→before, not_before→, not_before←}
use Rattle.model.specs.Types.{Entry}
use Rattle.model.specs.Accept.{rising}
use Rattle.model.proofs.Tests.{not-true, and-true}
use Rattle.model.proofs.Each.{nil, cons}
use Rattle.laws_order.specs.Line.{Item, real, wall, of, Under, Sorted, none-sorted, more-sorted, stands, in_line, Rising}
use Rattle.laws_order.proofs.Items.{sorted-join}

-- One item --------------------------------------------------------------------------------------------------------------

stands→ : (x : Item) (b : List ℕ) → stands x b ≡ true → Under x b
unfolding stands
stands→ (real e) b t = before→≺ e.key b t
stands→ (wall a) b t = not_before→ b a (not-true _ t)

stands← : (x : Item) (b : List ℕ) → Under x b → stands x b ≡ true
unfolding stands
stands← (real e) b u = ≺→before u
stands← (wall a) b u = ap not (not_before← b a u)

-- A line ----------------------------------------------------------------------------------------------------------------

in_line→ : (xs : List Item) → in_line xs ≡ true → Sorted xs
unfolding in_line
in_line→ [] t = none-sorted
in_line→ (x ∷ []) t = more-sorted nil none-sorted
in_line→ (x ∷ y ∷ zs) t =
    let k = simp and-eq-true_iff at t in
    sorted-join [] x y zs (more-sorted nil none-sorted) (stands→ x (of y) k.0) (in_line→ (y ∷ zs) k.1)

in_line← : (xs : List Item) → Sorted xs → in_line xs ≡ true
unfolding in_line
in_line← [] s = refl
in_line← (x ∷ []) s = refl
in_line← (x ∷ y ∷ zs) (more-sorted (cons u a) s) = and-true (stands x (of y)) _ (stands← x (of y) u) (in_line← (y ∷ zs) s)

pub in_line_iff : (xs : List Item) → (in_line xs ≡ true) ↔ Sorted xs
in_line_iff xs = (in_line→ xs, in_line← xs)

-- Entries ---------------------------------------------------------------------------------------------------------------

rising-in_line : (es : List Entry) → in_line (map real es) ≡ rising (map (λ (e : Entry). e.key) es)
unfolding in_line rising stands
rising-in_line [] = refl
rising-in_line (e ∷ []) = refl
rising-in_line (e ∷ d ∷ es) = ap (λ (b : Bool). before e.key d.key && b) (rising-in_line (d ∷ es))

pub rising_iff : (es : List Entry) → (rising (map (λ (e : Entry). e.key) es) ≡ true) ↔ Rising es
rising_iff es = rw (← rising-in_line es) (in_line_iff (map real es))
