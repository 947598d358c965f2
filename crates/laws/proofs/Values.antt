-- A value that the map has is no longer than a value may be: it is that of a cell in the leaf where its key belongs.
use mathlib.Core.Path.{◌≡◌}
use mathlib.Core.Bool.{true}
use mathlib.Core.List.{List, [], ◌∷◌}
use mathlib.Core.Option.{some}
use Prim.Native.Nat.{ℕ, ◌≤◌}
use lib.ListN.{length}
use Rattle.octets.specs.Keys.{compare_keys}
use Rattle.octets.proofs.Choice.{by_order}
use Rattle.model.specs.Edition.{Edition}
use Rattle.model.specs.Types.{Cell, Store, to_map}
use Rattle.model.specs.Map.{lookup}
use Rattle.model.specs.Sizes.{value_most}
use Rattle.model.specs.InLeaf.{found}
use Rattle.model.specs.Accept.{valid}
use Rattle.model.proofs.Editions.{Lawful}
use Rattle.laws_order.proofs.Finding.{present_found}
use Rattle.model.proofs.Each.{All, nil, cons, all_cons}
use Rattle.laws_size.proofs.Filling.{spot-reached}
use Rattle.laws.proofs.Kept.{valid-sorted_iff}

all_found : {P : Cell → Type 0} (k : List ℕ) {cs : List Cell} → All P cs → All P (found k cs)
unfolding found
all_found k nil = nil
all_found {P} k (cons {x = c} {xs = cs} p ps) =
    by_order (λ (l : List Cell). All P l) (compare_keys k c.key) [] (c ∷ []) (found k cs) (λ o. nil) (λ o. cons p nil) (λ o. all_found k ps)

-- "values of at most 4,032"
pub value-fits : (E : Edition) → Lawful E → (s : Store) → valid E s ≡ true → (k v : List ℕ) → lookup k (to_map s) ≡ some v → length v ≤ value_most E.usable
value-fits E lawful s t k v e =
    let p = (valid-sorted_iff E lawful s).0 t in
    let here = present_found s k v p.1 e in
    let fit = (all_cons (rw here.there at (all_found k (spot-reached E.usable s k p.0.full).leaf.each))).0 in
    rw here.value at fit.value
