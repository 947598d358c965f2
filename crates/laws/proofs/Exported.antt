-- The host's calls are the others with a work area that is always long enough, and their one number can be taken apart: no value is as
-- long as the step between two refusals.
use mathlib.Core.Path.{◌≡◌, refl}
use mathlib.Core.Bool.{true, and-eq-true_iff}
use mathlib.Core.List.{List}
use mathlib.Core.Option.{Option, none, some}
use Prim.Native.Nat.{ℕ, ◌/◌, ◌%◌, ◌≤◌, ◌<◌}
use native.Mathlib.Omega.{arith}
use lib.ListN.{length}
use Rattle.octets.proofs.Choice.{either}
use Rattle.octets.proofs.Over.{length-zeros}
use Rattle.model.specs.Edition.{Edition}
use Rattle.model.specs.Types.{to_map}
use Rattle.model.specs.Map.{lookup}
use Rattle.model.specs.Sizes.{value_most}
use Rattle.model.specs.Decode.{decode}
use Rattle.model.specs.Refusals.{good_image}
use Rattle.model.specs.Calls.{Got, gotten, get_outcome}
use Rattle.model.specs.Exported.{packed_number, own_work, exported_get}
use Rattle.model.proofs.Tests.{between_iff}
use Rattle.model.proofs.Editions.{Lawful}
use Rattle.laws_image.proofs.Whole.{accepted}
use Rattle.laws.proofs.Guarded.{guarded-all}
use Rattle.laws.proofs.Values.{value-fits}

-- "Those exported calls use a work area of their own (1,024 entries)": so 9 is never their answer
pub own-enough : (E : Edition) (image : ℕ) → good_image E image ≡ true → image / E.width ≤ length (own_work E)
unfolding good_image own_work
own-enough E image e = let k = simp and-eq-true_iff at e in rw length-zeros ((between_iff 2 E.most_pages (image / E.width)).0 k.1).1

-- "return refusal × 65,536 + length"
pub packed-parts : (refusal length : ℕ) → length < 65536 → (packed_number refusal length / 65536 ≡ refusal) × (packed_number refusal length % 65536 ≡ length)
unfolding packed_number
packed-parts refusal length h = (omega arith, omega arith)

-- "the length being that of get's answer 0 or 7 and else 0"
pub get-length : (E : Edition) → Lawful E → (image work key out : List ℕ) → (get_outcome E image work key out).length ≤ value_most E.usable
unfolding get_outcome
get-length E lawful image work key out =
    guarded-all E image work _ _ _ _ lawful (λ (c : Got). c.length ≤ value_most E.usable) (λ r w n. omega arith)
    (λ ready w. go w (lookup key (to_map (decode E image))) (λ v e. value-fits E lawful (decode E image) (accepted E image ready.accepted).0 key v e))
  where
    go : (w : List ℕ) (o : Option (List ℕ)) → ((v : List ℕ) → o ≡ some v → length v ≤ value_most E.usable) → (gotten w out o).length ≤ value_most E.usable
    go w none f = unfold gotten in omega arith
    go w (some v) f = unfold gotten in either (λ (c : Got). c.length ≤ value_most E.usable) _ _ _ (f v refl) (f v refl)

pub exported_get_lem : (E : Edition) → Lawful E → value_most E.usable < 65536 → (image key out : List ℕ)
    → ((exported_get E image key out).number / 65536 ≡ (get_outcome E image (own_work E) key out).refusal)
    × ((exported_get E image key out).number % 65536 ≡ (get_outcome E image (own_work E) key out).length)
unfolding exported_get
exported_get_lem E lawful h image key out = packed-parts _ _ (omega (arith, get-length E lawful image (own_work E) key out))
