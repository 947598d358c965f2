-- Document 01's edition is lawful, so all that is said of any edition holds of it; here is what a reader may want to cite.
use mathlib.Core.Path.{◌≡◌}
use mathlib.Core.Logic.{◌↔◌}
use mathlib.Core.Bool.{true}
use mathlib.Core.List.{List, [], map}
use Prim.Native.Nat.{ℕ, suc, ◌≤◌}
use lib.ListN.{length}
use Rattle.model.specs.Edition.{edition1}
use Rattle.model.specs.Types.{Store}
use Rattle.model.specs.Image.{encode}
use Rattle.model.specs.Decode.{decode}
use Rattle.model.specs.Accept.{valid, accepts}
use Rattle.model.specs.Refusals.{good_image}
use Rattle.model.specs.Calls.{format_outcome}
use Rattle.model.proofs.Editions.{lawful1}
use Rattle.model.proofs.Each.{All}
use Rattle.laws_image.proofs.Whole.{accepts_iff}
use Rattle.laws.specs.Ready.{map_of}
use Rattle.laws.specs.Call.{Call, images_after, maps_after}
use Rattle.laws.proofs.Levels.{accepted-levels}
use Rattle.laws.proofs.Sequences.{sequence, fresh-sequence}

-- "Exactly the images with": those of the valid stores
pub accepts_iff_1 : (image : List ℕ) → (accepts edition1 image ≡ true) ↔ ((s : Store) × ((valid edition1 s ≡ true) × (encode edition1 s ≡ image)))
accepts_iff_1 image = accepts_iff edition1 lawful1 image

-- "height 1 to 4"
pub four_levels_1 : (image : List ℕ) → accepts edition1 image ≡ true → suc (decode edition1 image).depth ≤ 4
four_levels_1 image t = accepted-levels edition1 image t

-- after any calls on an accepted image
pub sequence_1 : (image : List ℕ) (cs : List Call) → accepts edition1 image ≡ true
    → All (λ i. accepts edition1 i ≡ true) (images_after edition1 image cs)
    × (map (map_of edition1) (images_after edition1 image cs) ≡ maps_after edition1 image cs (map_of edition1 image))
sequence_1 image cs t = sequence edition1 lawful1 image cs t

-- and on a buffer that was formatted
pub fresh-sequence_1 : (buffer : List ℕ) (cs : List Call) → good_image edition1 (length buffer) ≡ true → let image = (format_outcome edition1 buffer).image in
    All (λ i. accepts edition1 i ≡ true) (images_after edition1 image cs)
    × (map (map_of edition1) (images_after edition1 image cs) ≡ maps_after edition1 image cs [])
fresh-sequence_1 buffer cs g = fresh-sequence edition1 lawful1 buffer cs g
