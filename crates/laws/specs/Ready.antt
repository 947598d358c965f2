-- A call that neither the lengths nor check refuses.
use Rattle.std.specs.Prelude.{◌≡◌, Bool, true, List, ℕ, ◌/◌, ◌≤◌, length}
use Rattle.model.specs.Edition.{Edition}
use Rattle.model.specs.Types.{Entry, to_map}
use Rattle.model.specs.Decode.{decode}
use Rattle.model.specs.Accept.{accepts}
use Rattle.model.specs.Refusals.{roles, entered}

-- an accepted image, a work area with an entry for each page, and keys and a value of good lengths
pub record Ready (E : Edition) (image work : List ℕ) (keys value : Bool) : Type 0 where
  pub accepted : accepts E image ≡ true
  pub enough : length image / E.width ≤ length work
  pub good-keys : keys ≡ true
  pub good-value : value ≡ true

-- the map of an image
unfoldable pub map_of : Edition → List ℕ → List Entry
map_of E image = to_map (decode E image)

-- "entry i is page i's role .. as found before any change": the work area after such a call
unfoldable pub work_after : Edition → List ℕ → List ℕ → List ℕ
work_after E image work = entered (roles (decode E image)) work
