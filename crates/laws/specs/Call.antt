-- Any call with all its arguments, the image that it leaves, and the map that it gives on a map.
use Rattle.std.specs.Prelude.{Bool, ◌||◌, List, [], ◌∷◌, ℕ, length, eqb}
use Rattle.octets.specs.Choice.{choose}
use Rattle.model.specs.Edition.{Edition}
use Rattle.model.specs.Types.{Entry}
use Rattle.model.specs.Map.{insert, erase}
use Rattle.model.specs.Refusals.{done, too_short}
use Rattle.model.specs.Calls.{put_outcome, delete_outcome}
use Rattle.model.specs.Batch.{batch_outcome}
use Rattle.laws.specs.Lines.{lines_of, begun, lines_map}

-- "check, get, view, put, delete, scan, batch" and view's companion, on an image: each with its work area, its bytes and its output
pub data Call : Type 0 where
  check : (work : List ℕ) → Call
  get : (work key out : List ℕ) → Call
  view : (work key : List ℕ) → Call
  describe : (work key : List ℕ) → Call
  put : (work key value : List ℕ) → Call
  delete : (work key : List ℕ) → Call
  scan : (work low high out : List ℕ) → Call
  batch : (work input out : List ℕ) → Call

-- "1, 9 and 2 refuse the batch"; 7 only stops it
unfoldable pub begins : ℕ → Bool
begins r = eqb r done || eqb r too_short

module _ (E : Edition) where
  -- the image after a call: only put, delete and batch write it
  unfoldable pub call_image : List ℕ → Call → List ℕ
  call_image image (check work) = image
  call_image image (get work key out) = image
  call_image image (view work key) = image
  call_image image (describe work key) = image
  call_image image (put work key value) = (put_outcome E image work key value).image
  call_image image (delete work key) = (delete_outcome E image work key).image
  call_image image (scan work low high out) = image
  call_image image (batch work input out) = (batch_outcome E image work input out).image

  -- the map after it: put inserts and delete erases where they answer 0, a batch does what its lines do, and a refused call leaves the map
  unfoldable pub call_map : List ℕ → Call → List Entry → List Entry
  call_map image (check work) m = m
  call_map image (get work key out) m = m
  call_map image (view work key) m = m
  call_map image (describe work key) m = m
  call_map image (put work key value) m = choose (eqb (put_outcome E image work key value).refusal done) (insert (record { key = key; value = value }) m) m
  call_map image (delete work key) m = choose (eqb (delete_outcome E image work key).refusal done) (erase key m) m
  call_map image (scan work low high out) m = m
  call_map image (batch work input out) m =
      choose (begins (batch_outcome E image work input out).refusal) (lines_map E image (begun E (length out) image (lines_of (length input) input)) m) m

  -- the images after each of some calls, and the maps
  unfoldable pub images_after : List ℕ → List Call → List (List ℕ)
  images_after image [] = []
  images_after image (c ∷ cs) = call_image image c ∷ images_after (call_image image c) cs

  unfoldable pub maps_after : List ℕ → List Call → List Entry → List (List Entry)
  maps_after image [] m = []
  maps_after image (c ∷ cs) m = call_map image c m ∷ maps_after (call_image image c) cs (call_map image c m)

  -- and after all of them
  unfoldable pub image_after : List ℕ → List Call → List ℕ
  image_after image [] = image
  image_after image (c ∷ cs) = image_after (call_image image c) cs

  unfoldable pub map_after : List ℕ → List Call → List Entry → List Entry
  map_after image [] m = m
  map_after image (c ∷ cs) m = map_after (call_image image c) cs (call_map image c m)
