-- The room rule through the calls: on an accepted image put is refused with 6 exactly if its rules take more pages than there are, and
-- once it is done the free list is what the rules leave.
use mathlib.Core.Path.{◌≡◌, ap}
use mathlib.Core.Logic.{◌↔◌}
use mathlib.Core.Bool.{true, false}
use mathlib.Core.List.{List}
use mathlib.Core.Option.{some}
use Prim.Native.Nat.{ℕ, ◌+◌, ◌≤◌, ◌<◌}
use native.Mathlib.Omega.{arith}
use lib.ListN.{length}
use Rattle.octets.specs.Choice.{choose}
use Rattle.model.specs.Edition.{Edition}
use Rattle.model.specs.Types.{Store}
use Rattle.model.specs.Map.{lookup}
use Rattle.model.specs.InLeaf.{removed}
use Rattle.model.specs.Decode.{decode}
use Rattle.model.specs.Change.{spot, old_chain, splits, taken, has_room, put_done, delete_done}
use Rattle.model.specs.Refusals.{done, no_room, good_key, good_value}
use Rattle.model.specs.Calls.{Changed, put_outcome, delete_outcome}
use Rattle.model.proofs.Editions.{Lawful}
use Rattle.model.proofs.Tests.{cases}
use Rattle.laws_image.proofs.Whole.{accepted, decode-encode}
use Rattle.laws_size.proofs.Bools.{good_key_iff, good_value_iff}
use Rattle.laws_size.proofs.Taken.{room_iff, no_room_iff}
use Rattle.laws_size.proofs.Mended.{mended}
use Rattle.laws_size.proofs.Room.{changed, room-put, room-delete}
use Rattle.laws.specs.Ready.{Ready, map_of}
use Rattle.laws.proofs.Kept.{valid-sorted_iff, put-valid, delete-valid}
use Rattle.laws.proofs.Changes.{put-room, put_full, delete-found}

module _ (E : Edition) (lawful : Lawful E) (image work key value : List ℕ)
    (ready : Ready E image work (good_key (length key)) (good_value E.usable (length value))) where
  abbrev L : ℕ
  L = E.usable

  abbrev s : Store
  s = decode E image

  abbrev o : Changed
  o = put_outcome E image work key value

  full : has_room L s key value ≡ false → o.refusal ≡ no_room
  full e = ap (λ (c : Changed). c.refusal) (put_full E lawful image work key value ready e)

  roomy : has_room L s key value ≡ true → o.refusal ≡ done
  roomy e = ap (λ (c : Changed). c.refusal) (put-room E lawful image work key value ready e)

  -- "(i) the pages taken must not outnumber the free pages plus the old value's chain, else 6"
  pub put-room_iff : ((put_outcome E image work key value).refusal ≡ no_room)
      ↔ (length (decode E image).free + length (old_chain (decode E image) key) < taken E.usable (decode E image) key value)
  put-room_iff = (
    λ e. (no_room_iff L s key value).0 (cases (has_room L s key value) (λ h. absurd (omega (arith, roomy h))) (λ h. h)),
    λ h. full ((no_room_iff L s key value).1 h),
  )

  pub put-done_iff : ((put_outcome E image work key value).refusal ≡ done)
      ↔ (taken E.usable (decode E image) key value ≤ length (decode E image).free + length (old_chain (decode E image) key))
  put-done_iff = (
    λ e. (room_iff L s key value).0 (cases (has_room L s key value) (λ h. h) (λ h. absurd (omega (arith, full h)))),
    λ h. roomy ((room_iff L s key value).1 h),
  )

  -- once done, so many fewer are free as were taken, and more by the old chain and by what mending gave back, where the leaf did not split
  pub put-free : (put_outcome E image work key value).refusal ≡ done
      → length (decode E (put_outcome E image work key value).image).free + taken E.usable (decode E image) key value
      ≡ length (decode E image).free + length (old_chain (decode E image) key)
      + choose (splits E.usable (decode E image) key value) 0
      (length (mended E.usable (spot (decode E image) key).around (changed E.usable (decode E image) key value)))
  put-free e =
      let has = (room_iff L s key value).1 (put-done_iff.0 e) in
      let t = (accepted E image ready.accepted).0 in
      let after = decode-encode E lawful (put_done L s key value) (put-valid E lawful s key value ready.good-keys ready.good-value has t) in
      rw (put-room E lawful image work key value ready has, after)
      (room-put L s key value lawful.room ((good_key_iff key).0 ready.good-keys) ((good_value_iff L (length value)).0 ready.good-value)
      ((valid-sorted_iff E lawful s).0 t).0.full has)

-- delete takes none
pub delete-free : (E : Edition) → Lawful E → (image work key v : List ℕ) → Ready E image work (good_key (length key)) true
    → lookup key (map_of E image) ≡ some v
    → length (decode E (delete_outcome E image work key).image).free
    ≡ length (decode E image).free + length (old_chain (decode E image) key)
    + length (mended E.usable (spot (decode E image) key).around (removed key (spot (decode E image) key).leaf))
delete-free E lawful image work key v ready e =
    let s = decode E image in
    let t = (accepted E image ready.accepted).0 in
    rw (delete-found E lawful image work key ready v e, decode-encode E lawful (delete_done E.usable s key) (delete-valid E lawful s key t))
    (room-delete E.usable s key)
