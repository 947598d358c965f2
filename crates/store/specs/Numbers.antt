-- The number of each refusal, as document 01's table has it, and of how a call went.
use Rattle.std.specs.Prelude.{ℕ, Result, Ok, Err}
use Rattle.model.specs.Refusals.{done, bad_image, damaged, bad_key, bad_value, missing, no_room, too_short, malformed, small_work}
use Rattle.store.specs.declared.refusal.Refusal.{Refusal}
use Rattle.store.specs.declared.refusal.Refusal.TheVariants.{BadImage, Damaged, BadKey, BadValue, Missing, NoRoom, TooShort, Malformed, SmallWork}

abbrev pub number_of : Refusal → ℕ
number_of BadImage = bad_image
number_of Damaged = damaged
number_of BadKey = bad_key
number_of BadValue = bad_value
number_of Missing = missing
number_of NoRoom = no_room
number_of TooShort = too_short
number_of Malformed = malformed
number_of SmallWork = small_work

abbrev pub outcome_number : {A : Type 0} → Result A Refusal → ℕ
outcome_number (Ok x) = done
outcome_number (Err refusal) = number_of refusal
