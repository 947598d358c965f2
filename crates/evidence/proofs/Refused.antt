-- Refusals 1 to 9, through the outcomes of the calls: the number, the other numbers and flags, and what every buffer holds afterwards.
use mathlib.Core.Path.{◌≡◌, refl}
use mathlib.Core.Bool.{true, false}
use mathlib.Core.List.{List, [], ◌∷◌, ◌++◌, map}
use Prim.Native.Nat.{ℕ, ◌*◌}
use Rattle.model.specs.Edition.{edition1}
use Rattle.model.specs.Image.{encode}
use Rattle.model.specs.Change.{formatted}
use Rattle.model.specs.Refusals.{good_image}
use Rattle.model.specs.Calls.{Checked, Got, Viewed, Described, Changed, Scanned, format_outcome, check_outcome, get_outcome, view_outcome, describe_outcome, put_outcome, delete_outcome, scan_outcome, put_in}
use Rattle.model.specs.Batch.{Batched, batch_outcome}
use Rattle.model.proofs.Rows.{key, value}
use Rattle.model.proofs.Texts.{bytes_of, bytes_of_all}
use Rattle.evidence.proofs.Stocked.{stocked, image, damaged_image, filled, work, work_with_roles, work_with_zeros, computing_stocked}

-- The calls side by side ---------------------------------------------------------------------------------------------------

-- the calls that take a key, with one key
pub record KeyCalls : Type 0 where
  pub got : Got
  pub viewed : Viewed
  pub described : Described
  pub changed : Changed
  pub deleted : Changed

-- and those that do not
pub record OtherCalls : Type 0 where
  pub checked : Checked
  pub scanned : Scanned
  pub batched : Batched

-- of an image, a work area, a key and a value; the output has 100 bytes
unfoldable pub with_key : List ℕ → List ℕ → List ℕ → List ℕ → KeyCalls
with_key img area k v =
    record {
      got = get_outcome edition1 img area k (filled 100);
      viewed = view_outcome edition1 img area k;
      described = describe_outcome edition1 img area k;
      changed = put_outcome edition1 img area k v;
      deleted = delete_outcome edition1 img area k;
    }

unfoldable pub without_key : List ℕ → List ℕ → OtherCalls
without_key img area =
    record {
      checked = check_outcome edition1 img area;
      scanned = scan_outcome edition1 img area [] [] (filled 100);
      batched = batch_outcome edition1 img area (bytes_of "G\t41\n") (filled 100);
    }

-- "Numbers that come with a refusal are 0, and flags no"; the image and the output stay, and the work area is as given
unfoldable pub key_refused : ℕ → List ℕ → List ℕ → KeyCalls
key_refused r img area =
    record {
      got = record { refusal = r; length = 0; work = area; out = filled 100 };
      viewed = record { at = 0; length = 0; work = area };
      described = record { refusal = r; length = 0; chained = false; work = area };
      changed = record { refusal = r; image = img; work = area };
      deleted = record { refusal = r; image = img; work = area };
    }

unfoldable pub refused : ℕ → List ℕ → List ℕ → OtherCalls
refused r img area =
    record {
      checked =
          record {
            refusal = r;
            leaf_pages = 0;
            inner_pages = 0;
            overflow_pages = 0;
            free_pages = 0;
            header_pages = 0;
            height = 0;
            entries = 0;
            work = area;
          };
      scanned = record { refusal = r; entries = 0; bytes = 0; more = false; work = area; out = filled 100 };
      batched = record { refusal = r; consumed = 0; written = 0; image = img; work = area; out = filled 100 };
    }

unfoldable pub computing_refused : Unit {0}
unfolding computing_stocked bytes_of bytes_of_all with_key without_key key_refused refused
computing_refused = tt

-- 1: "image length no multiple of 512, or n below 2 or above 1,024" ----------------------------------------------------------

-- "Image of 0, 511, 512 bytes: 1."
pub shortImages :
    map (λ l. format_outcome edition1 (filled l)) (0 ∷ 511 ∷ 512 ∷ [])
    ≡ map (λ l. record { refusal = 1; image = filled l }) (0 ∷ 511 ∷ 512 ∷ [])
unfolding computing_refused
shortImages = refl

pub shortImagesWithKey :
    map (λ l. with_key (filled l) work (0x41 ∷ []) (value 2)) (0 ∷ 511 ∷ 512 ∷ 1025 ∷ [])
    ≡ map (λ l. key_refused 1 (filled l) work) (0 ∷ 511 ∷ 512 ∷ 1025 ∷ [])
unfolding computing_refused
shortImagesWithKey = refl

pub shortImagesWithoutKey :
    map (λ l. without_key (filled l) work) (0 ∷ 511 ∷ 512 ∷ 1025 ∷ []) ≡ map (λ l. refused 1 (filled l) work) (0 ∷ 511 ∷ 512 ∷ 1025 ∷ [])
unfolding computing_refused
shortImagesWithoutKey = refl

-- by the length alone: 1,024 pages, and one more
pub many_pages : map (good_image edition1) (1024 * 512 ∷ 1025 * 512 ∷ []) ≡ true ∷ false ∷ []
unfolding computing_refused
many_pages = refl

-- "Of 1,024: n = 2, no free page."
pub two_pages : format_outcome edition1 (filled 1024) ≡ record { refusal = 0; image = encode edition1 (formatted 512 2) }
unfolding computing_refused
two_pages = refl

pub twoPagesChecked :
    check_outcome edition1 (encode edition1 (formatted 512 2)) (filled 2)
    ≡ record {
      refusal = 0;
      leaf_pages = 1;
      inner_pages = 0;
      overflow_pages = 0;
      free_pages = 0;
      header_pages = 1;
      height = 1;
      entries = 0;
      work = 5 ∷ 1 ∷ [];
    }
unfolding computing_refused
twoPagesChecked = refl

-- 9: "work area shorter than n" ------------------------------------------------------------------------------------------------

pub short_work : with_key image (filled 4) (0x41 ∷ []) (value 2) ≡ key_refused 9 image (filled 4)
unfolding computing_refused
short_work = refl

pub short_work_without_key : without_key image (filled 4) ≡ refused 9 image (filled 4)
unfolding computing_refused
short_work_without_key = refl

-- 3: "key of 0 or more than 32 bytes; for scan, a bound of more than 32" ---------------------------------------------------------

pub long_key : with_key image work (key 33 1) (value 2) ≡ key_refused 3 image work
unfolding computing_refused
long_key = refl

pub empty_key : with_key image work [] (value 2) ≡ key_refused 3 image work
unfolding computing_refused
empty_key = refl

pub badBounds :
    scan_outcome edition1 image work (key 33 1) [] (filled 9) ∷ scan_outcome edition1 image work [] (key 33 1) (filled 9) ∷ []
    ≡ map (λ (n : ℕ). record { refusal = 3; entries = 0; bytes = 0; more = false; work = work; out = filled 9 }) (0 ∷ 0 ∷ [])
unfolding computing_refused
badBounds = refl

-- 4: "value of more than 4,032 bytes" ------------------------------------------------------------------------------------------------

pub bad_value : put_outcome edition1 image work (0x41 ∷ []) (value 4033) ≡ record { refusal = 4; image = image; work = work }
unfolding computing_refused
bad_value = refl

-- 2: "check refuses the image": "only the work area, zeros" ----------------------------------------------------------------------------

pub damaged : with_key damaged_image work (0x44 ∷ []) (value 2) ≡ key_refused 2 damaged_image work_with_zeros
unfolding computing_refused
damaged = refl

pub damaged_without_key : without_key damaged_image work ≡ refused 2 damaged_image work_with_zeros
unfolding computing_refused
damaged_without_key = refl

-- "Tested in the order 1, 9, 3, 4, 2" ------------------------------------------------------------------------------------------------

pub one_before_nine : with_key (filled 512) [] (key 33 1) (value 4033) ≡ key_refused 1 (filled 512) []
unfolding computing_refused
one_before_nine = refl

pub nine_before_three : with_key damaged_image (filled 4) (key 33 1) (value 4033) ≡ key_refused 9 damaged_image (filled 4)
unfolding computing_refused
nine_before_three = refl

-- a bad key on a damaged image leaves the work area
pub three_before_four_and_two : with_key damaged_image work (key 33 1) (value 4033) ≡ key_refused 3 damaged_image work
unfolding computing_refused
three_before_four_and_two = refl

pub four_before_two : put_outcome edition1 damaged_image work (0x41 ∷ []) (value 4033) ≡ record { refusal = 4; image = damaged_image; work = work }
unfolding computing_refused
four_before_two = refl

-- 5: "key not in the map (get, view, delete)": "only the work area, roles"; put adds it ------------------------------------------------

pub missingKey :
    with_key image work (0x44 ∷ []) (value 2)
    ≡ record {
      got = record { refusal = 5; length = 0; work = work_with_roles; out = filled 100 };
      viewed = record { at = 0; length = 0; work = work_with_roles };
      described = record { refusal = 5; length = 0; chained = false; work = work_with_roles };
      changed = record { refusal = 0; image = encode edition1 (put_in edition1 stocked (0x44 ∷ []) (value 2)).store; work = work_with_roles };
      deleted = record { refusal = 5; image = image; work = work_with_roles };
    }
unfolding computing_refused
missingKey = refl

-- 6: "put: too few pages": three for two free ones, and four for two free ones and the old one -------------------------------------------

pub no_room :
    put_outcome edition1 image work (0x44 ∷ []) (value 1009) ∷ put_outcome edition1 image work (0x42 ∷ []) (value 1513) ∷ []
    ≡ map (λ (n : ℕ). record { refusal = 6; image = image; work = work_with_roles }) (0 ∷ 0 ∷ [])
unfolding computing_refused
no_room = refl

-- in two pages a value of 64 bytes has room, and one of 65 has none
pub noRoomInTwoPages :
    put_outcome edition1 (encode edition1 (formatted 512 2)) (filled 2) (0x41 ∷ []) (value 65)
    ≡ record { refusal = 6; image = encode edition1 (formatted 512 2); work = 5 ∷ 1 ∷ [] }
unfolding computing_refused
noRoomInTwoPages = refl

pub room_in_two_pages : (put_outcome edition1 (encode edition1 (formatted 512 2)) (filled 2) (0x41 ∷ []) (value 64)).refusal ≡ 0
unfolding computing_refused
room_in_two_pages = refl

-- 7: "get: output shorter than the value" ------------------------------------------------------------------------------------------------

-- "only the work area; gives the length needed"
pub get_too_short : get_outcome edition1 image work (0x42 ∷ []) (filled 69) ≡ record { refusal = 7; length = 70; work = work_with_roles; out = filled 69 }
unfolding computing_refused
get_too_short = refl

-- "later output bytes stay"
pub getJustFits :
    map (λ n. get_outcome edition1 image work (0x42 ∷ []) (filled n)) (70 ∷ 72 ∷ [])
    ≡ record { refusal = 0; length = 70; work = work_with_roles; out = value 70 }
    ∷ record { refusal = 0; length = 70; work = work_with_roles; out = value 70 ++ filled 2 } ∷ []
unfolding computing_refused
getJustFits = refl

-- a value of no bytes fits an output of none
pub get_nothing : get_outcome edition1 image work (0x43 ∷ []) [] ≡ record { refusal = 0; length = 0; work = work_with_roles; out = [] }
unfolding computing_refused
get_nothing = refl

-- "batch: a line whose whole answer doesn't fit isn't begun": the first line is done, and both numbers are real
pub batchTooShort :
    batch_outcome edition1 image work (bytes_of_all ("P\t44\t\n" ∷ "G\t42\n" ∷ "D\t44\n" ∷ [])) (filled 100)
    ≡ record {
      refusal = 7;
      consumed = 6;
      written = 4;
      image = encode edition1 (put_in edition1 stocked (0x44 ∷ []) []).store;
      work = work_with_roles;
      out = bytes_of "P\t0\n" ++ filled 96;
    }
unfolding computing_refused
batchTooShort = refl

-- 8: "a malformed batch line": "that line's answer only" ---------------------------------------------------------------------------------

pub malformedLine :
    batch_outcome edition1 image work (bytes_of "X\n") (filled 6)
    ≡ record { refusal = 0; consumed = 2; written = 4; image = image; work = work_with_roles; out = bytes_of "?\t8\n" ++ filled 2 }
unfolding computing_refused
malformedLine = refl
