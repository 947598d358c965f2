-- View and its companion, scan, and the numbers that the C host gets, on the small store.
use mathlib.Core.Path.{◌≡◌, refl}
use mathlib.Core.Bool.{true, false}
use mathlib.Core.List.{List, [], ◌∷◌, ◌++◌, map}
use Prim.Native.Nat.{ℕ, ◌+◌, ◌*◌}
use Rattle.model.specs.Edition.{edition1}
use Rattle.model.specs.Image.{encode}
use Rattle.model.specs.Calls.{Scanned, view_outcome, describe_outcome, scan_outcome, put_in, delete_in}
use Rattle.model.specs.Exported.{exported_put, exported_delete, exported_get, exported_check}
use Rattle.model.proofs.Rows.{key, value}
use Rattle.evidence.proofs.Stocked.{stocked, image, damaged_image, filled, work, work_with_roles, computing_stocked}

-- View ---------------------------------------------------------------------------------------------------------------------

-- "the inline value's bytes where they stand": the cell of 41 is at 506 of page 1, that of 43 at 496, and the value is after 4 bytes;
-- "a refusal, or a chained value, gives the empty part at offset 0"
pub viewed :
    map (λ b. view_outcome edition1 image work (b ∷ [])) (0x41 ∷ 0x42 ∷ 0x43 ∷ 0x44 ∷ [])
    ≡ record { at = 512 + 510; length = 2; work = work_with_roles }
    ∷ record { at = 0; length = 0; work = work_with_roles }
    ∷ record { at = 512 + 500; length = 0; work = work_with_roles }
    ∷ record { at = 0; length = 0; work = work_with_roles } ∷ []
unfolding computing_stocked
viewed = refl

-- "a companion call on the same arguments gives the refusal number, the value's length and whether it is chained"
pub described :
    map (λ b. describe_outcome edition1 image work (b ∷ [])) (0x41 ∷ 0x42 ∷ 0x43 ∷ 0x44 ∷ [])
    ≡ record { refusal = 0; length = 2; chained = false; work = work_with_roles }
    ∷ record { refusal = 0; length = 70; chained = true; work = work_with_roles }
    ∷ record { refusal = 0; length = 0; chained = false; work = work_with_roles }
    ∷ record { refusal = 5; length = 0; chained = false; work = work_with_roles } ∷ []
unfolding computing_stocked
described = refl

-- Scan ---------------------------------------------------------------------------------------------------------------------

-- the entries as they are written
unfoldable pub first_entry : List ℕ
first_entry = 1 ∷ 2 ∷ 0 ∷ 0x41 ∷ 0x01 ∷ 0x02 ∷ []

unfoldable pub second_entry : List ℕ
second_entry = 1 ∷ 70 ∷ 0 ∷ 0x42 ∷ value 70

unfoldable pub third_entry : List ℕ
third_entry = 1 ∷ 0 ∷ 0 ∷ 0x43 ∷ []

-- a scan into an output of so many bytes
unfoldable pub scanned : List ℕ → List ℕ → ℕ → Scanned
scanned low high room = scan_outcome edition1 image work low high (filled room)

-- no bounds; the output past the bytes written stays
pub scanAll :
    scanned [] [] 90
    ≡ record { refusal = 0; entries = 3; bytes = 84; more = false; work = work_with_roles; out = first_entry ++ (second_entry ++ (third_entry ++ filled 6)) }
unfolding computing_stocked scanned first_entry second_entry third_entry
scanAll = refl

-- "a lower bound (included) and an upper bound (excluded)"
pub scanBetween :
    scanned (0x42 ∷ []) (0x43 ∷ []) 90 ∷ scanned (0x41 ∷ 0x00 ∷ []) [] 78 ∷ scanned [] (0x42 ∷ []) 7 ∷ []
    ≡ record { refusal = 0; entries = 1; bytes = 74; more = false; work = work_with_roles; out = second_entry ++ filled 16 }
    ∷ record { refusal = 0; entries = 2; bytes = 78; more = false; work = work_with_roles; out = second_entry ++ third_entry }
    ∷ record { refusal = 0; entries = 1; bytes = 6; more = false; work = work_with_roles; out = first_entry ++ filled 1 } ∷ []
unfolding computing_stocked scanned first_entry second_entry third_entry
scanBetween = refl

-- "Crossed bounds give 0 entries and answer 0", and equal ones
pub scanCrossed :
    scanned (0x43 ∷ []) (0x41 ∷ []) 9 ∷ scanned (0x42 ∷ []) (0x42 ∷ []) 9 ∷ []
    ≡ map (λ (n : ℕ). record { refusal = 0; entries = 0; bytes = 0; more = false; work = work_with_roles; out = filled 9 }) (0 ∷ 0 ∷ [])
unfolding computing_stocked scanned
scanCrossed = refl

-- "stops before the first that doesn't fit", though one after it would; "whether entries of the range remain"
pub scanShort :
    map (scanned [] []) (0 ∷ 79 ∷ 80 ∷ [])
    ≡ record { refusal = 0; entries = 0; bytes = 0; more = true; work = work_with_roles; out = [] }
    ∷ record { refusal = 0; entries = 1; bytes = 6; more = true; work = work_with_roles; out = first_entry ++ filled 73 }
    ∷ record { refusal = 0; entries = 2; bytes = 80; more = true; work = work_with_roles; out = first_entry ++ second_entry } ∷ []
unfolding computing_stocked scanned first_entry second_entry
scanShort = refl

-- Exported calls -------------------------------------------------------------------------------------------------------------

-- "refusal × 65,536 + length, the length being that of get's answer 0 or 7 and else 0"
pub exportedGets :
    exported_get edition1 image (0x41 ∷ []) (filled 4) ∷ exported_get edition1 image (0x42 ∷ []) (filled 4)
    ∷ exported_get edition1 image (0x44 ∷ []) (filled 4) ∷ exported_get edition1 damaged_image (0x41 ∷ []) (filled 4) ∷ []
    ≡ record { number = 2; buffer = 0x01 ∷ 0x02 ∷ filled 2 } ∷ record { number = 7 * 65536 + 70; buffer = filled 4 }
    ∷ record { number = 5 * 65536; buffer = filled 4 } ∷ record { number = 2 * 65536; buffer = filled 4 } ∷ []
unfolding computing_stocked
exportedGets = refl

pub exportedPuts :
    exported_put edition1 image (0x41 ∷ []) (value 3) ∷ exported_put edition1 image (key 33 1) (value 3)
    ∷ exported_put edition1 image (0x41 ∷ []) (value 4033) ∷ exported_put edition1 image (0x41 ∷ []) (value 1009) ∷ []
    ≡ record { number = 0; buffer = encode edition1 (put_in edition1 stocked (0x41 ∷ []) (value 3)).store } ∷ record { number = 3 * 65536; buffer = image }
    ∷ record { number = 4 * 65536; buffer = image } ∷ record { number = 6 * 65536; buffer = image } ∷ []
unfolding computing_stocked
exportedPuts = refl

pub exportedDeletes :
    exported_delete edition1 image (0x42 ∷ []) ∷ exported_delete edition1 image (0x44 ∷ []) ∷ []
    ≡ record { number = 0; buffer = encode edition1 (delete_in edition1 stocked (0x42 ∷ [])).store } ∷ record { number = 5 * 65536; buffer = image } ∷ []
unfolding computing_stocked
exportedDeletes = refl

pub exported_checks : map (exported_check edition1) (image ∷ damaged_image ∷ filled 512 ∷ []) ≡ 0 ∷ 2 * 65536 ∷ 1 * 65536 ∷ []
unfolding computing_stocked
exported_checks = refl
