-- The outcome of each call, from all its inputs: the numbers that it answers with, and what each buffer that it may write holds afterwards.
-- "Numbers that come with a refusal are 0, and flags no, unless the table gives them."
use Rattle.std.specs.Prelude.{Bool, true, false, List, [], ◌∷◌, ◌++◌, map, ℕ, suc, ◌+◌, ◌*◌, ◌-◌, ◌/◌, length, leb, ltb, eqb}
use Rattle.std.proofs.Math.Option.{Option, none, some}
use Rattle.octets.specs.Choice.{choose}
use Rattle.octets.specs.Runs.{over}
use Rattle.octets.specs.Numbers.{bytes16}
use Rattle.octets.specs.Keys.{compare_keys, three}
use Rattle.model.specs.Lists.{gather, total, times}
use Rattle.model.specs.Edition.{Edition}
use Rattle.model.specs.Types.{Cell, Leaf, Store, Entry, leaves, to_map}
use Rattle.model.specs.Map.{lookup, range}
use Rattle.model.specs.Sizes.{inline_most}
use Rattle.model.specs.Image.{encode}
use Rattle.model.specs.Change.{formatted, has_room, put_done, delete_done}
use Rattle.model.specs.Refusals.{done, bad_image, missing, no_room, too_short, good_key, good_bounds, good_value, good_image, roles, guarded}

-- Format -------------------------------------------------------------------------------------------------------------------

pub record Formatted : Type 0 where
  pub refusal : ℕ
  pub image : List ℕ

unfoldable pub format_outcome : Edition → List ℕ → Formatted
format_outcome E image =
    let fresh = encode E (formatted E.usable (length image / E.width)) in
    choose (good_image E (length image)) (record { refusal = done; image = fresh }) (record { refusal = bad_image; image = image })

-- Check --------------------------------------------------------------------------------------------------------------------

-- "Check returns the count of pages in each role, the height and the entry count; all 0 when refused"
pub record Checked : Type 0 where
  pub refusal : ℕ
  pub leaf_pages : ℕ
  pub inner_pages : ℕ
  pub overflow_pages : ℕ
  pub free_pages : ℕ
  pub header_pages : ℕ
  pub height : ℕ
  pub entries : ℕ
  pub work : List ℕ

unfoldable pub check_refused : ℕ → List ℕ → Checked
check_refused r work =
    record { refusal = r; leaf_pages = 0; inner_pages = 0; overflow_pages = 0; free_pages = 0; header_pages = 0; height = 0; entries = 0; work = work }

unfoldable pub check_done : Store → List ℕ → Checked
check_done s work =
    let rs = roles s in
    record {
      refusal = done;
      leaf_pages = times 1 rs;
      inner_pages = times 2 rs;
      overflow_pages = times 3 rs;
      free_pages = times 4 rs;
      header_pages = times 5 rs;
      height = suc s.depth;
      entries = length (to_map s);
      work = work;
    }

unfoldable pub check_outcome : Edition → List ℕ → List ℕ → Checked
check_outcome E image work = guarded E image work true true check_refused check_done

-- Get ----------------------------------------------------------------------------------------------------------------------

pub record Got : Type 0 where
  pub refusal : ℕ
  pub length : ℕ
  pub work : List ℕ
  pub out : List ℕ

-- "Get writes the value at the start of the output; later output bytes stay"
unfoldable pub gotten : List ℕ → List ℕ → Option (List ℕ) → Got
gotten work out none = record { refusal = missing; length = 0; work = work; out = out }
gotten work out (some v) =
    choose (leb (length v) (length out))
    (record { refusal = done; length = length v; work = work; out = over out 0 v })
    (record { refusal = too_short; length = length v; work = work; out = out })

unfoldable pub get_outcome : Edition → List ℕ → List ℕ → List ℕ → List ℕ → Got
get_outcome E image work key out =
    guarded E image work (good_key (length key)) true (λ r w. record { refusal = r; length = 0; work = w; out = out })
    (λ s w. gotten w out (lookup key (to_map s)))

-- View ---------------------------------------------------------------------------------------------------------------------

-- a cell, and the offset in the image of its page
pub record Standing : Type 0 where
  pub base : ℕ
  pub cell : Cell

unfoldable pub standing : Edition → Store → List Standing
standing E s = gather (λ (l : Leaf). map (λ (c : Cell). record { base = l.page * E.width; cell = c }) l.cells) (leaves s.depth s.root)

unfoldable pub standing_of : List ℕ → List Standing → Option Standing
standing_of k [] = none
standing_of k (x ∷ xs) = let further = standing_of k xs in three (compare_keys k x.cell.key) none (some x) further

-- the part of the image that view answers with
pub record Viewed : Type 0 where
  pub at : ℕ
  pub length : ℕ
  pub work : List ℕ

-- "A refusal, or a chained value, gives the empty part at offset 0"
unfoldable pub view_nothing : List ℕ → Viewed
view_nothing work = record { at = 0; length = 0; work = work }

-- "the inline value's bytes where they stand": after the two lengths and the key
unfoldable pub view_done : List ℕ → Option Standing → Viewed
view_done work none = view_nothing work
view_done work (some x) =
    let c = x.cell in
    choose (leb (length c.value) inline_most)
    (record { at = x.base + (c.at + (3 + length c.key)); length = length c.value; work = work })
    (view_nothing work)

unfoldable pub view_outcome : Edition → List ℕ → List ℕ → List ℕ → Viewed
view_outcome E image work key =
    guarded E image work (good_key (length key)) true (λ r w. view_nothing w) (λ s w. view_done w (standing_of key (standing E s)))

-- "a companion call on the same arguments gives the refusal number, the value's length and whether it is chained"
pub record Described : Type 0 where
  pub refusal : ℕ
  pub length : ℕ
  pub chained : Bool
  pub work : List ℕ

unfoldable pub describe_done : List ℕ → Option (List ℕ) → Described
describe_done work none = record { refusal = missing; length = 0; chained = false; work = work }
describe_done work (some v) = record { refusal = done; length = length v; chained = ltb inline_most (length v); work = work }

unfoldable pub describe_outcome : Edition → List ℕ → List ℕ → List ℕ → Described
describe_outcome E image work key =
    guarded E image work (good_key (length key)) true (λ r w. record { refusal = r; length = 0; chained = false; work = w })
    (λ s w. describe_done w (lookup key (to_map s)))

-- Put and delete -------------------------------------------------------------------------------------------------------------

-- a refusal number and the store afterwards
pub record Answer : Type 0 where
  pub refusal : ℕ
  pub store : Store

unfoldable pub put_in : Edition → Store → List ℕ → List ℕ → Answer
put_in E s k v =
    let changed = put_done E.usable s k v in
    choose (has_room E.usable s k v) (record { refusal = done; store = changed }) (record { refusal = no_room; store = s })

unfoldable pub delete_found : Edition → Store → List ℕ → Option (List ℕ) → Answer
delete_found E s k none = record { refusal = missing; store = s }
delete_found E s k (some v) = record { refusal = done; store = delete_done E.usable s k }

unfoldable pub delete_in : Edition → Store → List ℕ → Answer
delete_in E s k = delete_found E s k (lookup k (to_map s))

pub record Changed : Type 0 where
  pub refusal : ℕ
  pub image : List ℕ
  pub work : List ℕ

-- a call that is refused leaves the image
unfoldable pub changed_by : Edition → List ℕ → List ℕ → Answer → Changed
changed_by E image work a =
    let afterwards = encode E a.store in
    choose (eqb a.refusal done) (record { refusal = done; image = afterwards; work = work })
    (record { refusal = a.refusal; image = image; work = work })

unfoldable pub put_outcome : Edition → List ℕ → List ℕ → List ℕ → List ℕ → Changed
put_outcome E image work key value =
    guarded E image work (good_key (length key)) (good_value E.usable (length value)) (λ r w. record { refusal = r; image = image; work = w })
    (λ s w. changed_by E image w (put_in E s key value))

unfoldable pub delete_outcome : Edition → List ℕ → List ℕ → List ℕ → Changed
delete_outcome E image work key =
    guarded E image work (good_key (length key)) true (λ r w. record { refusal = r; image = image; work = w })
    (λ s w. changed_by E image w (delete_in E s key))

-- Scan -----------------------------------------------------------------------------------------------------------------------

-- "each as key length (1 byte), value length (2), key, value"
unfoldable pub entry_bytes : Entry → List ℕ
entry_bytes e = length e.key ∷ bytes16 (length e.value) ++ (e.key ++ e.value)

unfoldable pub entry_size : Entry → ℕ
entry_size e = 3 + length e.key + length e.value

-- "stops before the first that doesn't fit": those that are written into so many bytes
unfoldable pub fitting : ℕ → List Entry → List Entry
fitting room [] = []
fitting room (e ∷ es) = let further = e ∷ fitting (room - entry_size e) es in choose (leb (entry_size e) room) further []

pub record Scanned : Type 0 where
  pub refusal : ℕ
  pub entries : ℕ
  pub bytes : ℕ
  pub more : Bool
  pub work : List ℕ
  pub out : List ℕ

unfoldable pub scan_done : List ℕ → List ℕ → List Entry → Scanned
scan_done work out es =
    let written = fitting (length out) es in
    record {
      refusal = done;
      entries = length written;
      bytes = total entry_size written;
      more = ltb (length written) (length es);
      work = work;
      out = over out 0 (gather entry_bytes written);
    }

unfoldable pub scan_outcome : Edition → List ℕ → List ℕ → List ℕ → List ℕ → List ℕ → Scanned
scan_outcome E image work low high out =
    guarded E image work (good_bounds (length low) (length high)) true
    (λ r w. record { refusal = r; entries = 0; bytes = 0; more = false; work = w; out = out })
    (λ s w. scan_done w out (range low high (to_map s)))
