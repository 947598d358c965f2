-- The refusal table: the numbers, the order of the tests, and what the work area holds afterwards.
use Rattle.std.specs.Prelude.{Bool, not, ◌&&◌, List, [], ◌∷◌, ◌++◌, map, ℕ, ◌*◌, ◌/◌, length, drop, ltb, eqb}
use Rattle.octets.specs.Choice.{choose}
use Rattle.octets.specs.Runs.{zeros}
use Rattle.model.specs.Lists.{from}
use Rattle.model.specs.Edition.{Edition}
use Rattle.model.specs.Types.{Store, Mark, marked, walked}
use Rattle.model.specs.Sizes.{key_most, value_most}
use Rattle.model.specs.Decode.{decode}
use Rattle.model.specs.Accept.{between, accepts}

-- The numbers --------------------------------------------------------------------------------------------------------------

abbrev pub done : ℕ
done = 0

-- "image length no multiple of 512, or n below 2 or above 1,024"
abbrev pub bad_image : ℕ
bad_image = 1

-- "check refuses the image"
abbrev pub damaged : ℕ
damaged = 2

-- "key of 0 or more than 32 bytes; for scan, a bound of more than 32"
abbrev pub bad_key : ℕ
bad_key = 3

-- "value of more than 4,032 bytes"
abbrev pub bad_value : ℕ
bad_value = 4

-- "key not in the map (get, view, delete)"
abbrev pub missing : ℕ
missing = 5

-- "put: too few pages"
abbrev pub no_room : ℕ
no_room = 6

-- "get: output shorter than the value; batch: see below"
abbrev pub too_short : ℕ
too_short = 7

-- "a malformed batch line"
abbrev pub malformed : ℕ
malformed = 8

-- "work area shorter than n"
abbrev pub small_work : ℕ
small_work = 9

-- What the lengths alone refuse ----------------------------------------------------------------------------------------------

-- of keys, bounds and values, by their lengths
unfoldable pub good_key : ℕ → Bool
good_key k = between 1 key_most k

unfoldable pub good_bounds : ℕ → ℕ → Bool
good_bounds low high = not (ltb key_most low) && not (ltb key_most high)

unfoldable pub good_value : ℕ → ℕ → Bool
good_value L v = not (ltb (value_most L) v)

-- 3 and 4
unfoldable pub by_arguments : Bool → Bool → ℕ
by_arguments keys value = choose keys (choose value done bad_value) bad_key

module _ (E : Edition) where
  -- of an image, by its length
  unfoldable pub good_image : ℕ → Bool
  good_image l = let n = l / E.width in eqb (n * E.width) l && between 2 E.most_pages n

  -- "Tested in the order 1, 9, 3, 4": the first that refuses, else 0
  unfoldable pub by_lengths : ℕ → ℕ → Bool → Bool → ℕ
  by_lengths image work keys value =
      choose (good_image image) (choose (ltb work (image / E.width)) small_work (by_arguments keys value)) bad_image

-- The work area --------------------------------------------------------------------------------------------------------------

-- a page's role, as the walk marks it
unfoldable pub role_at : ℕ → List Mark → ℕ
role_at p [] = 0
role_at p (m ∷ ms) = let further = role_at p ms in choose (eqb p m.page) m.role further

unfoldable pub roles : Store → List ℕ
roles s = let ms = marked 5 0 ∷ walked s in map (λ p. role_at p ms) (from 0 s.n)

-- "entry i is page i's role .., or 0 in all n entries if the image is damaged. Entries from n on are never touched"
unfoldable pub entered : List ℕ → List ℕ → List ℕ
entered roles work = roles ++ drop (length roles) work

-- The order of a call's tests ------------------------------------------------------------------------------------------------

-- What the lengths refuse, then what check refuses, then the rest. `refuse` makes the call's outcome of a refusal number and the
-- work area afterwards, and `go` of the store and the work area with its roles.
unfoldable pub guarded : {A : Type 0} → Edition → List ℕ → List ℕ → Bool → Bool → (ℕ → List ℕ → A) → (Store → List ℕ → A) → A
guarded E image work keys value refuse go =
    let r = by_lengths E (length image) (length work) keys value in
    let s = decode E image in
    let accepted = go s (entered (roles s) work) in
    let refused = refuse damaged (entered (zeros (length image / E.width)) work) in
    let checked = choose (accepts E image) accepted refused in
    choose (eqb r done) checked (refuse r work)
