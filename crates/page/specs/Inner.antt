-- An inner page: what the code reads and writes of it, by its bytes, and the rule of the page by itself.
use Rattle.std.specs.Prelude.{◌≡◌, true, List, [], ◌∷◌, ◌++◌, map, ℕ, zero, suc, ◌+◌, ◌*◌, ◌≤◌, ◌<◌, length, get_or, take, drop}
use Rattle.octets.specs.Choice.{choose}
use Rattle.octets.specs.Runs.{part, zeros}
use Rattle.octets.specs.Numbers.{word16, bytes16}
use Rattle.octets.specs.Keys.{before}
use Rattle.model.specs.Lists.{every}
use Rattle.model.specs.Types.{Sep}
use Rattle.model.specs.Sizes.{key_most, inner_most}
use Rattle.model.specs.Layouts.{InnerPage, to_inner, of_inner, record_of, record_bytes}
use Rattle.model.specs.Accept.{key_fits, rising}

-- Read -----------------------------------------------------------------------------------------------------------------------

-- the child at a place
unfoldable pub child_of : List ℕ → ℕ → ℕ
child_of page zero = word16 page 8
child_of page (suc i) = (record_of page i).child

-- the key of record i is inside the page
pub record KeyIn (page : List ℕ) (i : ℕ) : Type 0 where
  pub inside : 12 + 35 * i + 3 + get_or page (12 + 35 * i) 0 ≤ length page

-- a key by value: its bytes with what stands behind them, and its length
pub record key_of (page : List ℕ) (i : ℕ) (bytes : List ℕ) (len : ℕ) : Type 0 where
  pub are : bytes ≡ part page (12 + 35 * i + 3) 32
  pub long : len ≡ get_or page (12 + 35 * i) 0
  pub byte : len < 256

-- where a key goes among separators
unfoldable pub place_in : List ℕ → List (Sep ℕ) → ℕ
place_in k [] = 0
place_in k (s ∷ ss) = let further = suc (place_in k ss) in choose (before k s.key) 0 further

-- every key is inside the page
pub record Keyed (page : List ℕ) : Type 0 where
  pub few : word16 page 2 ≤ 14
  pub long : 12 + 35 * 14 ≤ length page
  pub keys : (i : ℕ) → i < word16 page 2 → get_or page (12 + 35 * i) 0 ≤ 32

-- Written --------------------------------------------------------------------------------------------------------------------

unfoldable pub record_is : ℕ → ℕ → List ℕ → List ℕ
record_is len child bytes = len ∷ bytes16 child ++ bytes

unfoldable pub front_is : ℕ → ℕ → List ℕ
front_is c first = 2 ∷ 0 ∷ bytes16 c ++ (zeros 4 ++ (bytes16 first ++ (0 ∷ 0 ∷ [])))

-- there is room for one record more, at place i
pub record Fits (p : List ℕ) (c i : ℕ) : Type 0 where
  pub place : i ≤ c
  pub few : c ≤ 14
  pub room : 12 + 35 * (c + 1) ≤ length p

-- there is room for the records of another page
pub record Joins (p from : List ℕ) : Type 0 where
  pub few : word16 p 2 ≤ 14
  pub many : word16 from 2 ≤ 14
  pub room : 12 + 35 * (word16 p 2 + word16 from 2) ≤ length p
  pub long : 12 + 35 * word16 from 2 ≤ length from
  pub front : 12 ≤ length from

-- What a change makes of an inner page ---------------------------------------------------------------------------------------

-- every key has at most 32 bytes
pub data Short : List (Sep ℕ) → Type 0 where
  none-short : Short []
  one-short : {s : Sep ℕ} {ss : List (Sep ℕ)} → length s.key ≤ 32 → Short ss → Short (s ∷ ss)

-- the bytes p are those of the inner page q
pub record Is (p : List ℕ) (q : InnerPage) : Type 0 where
  pub short : Short q.rest
  pub room : 12 + 35 * length q.rest ≤ length p
  pub same : p ≡ to_inner (length p) q

abbrev pub inner : ℕ → List (Sep ℕ) → InnerPage
inner first rest = record { first = first; rest = rest }

-- what is read past the last record
abbrev pub no_sep : Sep ℕ
no_sep = record { key = []; child = 0 }

unfoldable pub Inserts : List ℕ → ℕ → List ℕ → List ℕ → Type 0
Inserts p i r p' =
    (q : InnerPage) (s : Sep ℕ) → Is p q → length s.key ≤ 32 → r ≡ record_bytes s
    → Is p' (inner q.first (take i q.rest ++ (s ∷ drop i q.rest)))

unfoldable pub Removes : List ℕ → ℕ → List ℕ → Type 0
Removes p i p' = (q : InnerPage) → Is p q → Is p' (inner q.first (take i q.rest ++ drop (suc i) q.rest))

unfoldable pub Replaces : List ℕ → ℕ → List ℕ → List ℕ → Type 0
Replaces p i r p' =
    (q : InnerPage) (s : Sep ℕ) → Is p q → i < length q.rest → length s.key ≤ 32 → r ≡ record_bytes s
    → Is p' (inner q.first (take i q.rest ++ (s ∷ drop (suc i) q.rest)))

unfoldable pub SetsFirst : List ℕ → ℕ → List ℕ → Type 0
SetsFirst p child p' = (q : InnerPage) → Is p q → Is p' (inner child q.rest)

unfoldable pub Fills : List ℕ → ℕ → ℕ → ℕ → List ℕ → Type 0
Fills from first a n p' = (q : InnerPage) → Is from q → a + n ≤ length q.rest → Is p' (inner first (take n (drop a q.rest)))

unfoldable pub Appends : List ℕ → List ℕ → List ℕ → Type 0
Appends p from p' = (q r : InnerPage) → Is p q → Is from r → Is p' (inner q.first (q.rest ++ r.rest))

-- The page by itself ---------------------------------------------------------------------------------------------------------

-- the first 12 bytes are those of the page's count and first child
pub record FrontBytes (p : List ℕ) : Type 0 where
  pub same : part p 0 12 ≡ front_is (word16 p 2) (word16 p 8)

-- the 35 bytes of record i are those of its key and child
pub record OneRecord (p : List ℕ) (i : ℕ) : Type 0 where
  pub short : get_or p (12 + 35 * i) 0 ≤ key_most
  pub same : part p (12 + 35 * i) 35 ≡ record_bytes (record_of p i)

-- the key of the record before record i; before the first the empty one, which is below every key
unfoldable pub key_before : List ℕ → ℕ → List ℕ
key_before p zero = []
key_before p (suc i) = (record_of p i).key

pub record Ranked (p : List ℕ) (i : ℕ) : Type 0 where
  pub one : OneRecord p i
  pub above : before (key_before p i) (record_of p i).key ≡ true

abbrev pub AllRanked : List ℕ → ℕ → Type 0
AllRanked p c = (i : ℕ) → i < c → Ranked p i

-- "14 records", "keys of 1 to 32 bytes", "separators strictly rising in an inner node", and the layout: the page is its own re-encoding
pub record InnerBytes (p : List ℕ) : Type 0 where
  pub few : word16 p 2 ≤ inner_most
  pub keys : every (λ s. key_fits s.key) (of_inner p).rest ≡ true
  pub order : rising (map (λ (s : Sep ℕ). s.key) (of_inner p).rest) ≡ true
  pub same : p ≡ to_inner (length p) (of_inner p)
