-- "Numbers are little-endian": read from bytes, and as bytes.
use Rattle.std.specs.Prelude.{List, [], ◌∷◌, ℕ, ◌+◌, ◌*◌, ◌/◌, ◌%◌, get_or}

-- the number in the two bytes from index i on, and in the four
unfoldable pub word16 : List ℕ → ℕ → ℕ
word16 l i = get_or l i 0 + 256 * get_or l (i + 1) 0

unfoldable pub word32 : List ℕ → ℕ → ℕ
word32 l i = word16 l i + 65536 * word16 l (i + 2)

-- the bytes of a number below 2 to the 16, and to the 32
unfoldable pub bytes16 : ℕ → List ℕ
bytes16 x = x % 256 ∷ x / 256 ∷ []

unfoldable pub bytes32 : ℕ → List ℕ
bytes32 x = x % 256 ∷ x / 256 % 256 ∷ x / 65536 % 256 ∷ x / 16777216 ∷ []
