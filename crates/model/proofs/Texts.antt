-- Quoted texts as bytes, for batch lines: `\t` is a tab and `\n` a line feed.
use mathlib.Core.List.{List, [], ◌∷◌}
use Prim.Native.Nat.{ℕ}
use Prim.Native.Char.{code}
use Prim.Native.String.{String, [] as noText, ◌∷◌ as ◌before◌}
use Rattle.model.specs.Lists.{gather}

unfoldable pub bytes_of : String → List ℕ
bytes_of noText = []
bytes_of (character before text) = code character ∷ bytes_of text

-- one after another
unfoldable pub bytes_of_all : List String → List ℕ
bytes_of_all texts = gather bytes_of texts
