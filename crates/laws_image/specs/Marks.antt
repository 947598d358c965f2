-- The marks of all pages of a store, and the overflow pages among them.
use Rattle.std.specs.Prelude.{List, ◌∷◌, ℕ}
use Rattle.model.specs.Lists.{gather}
use Rattle.model.specs.Types.{Leaf, Tree, Store, Mark, leaves, marked, walked}

-- every page with its role, the header first
unfoldable pub marks : Store → List Mark
marks s = marked 5 0 ∷ walked s

-- the overflow pages of a leaf's values, and of all values below a node, from the left
abbrev pub chains_of : Leaf → List ℕ
chains_of l = gather (λ c. c.chain) l.cells

unfoldable pub chains : (h : ℕ) → Tree h → List ℕ
chains h t = gather chains_of (leaves h t)
