-- The store as a value: a tree of pages, all of whose leaves are at one depth because of its type.
-- A byte, a page number, an offset and a role are all ℕ here; a page number of 0 means none.
use Rattle.std.specs.Prelude.{List, [], ◌∷◌, ◌++◌, map, ℕ, zero, suc}
use Rattle.model.specs.Lists.{gather}

-- an entry of a leaf: where its bytes stand in the page, and the overflow pages of its value, first to last
pub record Cell : Type 0 where
  pub at : ℕ
  pub key : List ℕ
  pub value : List ℕ
  pub chain : List ℕ

-- `start` is the paper's s; the cells are in slot order, which is key order
pub record Leaf : Type 0 where
  pub page : ℕ
  pub start : ℕ
  pub cells : List Cell

-- a separator with the child to its right
pub record Sep (A : Type 0) : Type 0 where
  pub key : List ℕ
  pub child : A

pub record Inner (A : Type 0) : Type 0 where
  pub page : ℕ
  pub first : A
  pub rest : List (Sep A)

-- a tree whose leaves are all h steps below its root: "the level falls by one at each step down"
abbrev pub Tree : ℕ → Type 0
Tree zero = Leaf
Tree (suc h) = Inner (Tree h)

-- `depth` is the paper's height less one; `free` is the free list, first to last
pub record Store : Type 0 where
  pub n : ℕ
  pub depth : ℕ
  pub root : Tree depth
  pub free : List ℕ

-- an entry of the map
pub record Entry : Type 0 where
  pub key : List ℕ
  pub value : List ℕ

-- a page that the walk meets, with its role: 1 leaf, 2 inner, 3 overflow, 4 free, 5 header
pub record Mark : Type 0 where
  pub page : ℕ
  pub role : ℕ

-- what the children of an inner node give, from the left
unfoldable pub across : {A B : Type 0} → (A → List B) → Inner A → List B
across m t = m t.first ++ gather (λ s. m s.child) t.rest

-- the leaves in tree order
unfoldable pub leaves : (h : ℕ) → Tree h → List Leaf
leaves zero t = t ∷ []
leaves (suc h) t = across (leaves h) t

-- the page of a tree's root
unfoldable pub page_of : (h : ℕ) → Tree h → ℕ
page_of zero t = t.page
page_of (suc h) t = t.page

unfoldable pub entry : Cell → Entry
entry c = record { key = c.key; value = c.value }

-- the map: the entries in key order
unfoldable pub entries : (h : ℕ) → Tree h → List Entry
entries zero t = map entry t.cells
entries (suc h) t = across (entries h) t

unfoldable pub to_map : Store → List Entry
to_map s = entries s.depth s.root

-- The walk ---------------------------------------------------------------------------------------------------------------

unfoldable pub marked : ℕ → ℕ → Mark
marked role page = record { page = page; role = role }

-- depth first from the left, each cell's chain at its cell
unfoldable pub walk : (h : ℕ) → Tree h → List Mark
walk zero t = marked 1 t.page ∷ map (marked 3) (gather (λ c. c.chain) t.cells)
walk (suc h) t = marked 2 t.page ∷ across (walk h) t

-- "the walk of tree, chains and free list"
unfoldable pub walked : Store → List Mark
walked s = walk s.depth s.root ++ map (marked 4) s.free

-- the pages that it meets
unfoldable pub met : Store → List ℕ
met s = map (λ m. m.page) (walked s)
