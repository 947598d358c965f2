-- The image of a store: the page of each node, chain and free page, and the pages in the order of their numbers.
use Rattle.std.specs.Prelude.{List, [], ◌∷◌, ◌++◌, map, ℕ, zero, suc, length, take, drop, leb, eqb}
use Rattle.octets.specs.Choice.{choose}
use Rattle.octets.specs.Runs.{zeros}
use Rattle.octets.specs.Numbers.{bytes16}
use Rattle.model.specs.Lists.{gather, head_or, from}
use Rattle.model.specs.Edition.{Edition}
use Rattle.model.specs.Types.{Cell, Leaf, Sep, Inner, Tree, Store, page_of, to_map}
use Rattle.model.specs.Sizes.{inline_most, payload}
use Rattle.model.specs.Layouts.{HeadPage, LeafPage, Placed, InnerPage, to_head, to_free, to_leaf, to_inner, to_over}

-- a page with its number
pub record Page : Type 0 where
  pub number : ℕ
  pub bytes : List ℕ

-- What each page holds -----------------------------------------------------------------------------------------------------

unfoldable pub cell_bytes : Cell → List ℕ
cell_bytes c =
    length c.key ∷ bytes16 (length c.value) ++ (c.key ++
    choose (leb (length c.value) inline_most) c.value (bytes16 (head_or 0 c.chain)))

unfoldable pub placed : Cell → Placed
placed c = record { at = c.at; bytes = cell_bytes c }

-- a leaf between its neighbours' pages, the former as the edition has it
unfoldable pub leaf_page : ℕ → ℕ → Leaf → LeafPage
leaf_page prev next l = record { start = l.start; next = next; prev = prev; cells = map placed l.cells }

unfoldable pub numbered : (h : ℕ) → Sep (Tree h) → Sep ℕ
numbered h s = record { key = s.key; child = page_of h s.child }

unfoldable pub inner_page : (h : ℕ) → Inner (Tree h) → InnerPage
inner_page h t = record { first = page_of h t.first; rest = map (numbered h) t.rest }

-- "the entry count is the number of cells"
unfoldable pub head_page : ℕ → Store → HeadPage
head_page edition s =
    record { n = s.n; root = page_of s.depth s.root; height = suc s.depth; free = head_or 0 s.free; count = length (to_map s); edition = edition }

-- The links between pages --------------------------------------------------------------------------------------------------

-- "all but the last hold 504, the last the rest, with next 0"
unfoldable pub chain_pages : ℕ → List ℕ → List ℕ → List Page
chain_pages L [] v = []
chain_pages L (p ∷ ps) v =
    record { number = p; bytes = to_over L (record { next = head_or 0 ps; held = take (payload L) v }) } ∷ chain_pages L ps (drop (payload L) v)

unfoldable pub free_pages : ℕ → List ℕ → List Page
free_pages L [] = []
free_pages L (p ∷ ps) = record { number = p; bytes = to_free L (head_or 0 ps) } ∷ free_pages L ps

-- the page of a tree's first leaf, and of its last
unfoldable pub first_leaf : (h : ℕ) → Tree h → ℕ
first_leaf zero t = t.page
first_leaf (suc h) t = first_leaf h t.first

unfoldable pub last_child : {A : Type 0} → A → List (Sep A) → A
last_child a [] = a
last_child a (s ∷ ss) = last_child s.child ss

unfoldable pub last_leaf : (h : ℕ) → Tree h → ℕ
last_leaf zero t = t.page
last_leaf (suc h) t = last_leaf h (last_child t.first t.rest)

-- what the children of an inner node give, from the left, each with the last leaf before it and the first leaf after it
unfoldable pub linked : {A B : Type 0} → (A → ℕ) → (A → ℕ) → (ℕ → ℕ → A → List B) → ℕ → ℕ → A → List (Sep A) → List B
linked first last m prev next a [] = m prev next a
linked first last m prev next a (s ∷ ss) = m prev (first s.child) a ++ linked first last m (last a) next s.child ss

-- The image ----------------------------------------------------------------------------------------------------------------

-- the bytes of page p, if it is among the pages, else d
unfoldable pub page_at : ℕ → List Page → List ℕ → List ℕ
page_at p [] d = d
page_at p (q ∷ qs) d = let further = page_at p qs d in choose (eqb p q.number) q.bytes further

module _ (E : Edition) where
  -- the pages of a tree in the order of the walk; `prev` is the leaf before its first, `next` the leaf after its last:
  -- "next-leaf references run through the leaves in tree order and end in 0"
  unfoldable pub tree_pages : (h : ℕ) → ℕ → ℕ → Tree h → List Page
  tree_pages zero prev next t =
      record { number = t.page; bytes = to_leaf E.usable (leaf_page (E.back prev) next t) }
      ∷ gather (λ c. chain_pages E.usable c.chain c.value) t.cells
  tree_pages (suc h) prev next t =
      record { number = t.page; bytes = to_inner E.usable (inner_page h t) }
      ∷ linked (first_leaf h) (last_leaf h) (tree_pages h) prev next t.first t.rest

  unfoldable pub pages : Store → List Page
  pages s =
      record { number = 0; bytes = to_head E.usable (head_page E.number s) }
      ∷ tree_pages s.depth 0 0 s.root ++ free_pages E.usable s.free

  -- (a page that the store does not have is zero)
  unfoldable pub encode : Store → List ℕ
  encode s = let ps = pages s in gather (λ p. E.seal (page_at p ps (zeros E.usable))) (from 0 s.n)
