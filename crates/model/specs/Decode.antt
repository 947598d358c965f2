-- From an image to a store. It is total: of any bytes it makes some store, and counts that no valid store has are cut off.
use Rattle.std.specs.Prelude.{List, [], ◌∷◌, map, ℕ, zero, suc, ◌/◌, min, pred, length, get_or, take, drop, leb, eqb}
use Rattle.octets.specs.Choice.{choose}
use Rattle.octets.specs.Numbers.{word16}
use Rattle.model.specs.Lists.{gather}
use Rattle.model.specs.Edition.{Edition}
use Rattle.model.specs.Types.{Cell, Leaf, Sep, Inner, Tree, Store}
use Rattle.model.specs.Sizes.{inline_most, chain_most, chain_length}
use Rattle.model.specs.Layouts.{HeadPage, LeafPage, Placed, InnerPage, of_head, of_free, of_leaf, of_inner, of_over}

-- an image cut into n pages of a length
unfoldable pub cut : ℕ → ℕ → List ℕ → List (List ℕ)
cut W zero img = []
cut W (suc n) img = take W img ∷ cut W n (drop W img)

-- the first k pages of the chain from page p, by the references
unfoldable pub chain_from : List (List ℕ) → ℕ → ℕ → List ℕ
chain_from ps zero p = []
chain_from ps (suc k) p = p ∷ chain_from ps k (of_over (get_or ps p [])).next

-- the free list from page p to the reference 0, of at most k pages
unfoldable pub free_from : List (List ℕ) → ℕ → ℕ → List ℕ
free_from ps zero p = []
free_from ps (suc k) p = let further = free_from ps k (of_free (get_or ps p [])) in choose (eqb p 0) [] (p ∷ further)

-- what a chain's pages hold
unfoldable pub held_by : List (List ℕ) → List ℕ → List ℕ
held_by ps chain = gather (λ p. (of_over (get_or ps p [])).held) chain

-- an inner node of its page, if `at` gives the children
unfoldable pub reach : {A : Type 0} → (ℕ → A) → Sep ℕ → Sep A
reach at s = record { key = s.key; child = at s.child }

unfoldable pub inner_of : {A : Type 0} → (ℕ → A) → ℕ → InnerPage → Inner A
inner_of at p q = record { page = p; first = at q.first; rest = map (reach at) q.rest }

-- over the usable length L and the pages' usable bytes
module _ (L : ℕ) (ps : List (List ℕ)) where
  -- the cell at o whose key has k bytes and whose value has v, from the bytes after the lengths
  unfoldable pub cell_from : ℕ → ℕ → ℕ → List ℕ → Cell
  cell_from o k v bytes =
      let body = drop k bytes in
      let chain = chain_from ps (min chain_most (chain_length L v)) (word16 body 0) in
      record { at = o; key = take k bytes; value = choose (leb v inline_most) body (held_by ps chain); chain = chain }

  unfoldable pub cell_of : Placed → Cell
  cell_of c = cell_from c.at (get_or c.bytes 0 0) (word16 c.bytes 1) (drop 3 c.bytes)

  unfoldable pub leaf_of : ℕ → LeafPage → Leaf
  leaf_of p q = record { page = p; start = q.start; cells = map cell_of q.cells }

  -- the tree of a depth from page p: "all leaves at the depth of the height"
  unfoldable pub tree_at : (h : ℕ) → ℕ → Tree h
  tree_at zero p = leaf_of p (of_leaf L (get_or ps p []))
  tree_at (suc h) p = inner_of (tree_at h) p (of_inner (get_or ps p []))

unfoldable pub store_of : ℕ → List (List ℕ) → ℕ → ℕ → HeadPage → Store
store_of L ps n d q = record { n = n; depth = d; root = tree_at L ps d q.root; free = free_from ps n q.free }

module _ (E : Edition) where
  unfoldable pub decode_pages : ℕ → List (List ℕ) → Store
  decode_pages n ps = let q = of_head (get_or ps 0 []) in store_of E.usable ps n (min (pred E.most_levels) (pred q.height)) q

  unfoldable pub decode : List ℕ → Store
  decode img = let n = length img / E.width in decode_pages n (map (take E.usable) (cut E.width n img))
