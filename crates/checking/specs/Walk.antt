-- The walk of check: tree, chains and free list. It marks each page's role in the work area when it meets the page, and refuses a page
-- that is no page of the image or has a role already. `ps` are the pages' usable bytes, `n` is their number.
use Rattle.std.specs.Prelude.{Bool, true, false, not, ◌&&◌, ◌||◌, List, [], ◌∷◌, ℕ, zero, suc, ◌+◌, ◌-◌, pred, length, get_or, set, take, leb, eqb}
use Rattle.std.proofs.Math.Option.{Option, some}
use Rattle.octets.specs.Choice.{choose}
use Rattle.octets.specs.Runs.{zeros}
use Rattle.octets.specs.Keys.{before}
use Rattle.octets.specs.Numbers.{word16}
use Rattle.model.specs.Lists.{every}
use Rattle.model.specs.Edition.{Edition}
use Rattle.model.specs.Types.{Sep}
use Rattle.model.specs.Map.{below_bound}
use Rattle.model.specs.Sizes.{leaf_least, inner_least, inner_most, inline_most, payload, chain_length}
use Rattle.model.specs.Layouts.{LeafPage, Placed, InnerPage, of_head, of_free, of_leaf, of_inner, of_over}
use Rattle.model.specs.Accept.{between}
use Rattle.model.specs.Refusals.{entered}
use Rattle.checking.specs.Alone.{head_alone, free_alone, over_alone, inner_alone, leaf_alone, key_of, value_length, page_cost}
use Rattle.checking.specs.Steps.{and_then, when}

-- how far the walk of the tree is: the work area, the entries so far, the last leaf met (0: none yet) and the leaf that it names as next
pub record State : Type 0 where
  pub work : List ℕ
  pub entries : ℕ
  pub last : ℕ
  pub next : ℕ

unfoldable pub meet : ℕ → ℕ → ℕ → List ℕ → Option (List ℕ)
meet n role p work = when (between 1 (n - 1) p && eqb (get_or work p 0) 0) (some (set work p role))

module _ (L n : ℕ) (ps : List (List ℕ)) where
  abbrev page_of : ℕ → List ℕ
  page_of p = get_or ps p []

  -- Chains -------------------------------------------------------------------------------------------------------------------

  -- an overflow page that holds so many bytes
  unfoldable pub link_walk : ℕ → ℕ → List ℕ → Option (List ℕ)
  link_walk held p work =
      and_then (meet n 3 p work) (λ met. when (over_alone L (get_or ps p []) && eqb (word16 (get_or ps p []) 4) held) (some met))

  -- the k pages of a chain that holds v bytes: "all but the last hold 504, the last the rest, with next 0"
  unfoldable pub chain_walk : ℕ → ℕ → ℕ → List ℕ → Option (List ℕ)
  chain_walk zero v p work = some work
  chain_walk (suc zero) v p work = and_then (link_walk v p work) (λ met. when (eqb (of_over (get_or ps p [])).next 0) (some met))
  chain_walk (suc (suc k)) v p work = and_then (link_walk (payload L) p work) (λ met. chain_walk (suc k) (v - payload L) (of_over (get_or ps p [])).next met)

  -- "each cell's chain at its cell"
  unfoldable pub cell_walk : List ℕ → List ℕ → Option (List ℕ)
  cell_walk b work =
      let v = value_length b in
      let chained = chain_walk (chain_length L v) v (word16 b (3 + get_or b 0 0)) work in
      choose (leb v inline_most) (some work) chained

  unfoldable pub cells_walk : List Placed → List ℕ → Option (List ℕ)
  cells_walk [] work = some work
  cells_walk (c ∷ cs) work = and_then (cell_walk c.bytes work) (cells_walk cs)

  -- The free list ------------------------------------------------------------------------------------------------------------

  unfoldable pub free_walk : ℕ → ℕ → List ℕ → Option (List ℕ)
  free_walk zero p work = when (eqb p 0) (some work)
  free_walk (suc most) p work =
      let further = and_then (meet n 4 p work) (λ met. when (free_alone L (get_or ps p [])) (free_walk most (of_free (get_or ps p [])) met)) in
      choose (eqb p 0) (some work) further

-- The tree -----------------------------------------------------------------------------------------------------------------------

-- the first key is not below `low` and the last below `high`: no bytes mean no bound
unfoldable pub first_fits : List ℕ → List Placed → Bool
first_fits low [] = true
first_fits low (c ∷ cs) = not (before (key_of c.bytes) low)

unfoldable pub last_fits : List ℕ → List Placed → Bool
last_fits high [] = true
last_fits high (c ∷ []) = below_bound (key_of c.bytes) high
last_fits high (c ∷ d ∷ cs) = last_fits high (d ∷ cs)

-- "a leaf that isn't the root costs at least 125; an inner node has 7 to 14 records, as root 1 to 14"
unfoldable pub leaf_full : Bool → LeafPage → Bool
leaf_full root q = root || leb leaf_least (page_cost q)

unfoldable pub inner_full : Bool → InnerPage → Bool
inner_full root q = between (choose root 1 inner_least) inner_most (length q.rest)

-- the leaf before names this one
unfoldable pub follows : State → ℕ → Bool
follows t p = eqb t.last 0 || eqb t.next p

-- f at each child, between its separators
unfoldable pub kids_walk : (List ℕ → List ℕ → ℕ → State → Option State) → List ℕ → List ℕ → ℕ → List (Sep ℕ) → State → Option State
kids_walk f low high child [] t = f low high child t
kids_walk f low high child (s ∷ ss) t = and_then (f low s.key child t) (kids_walk f s.key high s.child ss)

unfoldable pub reached : State → List ℕ → State
reached t work = record { work = work; entries = t.entries; last = t.last; next = t.next }

module _ (E : Edition) (n : ℕ) (ps : List (List ℕ)) where
  abbrev L : ℕ
  L = E.usable

  unfoldable pub leaf_walk : Bool → List ℕ → List ℕ → ℕ → State → Option State
  leaf_walk root low high p t =
      let q = of_leaf L (get_or ps p []) in
      and_then (meet n 1 p t.work) (λ met.
      when (follows t p && leaf_alone L (get_or ps p []) && eqb q.prev (E.back t.last) && leaf_full root q && first_fits low q.cells && last_fits high q.cells)
      (and_then (cells_walk L n ps q.cells met) (λ work. some (record { work = work; entries = t.entries + length q.cells; last = p; next = q.next }))))

  -- "the level falls by one at each step down"
  unfoldable pub tree_walk : ℕ → Bool → List ℕ → List ℕ → ℕ → State → Option State
  tree_walk zero root low high p t = leaf_walk root low high p t
  tree_walk (suc h) root low high p t =
      let q = of_inner (get_or ps p []) in
      and_then (meet n 2 p t.work) (λ met.
      when (inner_alone L (get_or ps p []) && inner_full root q) (kids_walk (tree_walk h false) low high q.first q.rest (reached t met)))

  -- The whole ----------------------------------------------------------------------------------------------------------------

  -- the header's role, and no other yet
  unfoldable pub fresh : List ℕ → List ℕ
  fresh work = entered (5 ∷ zeros (n - 1)) work

  -- the work area with all roles, if nothing is refused
  unfoldable pub check_walk : List ℕ → Option (List ℕ)
  check_walk work =
      let q = of_head (get_or ps 0 []) in
      let start : State = record { work = fresh work; entries = 0; last = 0; next = 0 } in
      when (head_alone E n (get_or ps 0 []))
      (and_then (tree_walk (pred q.height) true [] [] q.root start) (λ t.
      when (eqb t.next 0 && eqb t.entries q.count)
      (and_then (free_walk L n ps n q.free t.work) (λ met. when (every (λ r. not (eqb r 0)) (take n met)) (some met)))))
