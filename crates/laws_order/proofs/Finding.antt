-- The descent finds what the map has: a search passes all before the leaf and stops before all after it.
use mathlib.Core.Path.{◌≡◌, refl, sym, ap, ◌∙◌}
use mathlib.Core.List.{List, [], ◌∷◌, ◌++◌, map, append-nil}
use mathlib.Core.Option
use mathlib.Core.Option.{none, some, none-ne-some, some-ne-none, map-map as option-map-map}
use Prim.Native.Nat.{ℕ}
use Rattle.octets.proofs.Order.{◌≺◌, by_keys}
use Rattle.model.specs.Lists.{gather}
use Rattle.model.specs.Types.{Cell, Store, Entry, entry, entries, to_map}
use Rattle.model.specs.Map.{lookup}
use Rattle.model.specs.InLeaf.{found, without}
use Rattle.model.specs.Change.{spot, old_chain}
use Rattle.model.proofs.Each.{All, all_of_map}
use Rattle.laws_order.specs.Line.{Item, real, Sorted, AllUnder, Beyond, Rising, reals, of_store, ahead, behind}
use Rattle.laws_order.specs.Finding.{pick, first_found, Only, found_none, found-one, Present}
use Rattle.laws_order.proofs.Items.{reals-append, reals-map, all-reals}
use Rattle.laws_order.proofs.Line.{reals-store}
use Rattle.laws_order.proofs.Search.{pick-around, pick-map, lookup-pick, found-pick}
use Rattle.laws_order.proofs.FiniteMap.{lookup-erase-same}
use Rattle.laws_order.proofs.InLeaf.{without-entries}
use Rattle.laws_order.proofs.Descent.{spot-line, spot-found, spot-rising}

-- In the map ------------------------------------------------------------------------------------------------------------

-- what is under a key, and beyond it, among the entries of a line
pub keys-under : (k : List ℕ) (xs : List Item) → AllUnder k xs → All (λ e. e.key ≺ k) (reals xs)
keys-under k xs b = all_of_map _ real (reals xs) (all-reals xs b)

pub keys_beyond : (k : List ℕ) (xs : List Item) → Beyond k xs → All (λ e. k ≺ e.key) (reals xs)
keys_beyond k xs a = all_of_map _ real (reals xs) (all-reals xs a)

cells-lookup : (k : List ℕ) (cs : List Cell) → lookup k (map entry cs) ≡ Option.map (λ c. c.value) (first_found (found k cs))
unfolding entry
cells-lookup k cs =
    lookup-pick k (map entry cs) ∙ rw (pick-map (λ (e : Entry). e.key) entry k cs, found-pick k cs) (option-map-map (λ (e : Entry). e.value) entry (pick (λ (c : Cell). c.key) k cs))

pub lookup-found : (s : Store) (k : List ℕ) → Sorted (of_store s) → lookup k (to_map s) ≡ Option.map (λ c. c.value) (first_found (found k (spot s k).leaf.cells))
unfolding entries
lookup-found s k o =
    let w = spot s k in
    let f = spot-found s k o in
    let split : to_map s ≡ reals (ahead w.around) ++ (map entry w.leaf.cells ++ reals (behind w.around))
    = sym (reals-store s) ∙ (ap reals (spot-line s k) ∙ simp (reals-append, reals-map)) in
    let only-leaf : lookup k (to_map s) ≡ lookup k (map entry w.leaf.cells)
    = rw split (lookup-pick k _
    ∙ (ap (Option.map (λ (e : Entry). e.value)) (pick-around (λ e. e.key) k _ _ _ (keys-under k _ f.past-key) (keys_beyond k _ f.beyond_key))
    ∙ sym (lookup-pick k (map entry w.leaf.cells)))) in
    only-leaf ∙ cells-lookup k w.leaf.cells

-- One cell or none ------------------------------------------------------------------------------------------------------

-- a search finds one cell, of its key, or none
pub found-only : (k : List ℕ) (cs : List Cell) → Only k (found k cs)
unfolding found
found-only k [] = found_none
found-only k (c ∷ cs) = by_keys (Only k) k c.key _ _ _ (λ h. found_none) (λ q. found-one c (sym q)) (λ h. found-only k cs)

none_found : (cs : List Cell) → Option.map (λ (c : Cell). c.value) (first_found cs) ≡ none → cs ≡ []
unfolding first_found
none_found [] e = refl
none_found (c ∷ cs) e = absurd (some-ne-none _ e)

-- a removed cell is not found again
pub found-without : (k : List ℕ) (cs : List Cell) → Rising (map entry cs) → found k (without k cs) ≡ []
found-without k cs r =
    none_found _ (sym (cells-lookup k (without k cs)) ∙ rw (without-entries k cs) (lookup-erase-same k (map entry cs) r))

pub spot-without : (s : Store) (k : List ℕ) → Sorted (of_store s) → found k (without k (spot s k).leaf.cells) ≡ []
unfolding entries
spot-without s k o = found-without k (spot s k).leaf.cells (spot-rising s k o)

-- What put and delete ask for ------------------------------------------------------------------------------------------
-- The map has no entry of a key, and there is no cell and no chain; or it has one, and there is its cell.

pub missing-found : (s : Store) (k : List ℕ) → Sorted (of_store s) → lookup k (to_map s) ≡ none → found k (spot s k).leaf.cells ≡ []
missing-found s k o n = none_found _ (sym (lookup-found s k o) ∙ n)

pub missing-chain : (s : Store) (k : List ℕ) → Sorted (of_store s) → lookup k (to_map s) ≡ none → old_chain s k ≡ []
unfolding old_chain gather
missing-chain s k o n = rw (missing-found s k o n)

pub present_found : (s : Store) (k v : List ℕ) → Sorted (of_store s) → lookup k (to_map s) ≡ some v → Present s k v
unfolding old_chain gather first_found
present_found s k v o n = go (found k (spot s k).leaf.cells) refl (found-only k (spot s k).leaf.cells) (sym (lookup-found s k o) ∙ n)
  where
    go : (fs : List Cell) → found k (spot s k).leaf.cells ≡ fs → Only k fs → Option.map (λ (c : Cell). c.value) (first_found fs) ≡ some v → Present s k v
    go fs e found_none q = absurd (none-ne-some _ q)
    go fs e (found-one c p) q = record { cell = c; there = e; key = p; value = cc; chain = rw e (append-nil _) }
