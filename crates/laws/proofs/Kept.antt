-- A store is valid exactly if it is sized as it should be and its keys are in one sorted line; format, put and delete keep both.
use mathlib.Core.Path.{◌≡◌}
use mathlib.Core.Logic.{◌↔◌}
use mathlib.Core.Bool.{true, and-eq-true_iff}
use mathlib.Core.List.{List, []}
use mathlib.Core.Option.{Option, none, some}
use Prim.Native.Nat.{ℕ, ◌≤◌}
use lib.ListN.{length}
use Rattle.octets.proofs.Choice.{either_by}
use Rattle.model.specs.Edition.{Edition}
use Rattle.model.specs.Types.{Store, to_map}
use Rattle.model.specs.Map.{lookup}
use Rattle.model.specs.Accept.{full_below, valid}
use Rattle.model.specs.Change.{formatted, has_room, put_done, delete_done}
use Rattle.model.specs.Refusals.{good_key, good_value}
use Rattle.model.specs.Calls.{Answer, put_in, delete_found, delete_in}
use Rattle.model.proofs.Tests.{and-true}
use Rattle.model.proofs.Editions.{Lawful}
use Rattle.laws_order.specs.Line.{Sorted, of_store}
use Rattle.laws_order.proofs.Bounds.{store_iff}
use Rattle.laws_order.proofs.Changes.{formatted-map, formatted-sorted, put_done-sorted, delete_done-sorted}
use Rattle.laws_order.proofs.Finding.{spot-without}
use Rattle.laws_size.proofs.Sized.{Sized, formatted_sized, put_sized, delete_sized, valid_iff}
use Rattle.laws_size.proofs.Bools.{good_key_iff, good_value_iff, full_iff}

module _ (E : Edition) (lawful : Lawful E) where
  full_sized : (s : Store) → Sized E s → full_below s.depth s.root ≡ true
  full_sized s g = let k = simp and-eq-true_iff at ((full_iff E.usable s).1 g.full) in k.1

  -- What check accepts: the phrases on sizes, places, fullness and pages, and those on order
  pub valid-sorted_iff : (s : Store) → (valid E s ≡ true) ↔ (Sized E s × Sorted (of_store s))
  valid-sorted_iff s = (
    λ t. let p = (valid_iff E lawful s).0 t in
        let o = simp and-eq-true_iff at p.1 in
        (p.0, (store_iff s (full_sized s p.0)).0 o),
    λ p. let o = (store_iff s (full_sized s p.0)).1 p.1 in
        (valid_iff E lawful s).1 (p.0, and-true _ _ o.0 o.1),
  )

  -- "Format. Page 1 is an empty leaf .. and the root": a store of any length from 2 pages to the most, with the empty map
  pub formatted-valid : (n : ℕ) → 2 ≤ n → n ≤ E.most_pages → (valid E (formatted E.usable n) ≡ true) × (to_map (formatted E.usable n) ≡ [])
  formatted-valid n least most =
      let L = E.usable in
      ((valid-sorted_iff (formatted L n)).1 (formatted_sized E lawful n least most, formatted-sorted L n), formatted-map L n)

  -- "Put." with room
  pub put-valid : (s : Store) (k v : List ℕ) → good_key (length k) ≡ true → good_value E.usable (length v) ≡ true → has_room E.usable s k v ≡ true
      → valid E s ≡ true → valid E (put_done E.usable s k v) ≡ true
  put-valid s k v key value has t =
      let L = E.usable in
      let p = (valid-sorted_iff s).0 t in
      let fits = (good_value_iff L (length v)).0 value in
      (valid-sorted_iff (put_done L s k v)).1
      (put_sized E lawful s k v ((good_key_iff k).0 key) fits has (spot-without s k p.1) p.0, put_done-sorted L s k v p.1)

  -- "Delete.", of any key
  pub delete-valid : (s : Store) (k : List ℕ) → valid E s ≡ true → valid E (delete_done E.usable s k) ≡ true
  delete-valid s k t =
      let L = E.usable in
      let p = (valid-sorted_iff s).0 t in
      (valid-sorted_iff (delete_done L s k)).1 (delete_sized E lawful s k p.0, delete_done-sorted L s k p.1)

  -- whatever they answer
  pub put_in-valid : (s : Store) (k v : List ℕ) → good_key (length k) ≡ true → good_value E.usable (length v) ≡ true
      → valid E s ≡ true → valid E (put_in E s k v).store ≡ true
  unfolding put_in
  put_in-valid s k v key value t =
      either_by (λ (a : Answer). valid E a.store ≡ true) (has_room E.usable s k v) _ _ (λ has. put-valid s k v key value has t) (λ e. t)

  pub delete_in-valid : (s : Store) (k : List ℕ) → valid E s ≡ true → valid E (delete_in E s k).store ≡ true
  unfolding delete_in
  delete_in-valid s k t = go (lookup k (to_map s))
    where
      go : (o : Option (List ℕ)) → valid E (delete_found E s k o).store ≡ true
      go none = unfold delete_found in t
      go (some v) = unfold delete_found in delete-valid s k t
