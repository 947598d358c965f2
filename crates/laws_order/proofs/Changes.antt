-- Put inserts into the map and delete erases from it, and both keep the line sorted: the leaf changes so, and what follows moves no entry.
use mathlib.Core.Path.{◌≡◌, refl, sym, ap, ◌∙◌}
use mathlib.Core.List.{List, [], ◌++◌, map}
use mathlib.Core.Option.{none, some}
use Prim.Native.Nat.{ℕ, suc}
use lib.ListN.{length}
use Rattle.octets.proofs.Choice.{either}
use Rattle.model.specs.Types.{Cell, Leaf, Store, Entry, entry, entries, to_map}
use Rattle.model.specs.Map.{lookup, insert, erase}
use Rattle.model.specs.Context.{Context}
use Rattle.model.specs.InLeaf.{shared}
use Rattle.model.specs.Growing.{grow_up}
use Rattle.model.specs.Mending.{settled}
use Rattle.model.specs.Change.{formatted, spot, new_cell, placed_in, put_done, delete_done}
use Rattle.laws_order.specs.Line.{Item, real, Sorted, none-sorted, reals, fence, line, of_store, ahead, behind, row}
use Rattle.laws_order.proofs.Items.{Finer, finer_same, finer_then, finer_within, finer_sorted}
use Rattle.laws_order.proofs.Line.{line_up, line-leaf, reals-store}
use Rattle.laws_order.proofs.Growing.{grow_up_reads}
use Rattle.laws_order.proofs.Parting.{shared-line}
use Rattle.laws_order.proofs.Mending.{settled-line}
use Rattle.laws_order.proofs.Placing.{Local, local_reals, insert_local, erase_local}
use Rattle.laws_order.proofs.FiniteMap.{length-insert-missing, length-insert_present, length-erase_present}
use Rattle.laws_order.proofs.InLeaf.{with-leaf, removed-entries, replaced_entries}
use Rattle.laws_order.proofs.Descent.{spot-line, spot-found, spot-rising}

-- A change at the leaf of a key -----------------------------------------------------------------------------------------

-- the line of a store with other entries in that leaf
abbrev around : (s : Store) → List ℕ → List Entry → List Item
around s k es = ahead (spot s k).around ++ (map real es ++ behind (spot s k).around)

record Changed (op : List Entry → List Entry) (s t : Store) : Type 0 where
  sorted : Sorted (of_store t)
  mapped : to_map t ≡ op (to_map s)

changed : (k : List ℕ) (op : List Entry → List Entry) → Local k op → (s t : Store) → Sorted (of_store s)
    → Finer (around s k (op (entries 0 (spot s k).leaf))) (of_store t) → Changed op s t
changed k op c s t o p =
    let w = spot s k in
    let f = spot-found s k o in
    let es = entries 0 w.leaf in
    record {
      sorted = finer_sorted p (c.keeps (ahead w.around) es (behind w.around) f.past-key f.beyond_key (rw (spot-line s k) at o));
      mapped =
          sym (reals-store t) ∙ (p.alike ∙ (local_reals c (ahead w.around) es (behind w.around) f.past-key f.beyond_key
          ∙ ap op (ap reals (sym (spot-line s k)) ∙ reals-store s)));
    }

-- a leaf of given entries settled, and cells of given entries shared out
settled-around : {d : ℕ} (L n : ℕ) (c : Context d 0) (l : Leaf) (free : List ℕ) (es : List Entry) → entries 0 l ≡ es
    → Finer (ahead c ++ (map real es ++ behind c)) (of_store (settled L n c l free))
settled-around L n c l free es e = rw (← e) (rw line-leaf at (settled-line L n c l free))

shared-around : {d : ℕ} (L n p q : ℕ) (c : Context d 0) (cs : List Cell) (free : List ℕ) (es : List Entry) → map entry cs ≡ es
    → Finer (ahead c ++ (map real es ++ behind c)) (of_store (grow_up n c (shared L p q cs) free))
unfolding of_store row
shared-around L n p q c cs free es e =
    rw (← e) (finer_then (finer_within (ahead c) (behind c) (shared-line L p q cs)) (finer_same (grow_up_reads fence line line_up n c (shared L p q cs) free)))

-- Put -------------------------------------------------------------------------------------------------------------------

module _ (L : ℕ) where
  placed : (s : Store) (x : Cell) (free : List ℕ) → Sorted (of_store s) → Changed (insert (entry x)) s (placed_in L s (spot s x.key) x free)
  unfolding placed_in entry
  placed s x free o =
      let w = spot s x.key in
      changed x.key (insert (entry x)) (insert_local (entry x)) s _ o
      (either (λ (t : Store). Finer (around s x.key (insert (entry x) (entries 0 w.leaf))) (of_store t)) _ _ _
      (settled-around L s.n w.around _ free _ (replaced_entries L x w.leaf (spot-rising s x.key o)))
      (shared-around L s.n _ _ w.around _ _ _ (with-leaf x w.leaf)))

  put : (s : Store) (k v : List ℕ) → Sorted (of_store s) → Changed (insert (record { key = k; value = v })) s (put_done L s k v)
  unfolding put_done new_cell entry
  put s k v o = placed s (new_cell L s k v) _ o

  pub put_done-sorted : (s : Store) (k v : List ℕ) → Sorted (of_store s) → Sorted (of_store (put_done L s k v))
  put_done-sorted s k v o = (put s k v o).sorted

  pub put_done-map : (s : Store) (k v : List ℕ) → Sorted (of_store s) → to_map (put_done L s k v) ≡ insert (record { key = k; value = v }) (to_map s)
  put_done-map s k v o = (put s k v o).mapped

  -- Delete ----------------------------------------------------------------------------------------------------------------

  delete : (s : Store) (k : List ℕ) → Sorted (of_store s) → Changed (erase k) s (delete_done L s k)
  unfolding delete_done
  delete s k o = changed k (erase k) (erase_local k) s _ o (settled-around L s.n _ _ _ _ (removed-entries k (spot s k).leaf))

  pub delete_done-sorted : (s : Store) (k : List ℕ) → Sorted (of_store s) → Sorted (of_store (delete_done L s k))
  delete_done-sorted s k o = (delete s k o).sorted

  pub delete_done-map : (s : Store) (k : List ℕ) → Sorted (of_store s) → to_map (delete_done L s k) ≡ erase k (to_map s)
  delete_done-map s k o = (delete s k o).mapped

  -- Format ----------------------------------------------------------------------------------------------------------------

  pub formatted-map : (n : ℕ) → to_map (formatted L n) ≡ []
  unfolding formatted to_map entries
  formatted-map n = refl

  pub formatted-sorted : (n : ℕ) → Sorted (of_store (formatted L n))
  unfolding formatted of_store line entries
  formatted-sorted n = none-sorted

  -- The number of entries -------------------------------------------------------------------------------------------------

  pub put_done-more : (s : Store) (k v : List ℕ) → Sorted (of_store s) → lookup k (to_map s) ≡ none → length (to_map (put_done L s k v)) ≡ suc (length (to_map s))
  put_done-more s k v o n = rw (put_done-map s k v o) (length-insert-missing _ (to_map s) n)

  pub put_done_as_many : (s : Store) (k v u : List ℕ) → Sorted (of_store s) → lookup k (to_map s) ≡ some u → length (to_map (put_done L s k v)) ≡ length (to_map s)
  put_done_as_many s k v u o n = rw (put_done-map s k v o) (length-insert_present _ u (to_map s) n)

  pub delete_done-fewer : (s : Store) (k u : List ℕ) → Sorted (of_store s) → lookup k (to_map s) ≡ some u → suc (length (to_map (delete_done L s k))) ≡ length (to_map s)
  delete_done-fewer s k u o n = rw (delete_done-map s k o) (length-erase_present k u (to_map s) n)
