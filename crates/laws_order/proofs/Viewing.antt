-- View finds the cell where it stands: the cells, leaf by leaf, have the line's entries before the spot and after it.
use mathlib.Core.Path.{◌≡◌, refl, sym, ap, ◌∙◌}
use mathlib.Core.List.{List, ◌++◌, map, map-map, append-nil}
use mathlib.Core.Option
use mathlib.Core.Option.{none, some}
use Prim.Native.Nat.{ℕ, zero, suc}
use Rattle.octets.proofs.Order.{◌≺◌}
use Rattle.model.specs.Lists.{gather}
use Rattle.model.specs.Edition.{Edition}
use Rattle.model.specs.Types.{Leaf, Inner, Tree, Store, across, leaves, entry, entries, to_map}
use Rattle.model.specs.Map.{lookup}
use Rattle.model.specs.Context.{Context}
use Rattle.model.specs.InLeaf.{found}
use Rattle.model.specs.Change.{spot}
use Rattle.model.specs.Calls.{Standing, standing, standing_of}
use Rattle.model.proofs.Each.{All, all-each, all_of_map}
use Rattle.model.proofs.Lists.{gather_append, map-gather, gather_ext}
use Rattle.model.proofs.Descent.{spot-plug}
use Rattle.laws_order.specs.Reading.{silent, strung, before, after}
use Rattle.laws_order.specs.Line.{Sorted, reals, only, fence, line, of_store, ahead, behind}
use Rattle.laws_order.specs.Finding.{pick, first_found, stands_in, Present}
use Rattle.laws_order.proofs.Reading.{plug_reads, strung-of, before_of, after-of}
use Rattle.laws_order.proofs.Line.{line-reals}
use Rattle.laws_order.proofs.Search.{pick-around, pick-map, standing-pick, found-pick}
use Rattle.laws_order.proofs.Descent.{spot-found}
use Rattle.laws_order.proofs.Finding.{keys-under, keys_beyond, missing-found}

leaves_up : (h : ℕ) (t : Inner (Tree h)) → leaves (suc h) t ≡ strung silent (leaves h) t
unfolding leaves across strung
leaves_up h t = refl

leaves-entries : (h : ℕ) (t : Tree h) → gather (entries 0) (leaves h t) ≡ entries h t
unfolding leaves entries across gather strung
leaves-entries zero t = append-nil _
leaves-entries (suc h) t = strung-of (entries 0) silent (leaves h) silent (entries h) (λ k. refl) (leaves-entries h) t

module _ (E : Edition) where
  stands : Leaf → List Standing
  stands l = map (stands_in E l) l.cells

  stands-entries : (ls : List Leaf) → map (λ x. entry x.cell) (gather stands ls) ≡ gather (entries 0) ls
  unfolding stands entries stands_in
  stands-entries ls = map-gather _ stands ls ∙ gather_ext _ (entries 0) (all-each (λ l. map-map (λ (x : Standing). entry x.cell) (stands_in E l) l.cells) ls)

  stands-ahead : {d : ℕ} (c : Context d 0) → map (λ x. entry x.cell) (gather stands (before silent leaves c)) ≡ reals (ahead c)
  unfolding reals gather
  stands-ahead c =
      stands-entries (before silent leaves c)
      ∙ (before_of (entries 0) silent leaves silent entries (λ k. refl) leaves-entries c ∙ sym (before_of only fence line silent entries (λ k. refl) line-reals c))

  stands-behind : {d : ℕ} (c : Context d 0) → map (λ x. entry x.cell) (gather stands (after silent leaves c)) ≡ reals (behind c)
  unfolding reals gather
  stands-behind c =
      stands-entries (after silent leaves c)
      ∙ (after-of (entries 0) silent leaves silent entries (λ k. refl) leaves-entries c ∙ sym (after-of only fence line silent entries (λ k. refl) line-reals c))

  standing-spot : (s : Store) (k : List ℕ)
      → standing E s ≡ gather stands (before silent leaves (spot s k).around) ++ (stands (spot s k).leaf ++ gather stands (after silent leaves (spot s k).around))
  unfolding standing stands_in stands leaves gather
  standing-spot s k =
      let w = spot s k in
      ap (λ (t : Tree s.depth). gather stands (leaves s.depth t)) (sym (spot-plug s k))
      ∙ (ap (gather stands) (plug_reads silent leaves leaves_up w.around w.leaf) ∙ gather_append stands (before silent leaves w.around) _)

  pub standing-found : (s : Store) (k : List ℕ) → Sorted (of_store s)
      → standing_of k (standing E s) ≡ Option.map (stands_in E (spot s k).leaf) (first_found (found k (spot s k).leaf.cells))
  unfolding entry stands_in stands
  standing-found s k o =
      let w = spot s k in
      let f = spot-found s k o in
      let X = gather stands (before silent leaves w.around) in
      let Y = gather stands (after silent leaves w.around) in
      let key : Standing → List ℕ = λ x. x.cell.key in
      let under_all : All (λ e. e.key ≺ k) (map (λ (x : Standing). entry x.cell) X) = rw (stands-ahead w.around) (keys-under k _ f.past-key) in
      let beyond_all : All (λ e. k ≺ e.key) (map (λ (x : Standing). entry x.cell) Y) = rw (stands-behind w.around) (keys_beyond k _ f.beyond_key) in
      standing-pick k (standing E s)
      ∙ (ap (pick key k) (standing-spot s k)
      ∙ (pick-around key k X (stands w.leaf) Y (all_of_map _ (λ (x : Standing). entry x.cell) X under_all) (all_of_map _ (λ (x : Standing). entry x.cell) Y beyond_all)
      ∙ (pick-map key (stands_in E w.leaf) k w.leaf.cells ∙ ap (Option.map (stands_in E w.leaf)) (sym (found-pick k w.leaf.cells)))))

  pub missing-standing : (s : Store) (k : List ℕ) → Sorted (of_store s) → lookup k (to_map s) ≡ none → standing_of k (standing E s) ≡ none
  unfolding first_found
  missing-standing s k o n = standing-found s k o ∙ rw (missing-found s k o n)

  pub present_standing : (s : Store) (k v : List ℕ) → Sorted (of_store s) → (p : Present s k v)
      → standing_of k (standing E s) ≡ some (stands_in E (spot s k).leaf p.cell)
  unfolding first_found
  present_standing s k v o p = standing-found s k o ∙ rw p.there
