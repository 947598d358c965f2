-- View names the part of the image where the value stands: the cell that a search finds is the map's, and its bytes stand in the image.
use mathlib.Core.Path.{◌≡◌, refl, ◌∙◌}
use mathlib.Core.Bool.{true}
use mathlib.Core.List.{List, [], ◌∷◌, map}
use mathlib.Core.Option.{Option, none, some, none-ne-some}
use Prim.Native.Nat.{ℕ, ◌+◌, ◌*◌, ◌≤◌, ◌<◌}
use native.Mathlib.Omega.{arith}
use lib.ListN.{length}
use lib.Dec.{leb}
use borrow.Author.Tests.{le-leb, lt-leb}
use Rattle.octets.specs.Keys.{compare_keys}
use Rattle.octets.proofs.Choice.{choose-true, choose-false, by_order}
use Rattle.model.specs.Lists.{gather}
use Rattle.model.specs.Edition.{Edition}
use Rattle.model.specs.Types.{Cell, Leaf}
use Rattle.model.specs.Map.{lookup}
use Rattle.model.specs.Sizes.{inline_most}
use Rattle.model.specs.Image.{cell_bytes}
use Rattle.model.specs.InLeaf.{found}
use Rattle.model.specs.Change.{spot}
use Rattle.model.specs.Decode.{decode}
use Rattle.model.specs.Accept.{accepts}
use Rattle.model.specs.Refusals.{good_key}
use Rattle.model.specs.Calls.{Standing, Viewed, standing, standing_of, view_nothing, view_done, view_outcome}
use Rattle.model.proofs.Editions.{Lawful}
use Rattle.model.proofs.Each.{All, nil, cons, all_append}
use Rattle.laws_image.proofs.Whole.{accepted}
use Rattle.laws_image.proofs.InPlace.{Stands, cells-place, value-stands}
use Rattle.laws_order.specs.Line.{Sorted, of_store}
use Rattle.laws_order.specs.Finding.{stands_in}
use Rattle.laws_order.proofs.Bounds.{valid-sorted}
use Rattle.laws_order.proofs.Finding.{present_found}
use Rattle.laws_order.proofs.Viewing.{missing-standing, present_standing}
use Rattle.laws.specs.Ready.{Ready, map_of, work_after}
use Rattle.laws.specs.Answers.{Shows}
use Rattle.laws.proofs.Guarded.{guarded_ready}

-- What a search finds stands in the image -----------------------------------------------------------------------------------

-- what holds of all holds of the one found
standing_of-all : {P : Standing → Type 0} (k : List ℕ) {xs : List Standing} (x : Standing) → All P xs → standing_of k xs ≡ some x → P x
unfolding standing_of
standing_of-all k x nil e = absurd (none-ne-some _ e)
standing_of-all {P} k x (cons {x = y} {xs = ys} p ps) e =
    by_order (λ (o : Option Standing). o ≡ some x → P x) (compare_keys k y.cell.key) none (some y) (standing_of k ys)
    (λ o q. absurd (none-ne-some _ q)) (λ o q. let z : y ≡ x = cc in rw (← z) p) (λ o q. standing_of-all k x ps q) e

module _ (E : Edition) (lawful : Lawful E) (image : List ℕ) (t : accepts E image ≡ true) where
  -- a cell's bytes stand where its page and its place say
  abbrev Right : Standing → Type 0
  Right x = Stands (length image) image (x.base + x.cell.at) (cell_bytes x.cell)

  all_right : {ls : List Leaf} → All (λ l. All (λ c. Stands (length image) image (l.page * E.width + c.at) (cell_bytes c)) l.cells) ls
      → All Right (gather (λ (l : Leaf). map (λ (c : Cell). record { base = l.page * E.width; cell = c }) l.cells) ls)
  unfolding gather
  all_right nil = nil
  all_right (cons {x = l} p ps) = all_append (here l.cells p) (all_right ps)
    where
      here : (cs : List Cell) → All (λ c. Stands (length image) image (l.page * E.width + c.at) (cell_bytes c)) cs
          → All Right (map (λ (c : Cell). record { base = l.page * E.width; cell = c }) cs)
      here [] nil = nil
      here (c ∷ cs) (cons q qs) = cons q (here cs qs)

  pub standing-right : All Right (standing E (decode E image))
  unfolding standing
  standing-right = all_right (cells-place E lawful image t)

shows_inline : (image work : List ℕ) (x : Standing) (v : List ℕ) → x.cell.value ≡ v → length v ≤ inline_most
    → Stands (length image) image (x.base + x.cell.at) (cell_bytes x.cell) → Shows image v (view_done work (some x))
unfolding view_done
shows_inline image work x v w h p =
    let c = x.cell in
    let t = le-leb (length c.value) inline_most (rw w h) in
    let e : x.base + c.at + (3 + length c.key) ≡ x.base + (c.at + (3 + length c.key)) = omega arith in
    let q = rw e at (value-stands image (x.base + c.at) c t p) in
    rw (← w, choose-true (leb (length c.value) inline_most) _ _ t) (record { size = refl; within = q.within; there = q.there })

-- View --------------------------------------------------------------------------------------------------------------------

module _ (E : Edition) (lawful : Lawful E) (image work key : List ℕ) (ready : Ready E image work (good_key (length key)) true) where
  view-map : view_outcome E image work key ≡ view_done (work_after E image work) (standing_of key (standing E (decode E image)))
  unfolding view_outcome
  view-map = guarded_ready E image work _ _ _ _ lawful ready

  sorted : Sorted (of_store (decode E image))
  sorted = valid-sorted E (decode E image) (accepted E image ready.accepted).0

  -- "A refusal .. gives the empty part at offset 0"
  pub view-missing : lookup key (map_of E image) ≡ none → view_outcome E image work key ≡ record { at = 0; length = 0; work = work_after E image work }
  unfolding view_done view_nothing map_of
  view-missing e = view-map ∙ rw (missing-standing E (decode E image) key sorted e)

  -- "the inline value's bytes where they stand": in the leaf where the key belongs, after the cell's lengths and its key
  pub view-place : (v : List ℕ) → lookup key (map_of E image) ≡ some v → length v ≤ inline_most → (c : Cell)
      × ((found key (spot (decode E image) key).leaf.cells ≡ c ∷ [])
      × (view_outcome E image work key
      ≡ record { at = (spot (decode E image) key).leaf.page * E.width + (c.at + (3 + length c.key)); length = length v; work = work_after E image work }))
  unfolding map_of stands_in view_done
  view-place v e h =
      let s = decode E image in
      let p = present_found s key v sorted e in
      let t = le-leb (length p.cell.value) inline_most (rw p.value h) in
      (p.cell, (p.there, view-map ∙ rw (present_standing E s key v sorted p) (choose-true _ _ _ t ∙ placed p.value)))
    where
      placed : {c v : List ℕ} {at : ℕ} → c ≡ v
          → ◌≡◌ {A = Viewed} (record { at = at; length = length c; work = work_after E image work }) (record { at = at; length = length v; work = work_after E image work })
      placed e = rw e

  -- and it holds exactly the value's bytes
  pub view-inline : (v : List ℕ) → lookup key (map_of E image) ≡ some v → length v ≤ inline_most → Shows image v (view_outcome E image work key)
  unfolding map_of stands_in
  view-inline v e h =
      let s = decode E image in
      let p = present_found s key v sorted e in
      let x = stands_in E (spot s key).leaf p.cell in
      let q = present_standing E s key v sorted p in
      rw (view-map, q) (shows_inline image (work_after E image work) x v p.value h (standing_of-all key x (standing-right E lawful image ready.accepted) q))

  -- "or a chained value"
  pub view-chained : (v : List ℕ) → lookup key (map_of E image) ≡ some v → inline_most < length v
      → view_outcome E image work key ≡ record { at = 0; length = 0; work = work_after E image work }
  unfolding map_of view_done view_nothing stands_in
  view-chained v e h =
      let s = decode E image in
      let p = present_found s key v sorted e in
      let w = p.value in
      view-map ∙ rw (present_standing E s key v sorted p) (choose-false _ _ _ (lt-leb (length p.cell.value) inline_most (rw w h)))
