-- The walk over an image's pages comes through exactly if the model accepts the image, and leaves the model's roles: the pages' store is the decoded
-- one, and an image is accepted by its pages.
use mathlib.Core.Path.{◌≡◌, refl, sym, ap, ◌∙◌}
use mathlib.Core.Bool.{true, and-eq-true_iff, true≢false}
use mathlib.Core.List.{List, []}
use mathlib.Core.Option.{Option, none, some}
use Prim.Native.Nat.{ℕ, zero, suc, ◌+◌, ◌*◌, ◌/◌, ◌≤◌, ◌<◌, min, pred}
use native.Mathlib.Omega.{arith}
use lib.ListN.{length, get_or, take, drop, get_or-map}
use lib.Seq.{get_or-drop, take-nil}
use borrow.Author.Tests.{eqb-true}
use Rattle.octets.specs.Choice.{choose}
use Rattle.octets.proofs.Choice.{either_by}
use Rattle.model.specs.Edition.{Edition, edition1}
use Rattle.model.specs.Types.{Store}
use Rattle.model.specs.Layouts.{of_head}
use Rattle.model.specs.Image.{head_page}
use Rattle.model.specs.Decode.{cut, store_of, decode_pages, decode}
use Rattle.model.specs.Accept.{accepts}
use Rattle.model.specs.Refusals.{good_image, roles, entered}
use Rattle.model.proofs.Tests.{between_iff}
use Rattle.model.proofs.Editions.{Lawful, lawful1}
use Rattle.laws_image.proofs.Layouts.{of_head-to_head}
use Rattle.laws_image.proofs.Valid.{clauses}
use Rattle.laws_image.proofs.Whole.{pages_iff}
use Rattle.laws_image.proofs.ByPages.{ByPages, size, cut_pages, open_pages, get_or-cut, get_or-open_pages, accepts-pages, pages-accepted}
use Rattle.checking.specs.Walk.{check_walk}
use Rattle.checking.proofs.Small.{Small, small_take}
use Rattle.checking.proofs.Store.{Stored, head_store, pages-sound, pages-whole}

-- ---- the pages' bytes

small_cut : (W n : ℕ) (img : List ℕ) → Small img → (p : ℕ) → Small (get_or (cut W n img) p [])
unfolding cut
small_cut W zero img f p = λ i. omega arith
small_cut W (suc n) img f zero = small_take W img f
small_cut W (suc n) img f (suc p) = small_cut W n (drop W img) (λ i. rw (get_or-drop W img i 0) (f (W + i))) p

pub small_pages : (E : Edition) (img : List ℕ) → Small img → (p : ℕ) → Small (get_or (open_pages E img) p [])
small_pages E img f p =
    let e : get_or (open_pages E img) p [] ≡ take E.usable (get_or (cut_pages E img) p []) =
    ap (get_or (open_pages E img) p) (sym (take-nil E.usable)) ∙ get_or-map (take E.usable) (cut_pages E img) p [] in
    rw e (small_take E.usable _ (small_cut E.width (size E img) img f p))

-- ---- the pages' store
-- It has no more levels than the edition's most, so it is the decoded one.

height-stored : {E : Edition} {ps : List (List ℕ)} {s : Store} → Stored E ps s → (of_head (get_or ps 0 [])).height ≤ E.most_levels
unfolding head_page
height-stored {E} {ps} {s} k =
    let H = head_page E.number s in
    let e : of_head (get_or ps 0 []) ≡ H = ap of_head ((pages_iff E s ps).0 k.stands).0 ∙ of_head-to_head E.usable H in
    rw e (clauses E s k.right).levels

decode-store : (E : Edition) (img : List ℕ) {s : Store} → Stored E (open_pages E img) s → decode E img ≡ head_store E (size E img) (open_pages E img)
unfolding decode decode_pages
decode-store E img k =
    let q = of_head (get_or (open_pages E img) 0 []) in
    let h : q.height ≤ E.most_levels = height-stored k in
    let e : min (pred E.most_levels) (pred q.height) ≡ pred q.height = omega arith in
    ap (λ (d : ℕ). store_of E.usable (open_pages E img) (size E img) d q) e

-- ---- accepted

-- every page is as it is sealed
abbrev pub Sealed : Edition → List ℕ → Type 0
Sealed E img = (p : ℕ) → p < size E img → E.seal (get_or (open_pages E img) p []) ≡ get_or (cut_pages E img) p []

record Whole (E : Edition) (img : List ℕ) : Type 0 where
  multiple : length img ≡ size E img * E.width
  some-pages : 2 ≤ size E img
  few-pages : size E img ≤ E.most_pages

whole : (E : Edition) (img : List ℕ) → good_image E (length img) ≡ true → Whole E img
unfolding good_image
whole E img t =
    let k = simp and-eq-true_iff at t in
    let b = (between_iff 2 E.most_pages (size E img)).0 k.1 in
    record { multiple = sym (eqb-true _ _ k.0); some-pages = b.0; few-pages = b.1 }

refused : {A : Type 0} (o : Option A) → ((y : A) → o ≡ some y → ⊥) → o ≡ none
refused none f = refl
refused (some y) f = absurd (f y refl)

module _ (E : Edition) (lawful : Lawful E) (img work : List ℕ) (good : good_image E (length img) ≡ true) (bytes : Small img) (seals : Sealed E img)
    (fits : size E img ≤ length work) where
  abbrev n : ℕ
  n = size E img

  abbrev ps : List (List ℕ)
  ps = open_pages E img

  abbrev s : Store
  s = head_store E n ps

  abbrev w : Whole E img
  w = whole E img good

  room : 9 ≤ E.usable
  room = omega (arith, lawful.room)

  pub checks-sound : (end : List ℕ) → check_walk E (size E img) (open_pages E img) work ≡ some end
      → (accepts E img ≡ true) × (end ≡ entered (roles (decode E img)) work)
  checks-sound end e =
      let k = pages-sound E room n w.some-pages w.few-pages ps work fits (small_pages E img bytes) end e in
      let d : decode E img ≡ s = decode-store E img k.0 in
      let b : ByPages E img = record { whole = w.multiple; right = rw d k.0.right; stand = rw d k.0.stands; sealed = seals } in
      (accepts-pages E img b, rw d k.1)

  pub checks-whole : accepts E img ≡ true → check_walk E (size E img) (open_pages E img) work ≡ some (entered (roles (decode E img)) work)
  checks-whole t =
      let b = pages-accepted E lawful img t in
      let k : Stored E ps (decode E img) = record { right = b.right; stands = b.stand } in
      let d : decode E img ≡ s = decode-store E img k in
      rw d (pages-whole E room n w.some-pages w.few-pages ps work fits (small_pages E img bytes) (rw d at k))

  pub checks : check_walk E (size E img) (open_pages E img) work ≡ choose (accepts E img) (some (entered (roles (decode E img)) work)) none
  checks =
      either_by (λ (o : Option (List ℕ)). check_walk E n ps work ≡ o) (accepts E img) (some (entered (roles (decode E img)) work)) none
      checks-whole (λ f. refused (check_walk E n ps work) (λ end e. true≢false (sym (checks-sound end e).0 ∙ f)))

-- ---- edition 1
-- It seals nothing.

sealed1 : (img : List ℕ) → Sealed edition1 img
sealed1 img p h = get_or-open_pages edition1 lawful1 img p h ∙ sym (get_or-cut 512 (size edition1 img) img p h)

pub checks1 : (img work : List ℕ) → good_image edition1 (length img) ≡ true → ((i : ℕ) → get_or img i 0 < 256) → length img / 512 ≤ length work
    → check_walk edition1 (length img / 512) (open_pages edition1 img) work
    ≡ choose (accepts edition1 img) (some (entered (roles (decode edition1 img)) work)) none
checks1 img work good bytes fits = checks edition1 lawful1 img work good bytes (sealed1 img) fits
