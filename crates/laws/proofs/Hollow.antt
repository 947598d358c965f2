-- What a hollow version of a call would run into. A fresh store is accepted, takes an entry and answers with it, so the laws name some
-- image at which each call does what its name says.
use mathlib.Core.Path.{◌≡◌, refl, sym, ap, ◌∙◌}
use mathlib.Core.Bool.{true, false, and-eq-true_iff}
use mathlib.Core.List.{List, [], ◌∷◌, ◌++◌}
use mathlib.Core.Option.{some, none, none-ne-some}
use Prim.Native.Nat.{ℕ, ◌-◌, ◌/◌, ◌≤◌}
use native.Mathlib.Nat.{le_refl}
use native.Mathlib.Omega.{arith}
use lib.ListN.{length, drop}
use borrow.Author.Tests.{le-leb, le-ltb}
use Rattle.octets.proofs.Over.{length-zeros}
use Rattle.model.specs.Edition.{Edition}
use Rattle.model.specs.Types.{leaves}
use Rattle.model.specs.Map.{lookup}
use Rattle.model.specs.Sizes.{key_most, inline_most, leaf_most, value_most, chain_most, payload, costs}
use Rattle.model.specs.Context.{descend}
use Rattle.model.specs.InLeaf.{with}
use Rattle.model.specs.Decode.{decode}
use Rattle.model.specs.Accept.{accepts}
use Rattle.model.specs.Change.{formatted, spot, new_cell, splits, has_room}
use Rattle.model.specs.Refusals.{done, missing, no_room, good_key, good_value, good_image}
use Rattle.model.specs.Calls.{Formatted, Got, get_outcome, put_outcome, check_outcome, format_outcome}
use Rattle.model.proofs.Tests.{between_iff}
use Rattle.model.proofs.Lists.{length_from}
use Rattle.model.proofs.Editions.{Lawful}
use Rattle.laws_image.proofs.Cell.{chain_length-short}
use Rattle.laws_image.proofs.Whole.{decode-encode}
use Rattle.laws_order.proofs.FiniteMap.{lookup-insert-same}
use Rattle.laws_size.proofs.Cells.{cell_most, cost-most, costs-nil, costs-cons}
use Rattle.laws_size.proofs.Bools.{good_key_iff, good_value_iff}
use Rattle.laws_size.proofs.Taken.{taken-whole, room_iff}
use Rattle.laws.specs.Ready.{Ready, map_of, work_after}
use Rattle.laws.specs.Lines.{area}
use Rattle.laws.proofs.Kept.{formatted-valid}
use Rattle.laws.proofs.Answers.{get-found, check-counts}
use Rattle.laws.proofs.Changes.{put-insert, put-room, format_fresh, format_accepted}

-- After a put -----------------------------------------------------------------------------------------------------------------

-- an image with a work area of its size
pub ready_area : (E : Edition) (image : List ℕ) → accepts E image ≡ true → Ready E image (area E image) true true
unfolding area
ready_area E image t = record { accepted = t; enough = rw length-zeros (le_refl _); good-keys = refl; good-value = refl }

module _ (E : Edition) (lawful : Lawful E) (image work key value : List ℕ) (isDone : (put_outcome E image work key value).refusal ≡ done) where
  -- "a put that changes nothing keeps the page rules but not demand 2's map": what was put is there
  pub put-there : lookup key (map_of E (put_outcome E image work key value).image) ≡ some value
  put-there = rw (put-insert E lawful image work key value isDone).mapped (lookup-insert-same (record { key = key; value = value }) (map_of E image))

  pub put_changes : lookup key (map_of E image) ≡ none → (put_outcome E image work key value).image ≡ image → ⊥
  put_changes e same = none-ne-some _ (sym e ∙ (rw same at put-there))

  -- "answering 5 or one fixed value falls to demand 2": get answers with what was put, whatever it was
  pub get-put : (out : List ℕ) → good_key (length key) ≡ true → length value ≤ length out → let after = (put_outcome E image work key value).image in
      get_outcome E after (area E after) key out
      ≡ record { refusal = done; length = length value; work = work_after E after (area E after); out = value ++ drop (length value) out }
  get-put out good h =
      let after = (put_outcome E image work key value).image in
      let r = ready_area E after (put-insert E lawful image work key value isDone).accepted in
      get-found E lawful after (area E after) key out (record { accepted = r.accepted; enough = r.enough; good-keys = good; good-value = refl }) value put-there h

-- A fresh store ---------------------------------------------------------------------------------------------------------------

module _ (E : Edition) (lawful : Lawful E) (buffer : List ℕ) (good : good_image E (length buffer) ≡ true) where
  abbrev pub fresh : List ℕ
  fresh = (format_outcome E buffer).image

  abbrev n : ℕ
  n = length buffer / E.width

  fresh-store : decode E fresh ≡ formatted E.usable n
  unfolding good_image
  fresh-store =
      let k = simp and-eq-true_iff at good in
      let b = (between_iff 2 E.most_pages n).0 k.1 in
      ap (λ (c : Formatted). decode E c.image) (format_fresh E buffer good)
      ∙ decode-encode E lawful (formatted E.usable n) (formatted-valid E lawful n b.0 b.1).0

  -- "a check that accepts nothing" falls to the fresh store
  pub check-fresh : (check_outcome E fresh (area E fresh)).refusal ≡ done
  check-fresh = (check-counts E lawful fresh (area E fresh) (ready_area E fresh (format_accepted E buffer lawful good).accepted)).refusal

  -- "invented page counts fall to check's counts, which are the walk's": of a fresh store one leaf, and all others but the header free
  pub counts-fresh : ((check_outcome E fresh (area E fresh)).leaf_pages ≡ 1) × ((check_outcome E fresh (area E fresh)).free_pages ≡ length buffer / E.width - 2)
  unfolding formatted leaves
  counts-fresh =
      let c = check-counts E lawful fresh (area E fresh) (ready_area E fresh (format_accepted E buffer lawful good).accepted) in
      (c.leaf-pages ∙ rw fresh-store, c.free-pages ∙ rw fresh-store (length_from 2 (n - 2)))

  module _ (key value : List ℕ) (short : good_key (length key) ≡ true) (inline : length value ≤ inline_most) where
    whole : splits E.usable (formatted E.usable n) key value ≡ false
    unfolding splits spot descend formatted with leaf_most cell_most key_most inline_most
    whole =
        let x = new_cell E.usable (formatted E.usable n) key value in
        le-ltb (leaf_most E.usable) (costs (x ∷ [])) (omega (arith, lawful.room, costs-cons x [], costs-nil, cost-most x (unfold new_cell in (good_key_iff key).0 short)))

    room : has_room E.usable (formatted E.usable n) key value ≡ true
    room =
        let s = formatted E.usable n in
        (room_iff E.usable s key value).1
        (omega (arith, taken-whole E.usable s key value whole, chain_length-short E.usable (length value) (le-leb (length value) inline_most inline)))

    fits : good_value E.usable (length value) ≡ true
    unfolding inline_most value_most chain_most payload
    fits = (good_value_iff E.usable (length value)).1 (omega (arith, lawful.room))

    -- "refusing all with 6 falls to demand 3's room rule": a fresh store has room for an inline value
    pub put-fresh : (put_outcome E fresh (area E fresh) key value).refusal ≡ done
    put-fresh =
        let r = ready_area E fresh (format_accepted E buffer lawful good).accepted in
        rw (put-room E lawful fresh (area E fresh) key value (record { accepted = r.accepted; enough = r.enough; good-keys = short; good-value = fits }) (rw fresh-store room))

  -- Refuted ---------------------------------------------------------------------------------------------------------------------

  abbrev one : List ℕ
  one = 1 ∷ []

  good-one : good_key (length one) ≡ true
  unfolding good_key key_most
  good-one = (between_iff 1 32 1).1 (omega arith, omega arith)

  -- what get answers after a fresh store was given a short value
  read : (value : List ℕ) → length value ≤ 1 → (image : List ℕ) × (((get_outcome E image (area E image) one one).refusal ≡ done)
      × ((get_outcome E image (area E image) one one).length ≡ length value))
  unfolding inline_most
  read value h =
      let d = put-fresh one value good-one (omega arith) in
      let g = get-put E lawful fresh (area E fresh) one value d one good-one h in
      ((put_outcome E fresh (area E fresh) one value).image, (ap (λ (c : Got). c.refusal) g, ap (λ (c : Got). c.length) g))

  pub put-not-full : ((image work key value : List ℕ) → (put_outcome E image work key value).refusal ≡ no_room) → ⊥
  unfolding inline_most
  put-not-full f = omega (arith, put-fresh one one good-one (omega arith), f fresh (area E fresh) one one)

  pub get-not-missing : ((image work key out : List ℕ) → (get_outcome E image work key out).refusal ≡ missing) → ⊥
  get-not-missing f = let r = read one (omega arith) in omega (arith, r.1.0, f r.0 (area E r.0) one one)

  pub get-not_fixed : (l : ℕ) → ((image work key out : List ℕ) → (get_outcome E image work key out).refusal ≡ done → (get_outcome E image work key out).length ≡ l) → ⊥
  get-not_fixed l f =
      let r = read one (omega arith) in
      let q = read [] (omega arith) in
      omega (arith, r.1.1, q.1.1, f r.0 (area E r.0) one one r.1.0, f q.0 (area E q.0) one one q.1.0)

-- "a batch that runs everything at line one" falls to `batch-lines`, whose answers and images are those of the single calls, one after another.
