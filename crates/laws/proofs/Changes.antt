-- Put inserts into the map of the image and delete erases from it, and a refused call leaves the image: what each stores is a valid store, which its image gives back.
use mathlib.Core.Path.{◌≡◌, refl, ap, ◌∙◌}
use mathlib.Core.Bool.{true, false, and-eq-true_iff}
use mathlib.Core.List.{List, []}
use mathlib.Core.Option.{Option, none, some}
use Prim.Native.Nat.{ℕ, ◌/◌}
use native.Mathlib.Omega.{arith}
use lib.ListN.{length}
use lib.Dec.{eqb}
use borrow.Author.Tests.{eqb-true, eqb-false}
use Rattle.octets.specs.Choice.{choose}
use Rattle.octets.proofs.Choice.{choose-true, choose-false, either_by}
use Rattle.model.specs.Edition.{Edition}
use Rattle.model.specs.Types.{Store, Entry, to_map}
use Rattle.model.specs.Map.{lookup, insert, erase}
use Rattle.model.specs.Image.{encode}
use Rattle.model.specs.Decode.{decode}
use Rattle.model.specs.Accept.{valid}
use Rattle.model.specs.Change.{formatted, has_room, put_done, delete_done}
use Rattle.model.specs.Refusals.{done, bad_image, missing, no_room, good_key, good_value, good_image}
use Rattle.model.specs.Calls.{Answer, Changed, put_in, delete_found, delete_in, changed_by, put_outcome, delete_outcome, format_outcome}
use Rattle.model.proofs.Tests.{between_iff}
use Rattle.model.proofs.Editions.{Lawful}
use Rattle.laws_image.proofs.Whole.{accepted, decode-encode, accepts-encode}
use Rattle.laws_order.proofs.Bounds.{valid-sorted}
use Rattle.laws_order.proofs.Changes.{put_done-map, delete_done-map}
use Rattle.laws.specs.Ready.{Ready, map_of, work_after}
use Rattle.laws.specs.Answers.{Becomes}
use Rattle.laws.proofs.Kept.{formatted-valid, put-valid, delete-valid}
use Rattle.laws.proofs.Guarded.{guarded_ready, guarded-all}

-- A store written -----------------------------------------------------------------------------------------------------------

module _ (E : Edition) (lawful : Lawful E) where
  pub map_of-encode : (s : Store) → valid E s ≡ true → map_of E (encode E s) ≡ to_map s
  unfolding map_of
  map_of-encode s t = ap to_map (decode-encode E lawful s t)

  stored : (change : List Entry → List Entry) (image : List ℕ) (s : Store) → valid E s ≡ true → to_map s ≡ change (map_of E image)
      → Becomes E change image (encode E s)
  stored change image s t e = record { accepted = accepts-encode E lawful s t; mapped = map_of-encode s t ∙ e }

-- A call that was done, and one that was refused
changed-done : (E : Edition) (image work : List ℕ) (a : Answer) (P : List ℕ → Type 0) → (a.refusal ≡ done → P (encode E a.store))
    → (changed_by E image work a).refusal ≡ done → P (changed_by E image work a).image
unfolding changed_by
changed-done E image work a P p =
    either_by (λ (c : Changed). c.refusal ≡ done → P c.image) (eqb a.refusal done) _ _
    (λ t q. p (eqb-true _ _ t)) (λ t q. absurd (eqb-false _ _ t q))

changed-refused : (E : Edition) (image work : List ℕ) (a : Answer) → ((changed_by E image work a).refusal ≡ done → ⊥) → (changed_by E image work a).image ≡ image
unfolding changed_by
changed-refused E image work a =
    either_by (λ (c : Changed). (c.refusal ≡ done → ⊥) → c.image ≡ image) (eqb a.refusal done) _ _ (λ t n. absurd (n refl)) (λ t n. refl)

-- Put -----------------------------------------------------------------------------------------------------------------------

module _ (E : Edition) (lawful : Lawful E) (image work key value : List ℕ) where
  -- what put puts
  abbrev pub pair : Entry
  pair = record { key = key; value = value }

  put-stored : Ready E image work (good_key (length key)) (good_value E.usable (length value)) → (put_in E (decode E image) key value).refusal ≡ done
      → Becomes E (insert pair) image (encode E (put_in E (decode E image) key value).store)
  unfolding put_in map_of
  put-stored ready =
      let L = E.usable in
      let s = decode E image in
      let t = (accepted E image ready.accepted).0 in
      either_by (λ (a : Answer). a.refusal ≡ done → Becomes E (insert pair) image (encode E a.store)) (has_room L s key value) _ _
      (λ has q. stored E lawful (insert pair) image _ (put-valid E lawful s key value ready.good-keys ready.good-value has t) (put_done-map L s key value (valid-sorted E s t)))
      (λ few q. absurd (omega arith))

  -- done: the entry is in the map, in the place of the one that had its key
  pub put-insert : (put_outcome E image work key value).refusal ≡ done → Becomes E (insert pair) image (put_outcome E image work key value).image
  unfolding put_outcome
  put-insert =
      guarded-all E image work _ _ _ _ lawful (λ (c : Changed). c.refusal ≡ done → Becomes E (insert pair) image c.image)
      (λ r w n q. absurd (n q)) (λ ready w. changed-done E image w _ (Becomes E (insert pair) image) (put-stored ready))

  -- refused: the image stays, and so the map
  pub put_refused : ((put_outcome E image work key value).refusal ≡ done → ⊥) → (put_outcome E image work key value).image ≡ image
  unfolding put_outcome
  put_refused =
      guarded-all E image work _ _ _ _ lawful (λ (c : Changed). (c.refusal ≡ done → ⊥) → c.image ≡ image)
      (λ r w n q. refl) (λ ready w. changed-refused E image w _)

  module _ (ready : Ready E image work (good_key (length key)) (good_value E.usable (length value))) where
    put_answer : put_outcome E image work key value ≡ changed_by E image (work_after E image work) (put_in E (decode E image) key value)
    unfolding put_outcome
    put_answer = guarded_ready E image work _ _ _ _ lawful ready

    pub put-room : has_room E.usable (decode E image) key value ≡ true
        → put_outcome E image work key value ≡ record { refusal = done; image = encode E (put_done E.usable (decode E image) key value); work = work_after E image work }
    unfolding put_in changed_by choose
    put-room has = put_answer ∙ rw has

    -- "6: too few pages: only the work area, roles"
    pub put_full : has_room E.usable (decode E image) key value ≡ false
        → put_outcome E image work key value ≡ record { refusal = no_room; image = image; work = work_after E image work }
    unfolding put_in changed_by choose
    put_full few = put_answer ∙ rw few

-- Delete --------------------------------------------------------------------------------------------------------------------

module _ (E : Edition) (lawful : Lawful E) (image work key : List ℕ) where
  delete-stored : Ready E image work (good_key (length key)) true → (delete_in E (decode E image) key).refusal ≡ done
      → Becomes E (erase key) image (encode E (delete_in E (decode E image) key).store)
  unfolding delete_in
  delete-stored ready = go (lookup key (to_map (decode E image)))
    where
      go : (o : Option (List ℕ)) → (delete_found E (decode E image) key o).refusal ≡ done
          → Becomes E (erase key) image (encode E (delete_found E (decode E image) key o).store)
      go none = unfold delete_found in λ q. absurd (omega arith)
      go (some v) = unfold delete_found map_of in λ q.
          let s = decode E image in
          let t = (accepted E image ready.accepted).0 in
          stored E lawful (erase key) image _ (delete-valid E lawful s key t) (delete_done-map E.usable s key (valid-sorted E s t))

  -- done: the key is out of the map
  pub delete-erase : (delete_outcome E image work key).refusal ≡ done → Becomes E (erase key) image (delete_outcome E image work key).image
  unfolding delete_outcome
  delete-erase =
      guarded-all E image work _ _ _ _ lawful (λ (c : Changed). c.refusal ≡ done → Becomes E (erase key) image c.image)
      (λ r w n q. absurd (n q)) (λ ready w. changed-done E image w _ (Becomes E (erase key) image) (delete-stored ready))

  pub delete-refused : ((delete_outcome E image work key).refusal ≡ done → ⊥) → (delete_outcome E image work key).image ≡ image
  unfolding delete_outcome
  delete-refused =
      guarded-all E image work _ _ _ _ lawful (λ (c : Changed). (c.refusal ≡ done → ⊥) → c.image ≡ image)
      (λ r w n q. refl) (λ ready w. changed-refused E image w _)

  module _ (ready : Ready E image work (good_key (length key)) true) where
    delete-found_answer : (o : Option (List ℕ)) → lookup key (map_of E image) ≡ o
        → delete_outcome E image work key ≡ changed_by E image (work_after E image work) (delete_found E (decode E image) key o)
    unfolding delete_outcome delete_in map_of
    delete-found_answer o e = guarded_ready E image work _ _ _ _ lawful ready ∙ rw e

    -- "5: key not in the map: only the work area, roles"
    pub delete-missing : lookup key (map_of E image) ≡ none → delete_outcome E image work key ≡ record { refusal = missing; image = image; work = work_after E image work }
    unfolding delete_found changed_by choose
    delete-missing e = delete-found_answer none e

    -- else it is done
    pub delete-found : (v : List ℕ) → lookup key (map_of E image) ≡ some v
        → delete_outcome E image work key ≡ record { refusal = done; image = encode E (delete_done E.usable (decode E image) key); work = work_after E image work }
    unfolding delete_found changed_by choose
    delete-found v e = delete-found_answer (some v) e

-- Format --------------------------------------------------------------------------------------------------------------------

module _ (E : Edition) (image : List ℕ) where
  -- "1: all buffers unchanged"
  pub format_refused : good_image E (length image) ≡ false → format_outcome E image ≡ record { refusal = bad_image; image = image }
  unfolding format_outcome
  format_refused e = choose-false _ _ _ e

  -- else a fresh store
  pub format_fresh : good_image E (length image) ≡ true
      → format_outcome E image ≡ record { refusal = done; image = encode E (formatted E.usable (length image / E.width)) }
  unfolding format_outcome
  format_fresh e = choose-true _ _ _ e

  pub format_accepted : Lawful E → good_image E (length image) ≡ true → Becomes E (λ m. []) image (format_outcome E image).image
  unfolding good_image
  format_accepted lawful e =
      let n = length image / E.width in
      let k = simp and-eq-true_iff at e in
      let b = (between_iff 2 E.most_pages n).0 k.1 in
      let f = formatted-valid E lawful n b.0 b.1 in
      rw (format_fresh e) (stored E lawful (λ m. []) image (formatted E.usable n) f.0 f.1)
