-- After any calls the image is accepted and its map is the one that the calls give: each call keeps that, whether it is refused or not.
use mathlib.Core.Path.{◌≡◌, refl, sym, ap, ◌∙◌}
use mathlib.Core.Bool.{Bool, true, false, false≢true}
use mathlib.Core.List.{List, [], ◌∷◌, map}
use Prim.Native.Nat.{ℕ, ◌/◌, ◌≤◌, ◌<◌}
use native.Mathlib.Omega.{arith}
use lib.ListN.{length}
use lib.Dec.{eqb, ltb}
use borrow.Author.Tests.{eqb-true, eqb-false, ltb-true, ltb-false}
use Rattle.octets.specs.Choice.{choose}
use Rattle.octets.proofs.Choice.{choose-true, choose-false}
use Rattle.model.specs.Edition.{Edition}
use Rattle.model.specs.Types.{Entry}
use Rattle.model.specs.Map.{lookup, insert, erase}
use Rattle.model.specs.Accept.{accepts}
use Rattle.model.specs.Refusals.{done, too_short, good_key, good_image}
use Rattle.model.specs.Calls.{Changed, gotten, get_outcome, put_outcome, delete_outcome, format_outcome}
use Rattle.model.specs.Batch.{Command, putting, getting, deleting, scanning, unreadable, Line, Batched, batch_outcome}
use Rattle.model.proofs.Editions.{Lawful}
use Rattle.model.proofs.Tests.{cases}
use Rattle.model.proofs.Each.{All, nil, cons}
use Rattle.laws_image.proofs.ByPages.{good_image-accepted}
use Rattle.laws.specs.Ready.{map_of, work_after}
use Rattle.laws.specs.Answers.{Becomes}
use Rattle.laws.specs.Lines.{area, line_image, line_map, lines_image, lines_map, lines_of, begun}
use Rattle.laws.specs.Call.{Call, check, get, view, describe, put, delete, scan, batch, begins, call_image, call_map, images_after, maps_after, image_after, map_after}
use Rattle.laws.proofs.Guarded.{lengths-work}
use Rattle.laws.proofs.Answers.{get-map}
use Rattle.laws.proofs.Changes.{put-insert, put_refused, delete-erase, delete-refused, format_accepted}
use Rattle.laws.proofs.Batched.{batch-lengths, batch-lines}

-- One call --------------------------------------------------------------------------------------------------------------------

module _ (E : Edition) (lawful : Lawful E) where
  same : (image : List ℕ) → accepts E image ≡ true → Becomes E (λ m. m) image image
  same image t = record { accepted = t; mapped = refl }

  -- changed, or left
  chosen : (b : Bool) (image after : List ℕ) (change : List Entry → List Entry) → (b ≡ true → Becomes E change image after) → (b ≡ false → after ≡ image)
      → accepts E image ≡ true → Becomes E (λ m. choose b (change m) m) image after
  chosen b image after change p q t =
      cases b (λ f. let r = p f in record { accepted = r.accepted; mapped = r.mapped ∙ sym (choose-true b _ _ f) })
      (λ f. let e = q f in record { accepted = rw e t; mapped = ap (map_of E) e ∙ sym (choose-false b _ _ f) })

  changed : (image : List ℕ) (o : Changed) (change : List Entry → List Entry) → (o.refusal ≡ done → Becomes E change image o.image)
      → ((o.refusal ≡ done → ⊥) → o.image ≡ image) → accepts E image ≡ true
      → Becomes E (λ m. choose (eqb o.refusal done) (change m) m) image o.image
  changed image o change p q t = chosen (eqb o.refusal done) image o.image change (λ b. p (eqb-true _ _ b)) (λ b. q (eqb-false _ _ b)) t

  put_becomes : (image work k v : List ℕ) → accepts E image ≡ true
      → Becomes E (λ m. choose (eqb (put_outcome E image work k v).refusal done) (insert (record { key = k; value = v }) m) m) image (put_outcome E image work k v).image
  put_becomes image work k v t =
      changed image (put_outcome E image work k v) (insert (record { key = k; value = v })) (put-insert E lawful image work k v) (put_refused E lawful image work k v) t

  delete_becomes : (image work k : List ℕ) → accepts E image ≡ true
      → Becomes E (λ m. choose (eqb (delete_outcome E image work k).refusal done) (erase k m) m) image (delete_outcome E image work k).image
  delete_becomes image work k t =
      changed image (delete_outcome E image work k) (erase k) (delete-erase E lawful image work k) (delete-refused E lawful image work k) t

  line_becomes : (image : List ℕ) (c : Command) → accepts E image ≡ true → Becomes E (line_map E image c) image (line_image E image c)
  unfolding line_map line_image
  line_becomes image (putting k v) t = put_becomes image (area E image) k v t
  line_becomes image (getting k) t = same image t
  line_becomes image (deleting k) t = delete_becomes image (area E image) k t
  line_becomes image (scanning low high) t = same image t
  line_becomes image unreadable t = same image t

  pub lines_become : (image : List ℕ) (ls : List Line) → accepts E image ≡ true → Becomes E (lines_map E image ls) image (lines_image E image ls)
  unfolding lines_map lines_image
  lines_become image [] t = same image t
  lines_become image (l ∷ ls) t =
      let r = line_becomes image l.says t in
      let q = lines_become (line_image E image l.says) ls r.accepted in
      record { accepted = q.accepted; mapped = q.mapped ∙ ap (lines_map E (line_image E image l.says) ls) r.mapped }

  -- a batch begins exactly if the work area is long enough
  module _ (image work input out : List ℕ) (t : accepts E image ≡ true) where
    abbrev o : Batched
    o = batch_outcome E image work input out

    abbrev bs : List Line
    bs = begun E (length out) image (lines_of (length input) input)

    short : length work < length image / E.width → (begins o.refusal ≡ false) × (o.image ≡ image)
    unfolding begins
    short h =
        let e = lengths-work E (length image) (length work) true true (good_image-accepted E lawful image t) h in
        let q = batch-lengths E image work input out (λ z. omega arith) in
        (rw (q, e), ap (λ (c : Batched). c.image) q)

    begins_stop : (b : Bool) → begins (choose b too_short done) ≡ true
    unfolding begins choose
    begins_stop true = refl
    begins_stop false = refl

    enough : length image / E.width ≤ length work → (begins o.refusal ≡ true) × (o.image ≡ lines_image E image bs)
    enough h =
        let q = batch-lines E lawful image work input out (record { accepted = t; enough = h; good-keys = refl; good-value = refl }) in
        (rw q (begins_stop _), ap (λ (c : Batched). c.image) q)

    batch_becomes : Becomes E (call_map E image (batch work input out)) image o.image
    unfolding call_map
    batch_becomes =
        let few = ltb (length work) (length image / E.width) in
        chosen (begins o.refusal) image o.image (lines_map E image bs)
        (λ b. cases few (λ p. absurd (false≢true (sym (short (ltb-true _ _ p)).0 ∙ b))) (λ p. rw (enough (ltb-false _ _ p)).1 (lines_become image bs t)))
        (λ b. cases few (λ p. (short (ltb-true _ _ p)).1) (λ p. absurd (false≢true (sym b ∙ (enough (ltb-false _ _ p)).0)))) t

  -- whatever it answers, a call on an accepted image leaves an accepted one, whose map is as the call says
  pub call_becomes : (image : List ℕ) (c : Call) → accepts E image ≡ true → Becomes E (call_map E image c) image (call_image E image c)
  unfolding call_map call_image
  call_becomes image (check work) t = same image t
  call_becomes image (get work key out) t = same image t
  call_becomes image (view work key) t = same image t
  call_becomes image (describe work key) t = same image t
  call_becomes image (put work key value) t = put_becomes image work key value t
  call_becomes image (delete work key) t = delete_becomes image work key t
  call_becomes image (scan work low high out) t = same image t
  call_becomes image (batch work input out) t = batch_becomes image work input out t

  -- Any calls -------------------------------------------------------------------------------------------------------------------

  -- the image after each call is accepted, and its map is the one that the calls give on the map
  pub sequence : (image : List ℕ) (cs : List Call) → accepts E image ≡ true
      → All (λ i. accepts E i ≡ true) (images_after E image cs) × (map (map_of E) (images_after E image cs) ≡ maps_after E image cs (map_of E image))
  unfolding images_after maps_after
  sequence image [] t = (nil, refl)
  sequence image (c ∷ cs) t =
      let r = call_becomes image c t in
      let q = sequence (call_image E image c) cs r.accepted in
      (cons r.accepted q.0, rw (← r.mapped) (ap (λ (l : List (List Entry)). map_of E (call_image E image c) ∷ l) q.1))

  -- the same of the last image
  pub calls_become : (image : List ℕ) (cs : List Call) → accepts E image ≡ true → Becomes E (map_after E image cs) image (image_after E image cs)
  unfolding image_after map_after
  calls_become image [] t = same image t
  calls_become image (c ∷ cs) t =
      let r = call_becomes image c t in
      let q = calls_become (call_image E image c) cs r.accepted in
      record { accepted = q.accepted; mapped = q.mapped ∙ ap (map_after E (call_image E image c) cs) r.mapped }

  -- A fresh store ---------------------------------------------------------------------------------------------------------------

  -- from a fresh store, whatever the buffer held
  pub fresh-sequence : (buffer : List ℕ) (cs : List Call) → good_image E (length buffer) ≡ true → let image = (format_outcome E buffer).image in
      All (λ i. accepts E i ≡ true) (images_after E image cs) × (map (map_of E) (images_after E image cs) ≡ maps_after E image cs [])
  fresh-sequence buffer cs g =
      let image = (format_outcome E buffer).image in
      let f = format_accepted E buffer lawful g in
      let q = sequence image cs f.accepted in
      (q.0, q.1 ∙ ap (maps_after E image cs) f.mapped)

  -- so after any calls get answers by the map that they gave on the empty one
  pub get_after : (buffer : List ℕ) (cs : List Call) → good_image E (length buffer) ≡ true → (work key out : List ℕ)
      → let fresh = (format_outcome E buffer).image in let image = image_after E fresh cs in
      length image / E.width ≤ length work → good_key (length key) ≡ true
      → get_outcome E image work key out ≡ gotten (work_after E image work) out (lookup key (map_after E fresh cs []))
  get_after buffer cs g work key out enough good =
      let fresh = (format_outcome E buffer).image in
      let f = format_accepted E buffer lawful g in
      let r = calls_become fresh cs f.accepted in
      get-map E lawful (image_after E fresh cs) work key out (record { accepted = r.accepted; enough = enough; good-keys = good; good-value = refl })
      ∙ rw (r.mapped, f.mapped)
