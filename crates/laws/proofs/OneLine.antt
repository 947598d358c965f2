-- A line does what the single call does, though nothing is checked before it: on an accepted image the single call is left with the same
-- tests of the arguments, and goes on with the same store.
use mathlib.Core.Path.{◌≡◌, refl, sym, ap, ◌∙◌}
use mathlib.Core.Bool.{Bool, true, false}
use mathlib.Core.List.{List}
use mathlib.Core.Option.{Option, none, some}
use Prim.Native.Nat.{ℕ, ◌/◌, ◌≤◌}
use native.Mathlib.Nat.{le_refl}
use lib.ListN.{length, take}
use lib.Seq.{take-append_seam}
use lib.Dec.{eqb}
use borrow.Author.Tests.{le-leb, eqb-true, eqb-false}
use Rattle.octets.specs.Choice.{choose}
use Rattle.octets.specs.Runs.{over}
use Rattle.octets.proofs.Choice.{either, either_by}
use Rattle.octets.proofs.Over.{length-zeros, over-front}
use Rattle.model.specs.Edition.{Edition}
use Rattle.model.specs.Types.{Store, Entry, to_map}
use Rattle.model.specs.Map.{lookup, range}
use Rattle.model.specs.Image.{encode}
use Rattle.model.specs.Decode.{decode}
use Rattle.model.specs.Accept.{accepts, valid}
use Rattle.model.specs.Change.{has_room}
use Rattle.model.specs.Refusals.{done, good_key, good_bounds, good_value, by_arguments}
use Rattle.model.specs.Calls.{Answer, Changed, Got, Scanned, gotten, get_outcome, scan_done, scan_outcome, put_in, delete_found, delete_in, changed_by, put_outcome, delete_outcome}
use Rattle.model.specs.Batch.{Command, putting, getting, deleting, scanning, unreadable, Said, letter_p, letter_g, letter_d, letter_s, said_number, refused, said_value, said_range, unless, line_done}
use Rattle.model.proofs.Editions.{Lawful}
use Rattle.laws_image.proofs.Whole.{accepted}
use Rattle.laws.specs.Ready.{map_of}
use Rattle.laws.specs.Lines.{number_text, got_text, scan_text, area, value_room, entries_room, line_text, line_image, Does}
use Rattle.laws.proofs.Guarded.{done-arguments, guarded-arguments}
use Rattle.laws.proofs.Kept.{put_in-valid, delete_in-valid}
use Rattle.laws.proofs.Values.{value-fits}
use Rattle.laws.proofs.Scans.{scans-whole}

-- two choices by one test agree where their branches do
pub both : {A B : Type 0} (R : A → B → Type 0) (b : Bool) (x y : A) (p q : B) → (b ≡ true → R x p) → (b ≡ false → R y q) → R (choose b x y) (choose b p q)
unfolding choose
both R true x y p q f g = f refl
both R false x y p q f g = g refl

-- Put and delete --------------------------------------------------------------------------------------------------------------

-- what is said and stored, and what the call answers and writes
record Same (E : Edition) (letter : ℕ) (a : Said) (o : Changed) : Type 0 where
  right : valid E a.store ≡ true
  written : encode E a.store ≡ o.image
  said : a.text ≡ number_text letter o.refusal

module _ (E : Edition) (image : List ℕ) (s : Store) (letter : ℕ) (t : valid E s ≡ true) (e : encode E s ≡ image) where
  same-refused : (r : ℕ) (w : List ℕ) → Same E letter (said_number letter (refused r s)) (record { refusal = r; image = image; work = w })
  unfolding said_number refused number_text
  same-refused r w = record { right = t; written = e; said = refl }

  same-changed : (a : Answer) (w : List ℕ) → valid E a.store ≡ true → ((a.refusal ≡ done → ⊥) → a.store ≡ s)
      → Same E letter (said_number letter a) (changed_by E image w a)
  unfolding said_number changed_by number_text
  same-changed a w v stays =
      either_by (Same E letter (said_number letter a)) (eqb a.refusal done) _ _
      (λ p. record { right = v; written = refl; said = ap (number_text letter) (eqb-true _ _ p) })
      (λ p. record { right = v; written = ap (encode E) (stays (eqb-false _ _ p)) ∙ e; said = refl })

put_in-refused : (E : Edition) (s : Store) (k v : List ℕ) → ((put_in E s k v).refusal ≡ done → ⊥) → (put_in E s k v).store ≡ s
unfolding put_in
put_in-refused E s k v =
    either (λ (a : Answer). (a.refusal ≡ done → ⊥) → a.store ≡ s) (has_room E.usable s k v) _ _ (λ n. absurd (n refl)) (λ n. refl)

delete_in-refused : (E : Edition) (s : Store) (k : List ℕ) → ((delete_in E s k).refusal ≡ done → ⊥) → (delete_in E s k).store ≡ s
unfolding delete_in
delete_in-refused E s k = go (lookup k (to_map s))
  where
    go : (o : Option (List ℕ)) → ((delete_found E s k o).refusal ≡ done → ⊥) → (delete_found E s k o).store ≡ s
    go none = unfold delete_found in λ n. refl
    go (some v) = unfold delete_found in λ n. absurd (n refl)

module _ (E : Edition) (lawful : Lawful E) (image : List ℕ) (t : accepts E image ≡ true) where
  abbrev s : Store
  s = decode E image

  right : valid E s ≡ true
  right = (accepted E image t).0

  enough : length image / E.width ≤ length (area E image)
  unfolding area
  enough = rw length-zeros (le_refl _)

  put_same : (k v : List ℕ) → Same E letter_p (line_done E s (putting k v)) (put_outcome E image (area E image) k v)
  unfolding line_done unless put_outcome
  put_same k v =
      let good = by_arguments (good_key (length k)) (good_value E.usable (length v)) in
      rw (guarded-arguments E image (area E image) (good_key (length k)) (good_value E.usable (length v)) _ _ lawful t enough)
      (both (Same E letter_p) (eqb good done) _ _ _ _
      (λ p. let g = done-arguments _ _ (eqb-true _ _ p) in
      same-changed E image s letter_p right (accepted E image t).1 (put_in E s k v) _ (put_in-valid E lawful s k v g.0 g.1 right) (put_in-refused E s k v))
      (λ p. same-refused E image s letter_p right (accepted E image t).1 good (area E image)))

  delete-same : (k : List ℕ) → Same E letter_d (line_done E s (deleting k)) (delete_outcome E image (area E image) k)
  unfolding line_done unless delete_outcome
  delete-same k =
      let good = by_arguments (good_key (length k)) true in
      rw (guarded-arguments E image (area E image) (good_key (length k)) true _ _ lawful t enough)
      (both (Same E letter_d) (eqb good done) _ _ _ _
      (λ p. same-changed E image s letter_d right (accepted E image t).1 (delete_in E s k) _ (delete_in-valid E lawful s k right) (delete_in-refused E s k))
      (λ p. same-refused E image s letter_d right (accepted E image t).1 good (area E image)))

  -- Get and scan --------------------------------------------------------------------------------------------------------------

  got : (k w : List ℕ) (o : Option (List ℕ)) → lookup k (to_map s) ≡ o → ((said_value s o).store ≡ s) × ((said_value s o).text ≡ got_text (gotten w (value_room E) o))
  unfolding said_value said_number refused gotten got_text number_text choose
  got k w none e = (refl, refl)
  got k w (some v) e =
      let out = value_room E in
      let h : length v ≤ length out = unfold value_room in rw length-zeros (value-fits E lawful s right k v e) in
      let f : take (length v) (over out 0 v) ≡ v = rw (over-front out v h) (take-append_seam v _) in
      (refl, rw (le-leb (length v) (length out) h, f))

  got-refused : (r : ℕ) (w out : List ℕ) → eqb r done ≡ false
      → let a = said_number letter_g (refused r s) in (a.store ≡ s) × (a.text ≡ got_text (record { refusal = r; length = 0; work = w; out = out }))
  unfolding said_number refused got_text number_text choose
  got-refused r w out p = (refl, rw p)

  get-same : (k : List ℕ) → let a = line_done E s (getting k) in (a.store ≡ s) × (a.text ≡ got_text (get_outcome E image (area E image) k (value_room E)))
  unfolding line_done unless get_outcome
  get-same k =
      let good = by_arguments (good_key (length k)) true in
      rw (guarded-arguments E image (area E image) (good_key (length k)) true _ _ lawful t enough)
      (both (λ (a : Said) (o : Got). (a.store ≡ s) × (a.text ≡ got_text o)) (eqb good done) _ _ _ _
      (λ p. got k _ (lookup k (to_map s)) refl)
      (λ p. got-refused good (area E image) (value_room E) p))

  scanned : (w : List ℕ) (es : List Entry) → ((said_range s es).store ≡ s) × ((said_range s es).text ≡ scan_text es (scan_done w (entries_room E es) es))
  unfolding said_range scan_text choose entries_room
  scanned w es = (refl, rw (scans-whole w (entries_room E es) es (rw length-zeros (le_refl _))))

  scan-refused : (es : List Entry) (r : ℕ) (w out : List ℕ) → eqb r done ≡ false
      → let a = said_number letter_s (refused r s) in
      (a.store ≡ s) × (a.text ≡ scan_text es (record { refusal = r; entries = 0; bytes = 0; more = false; work = w; out = out }))
  unfolding said_number refused scan_text number_text choose
  scan-refused es r w out p = (refl, rw p)

  scan-same : (low high : List ℕ) → let a = line_done E s (scanning low high) in let es = range low high (to_map s) in
      (a.store ≡ s) × (a.text ≡ scan_text es (scan_outcome E image (area E image) low high (entries_room E es)))
  unfolding line_done unless scan_outcome
  scan-same low high =
      let good = by_arguments (good_bounds (length low) (length high)) true in
      let es = range low high (to_map s) in
      rw (guarded-arguments E image (area E image) (good_bounds (length low) (length high)) true _ _ lawful t enough)
      (both (λ (a : Said) (o : Scanned). (a.store ≡ s) × (a.text ≡ scan_text es o)) (eqb good done) _ _ _ _
      (λ p. scanned _ es) (λ p. scan-refused es good (area E image) (entries_room E es) p))

  -- A line --------------------------------------------------------------------------------------------------------------------

  stays : (c : Command) (a : Said) → line_image E image c ≡ image → a.store ≡ s → a.text ≡ line_text E image c → Does E image c a
  stays c a i p q = record { right = rw p right; written = ap (encode E) p ∙ ((accepted E image t).1 ∙ sym i); said = q }

  -- "Each line does what the single call does"
  pub line_does : (c : Command) → Does E image c (line_done E s c)
  unfolding line_image line_text map_of
  line_does (putting k v) = let r = put_same k v in record { right = r.right; written = r.written; said = r.said }
  line_does (getting k) = let r = get-same k in stays (getting k) _ refl r.0 r.1
  line_does (deleting k) = let r = delete-same k in record { right = r.right; written = r.written; said = r.said }
  line_does (scanning low high) = let r = scan-same low high in stays (scanning low high) _ refl r.0 r.1
  line_does unreadable = stays unreadable _ refl (unfold line_done said_number refused in refl) (unfold line_done said_number refused number_text in refl)
