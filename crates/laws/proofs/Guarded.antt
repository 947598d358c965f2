-- The refusal table, once for all calls: what the lengths refuse, then what check refuses, and else the call goes on with the store of the image.
use mathlib.Core.Path.{◌≡◌, refl, sym, ◌∙◌}
use mathlib.Core.Bool.{Bool, true, false}
use mathlib.Core.List.{List}
use Prim.Native.Nat.{ℕ, ◌/◌, ◌≤◌, ◌<◌}
use native.Mathlib.Omega.{arith}
use lib.ListN.{length}
use lib.Dec.{ltb, eqb}
use borrow.Author.Tests.{ltb-true, ltb-false, lt-ltb, le-ltb, eq-eqb, ne_eqb, eqb-true, eqb-false}
use Rattle.octets.specs.Choice.{choose}
use Rattle.octets.specs.Runs.{zeros}
use Rattle.octets.proofs.Choice.{choose-true, choose-false, either_by}
use Rattle.model.specs.Edition.{Edition}
use Rattle.model.specs.Types.{Store}
use Rattle.model.specs.Decode.{decode}
use Rattle.model.specs.Accept.{accepts}
use Rattle.model.specs.Refusals.{done, bad_image, small_work, bad_key, bad_value, damaged, by_arguments, good_image, by_lengths, entered, guarded}
use Rattle.model.proofs.Editions.{Lawful}
use Rattle.model.proofs.Tests.{cases}
use Rattle.laws_image.proofs.ByPages.{good_image-accepted}
use Rattle.laws.specs.Ready.{Ready, work_after}

-- The arguments -----------------------------------------------------------------------------------------------------------
-- "3: key of 0 or more than 32 bytes; for scan, a bound of more than 32", then "4: value of more than 4,032 bytes"

pub arguments-key : (value : Bool) → by_arguments false value ≡ bad_key
arguments-key value = unfold by_arguments in choose-false false _ _ refl

pub arguments-value : by_arguments true false ≡ bad_value
arguments-value = unfold by_arguments in choose-true true _ _ refl ∙ choose-false false _ _ refl

pub arguments-done : (keys value : Bool) → keys ≡ true → value ≡ true → by_arguments keys value ≡ done
unfolding by_arguments
arguments-done keys value k v = choose-true keys _ _ k ∙ choose-true value _ _ v

pub done-arguments : (keys value : Bool) → by_arguments keys value ≡ done → (keys ≡ true) × (value ≡ true)
unfolding by_arguments
done-arguments true true e = (refl, refl)
done-arguments true false e = absurd (omega (arith, sym arguments-value ∙ e))
done-arguments false value e = absurd (omega (arith, sym (arguments-key value) ∙ e))

-- The lengths -------------------------------------------------------------------------------------------------------------

module _ (E : Edition) (image work : ℕ) (keys value : Bool) where
  -- "1: image length no multiple of 512, or n below 2 or above 1,024"
  pub lengths-image : good_image E image ≡ false → by_lengths E image work keys value ≡ bad_image
  unfolding by_lengths
  lengths-image e = choose-false _ _ _ e

  -- "9: work area shorter than n"
  pub lengths-work : good_image E image ≡ true → work < image / E.width → by_lengths E image work keys value ≡ small_work
  unfolding by_lengths
  lengths-work e h = choose-true _ _ _ e ∙ choose-true _ _ _ (lt-ltb _ _ h)

  -- then 3 and 4
  pub lengths-arguments : good_image E image ≡ true → image / E.width ≤ work → by_lengths E image work keys value ≡ by_arguments keys value
  unfolding by_lengths
  lengths-arguments e h = choose-true _ _ _ e ∙ choose-false _ _ _ (le-ltb _ _ h)

module _ (E : Edition) (lawful : Lawful E) (image work : List ℕ) (keys value : Bool) where
  -- the lengths of an accepted image refuse nothing, so that only the work area and the arguments can
  pub lengths-accepted : accepts E image ≡ true → length image / E.width ≤ length work
      → by_lengths E (length image) (length work) keys value ≡ by_arguments keys value
  lengths-accepted t h = lengths-arguments E (length image) (length work) keys value (good_image-accepted E lawful image t) h

  pub lengths_ready : Ready E image work keys value → by_lengths E (length image) (length work) keys value ≡ done
  lengths_ready r = lengths-accepted r.accepted r.enough ∙ arguments-done keys value r.good-keys r.good-value

  -- and what they do not refuse is good
  done-image : by_lengths E (length image) (length work) keys value ≡ done → good_image E (length image) ≡ true
  done-image e = cases (good_image E (length image)) (λ t. t) (λ t. absurd (omega (arith, sym (lengths-image E (length image) (length work) keys value t) ∙ e)))

  done-work : by_lengths E (length image) (length work) keys value ≡ done → length image / E.width ≤ length work
  done-work e =
      cases (ltb (length work) (length image / E.width))
      (λ t. absurd (omega (arith, sym (lengths-work E (length image) (length work) keys value (done-image e) (ltb-true _ _ t)) ∙ e))) (λ t. ltb-false _ _ t)

  pub ready_done : by_lengths E (length image) (length work) keys value ≡ done → accepts E image ≡ true → Ready E image work keys value
  ready_done e t =
      let h = done-work e in
      let a = done-arguments keys value (sym (lengths-accepted t h) ∙ e) in
      record { accepted = t; enough = h; good-keys = a.0; good-value = a.1 }

-- A call ------------------------------------------------------------------------------------------------------------------

module _ {A : Type 0} (E : Edition) (image work : List ℕ) (keys value : Bool) (refuse : ℕ → List ℕ → A) (go : Store → List ℕ → A) where
  abbrev lengths : ℕ
  lengths = by_lengths E (length image) (length work) keys value

  -- "1, 9, 3, 4: all buffers unchanged"
  pub guarded-lengths : (lengths ≡ done → ⊥) → guarded E image work keys value refuse go ≡ refuse lengths work
  unfolding guarded
  guarded-lengths n = choose-false _ _ _ (ne_eqb lengths done n)

  -- "2: check refuses the image: only the work area, zeros"
  pub guarded-damaged : lengths ≡ done → accepts E image ≡ false
      → guarded E image work keys value refuse go ≡ refuse damaged (entered (zeros (length image / E.width)) work)
  unfolding guarded
  guarded-damaged e t = choose-true _ _ _ (eq-eqb lengths done e) ∙ choose-false _ _ _ t

  -- else the work area has the roles
  pub guarded-accepted : lengths ≡ done → accepts E image ≡ true → guarded E image work keys value refuse go ≡ go (decode E image) (work_after E image work)
  unfolding guarded work_after
  guarded-accepted e t = choose-true _ _ _ (eq-eqb lengths done e) ∙ choose-true _ _ _ t

  pub guarded_ready : Lawful E → Ready E image work keys value → guarded E image work keys value refuse go ≡ go (decode E image) (work_after E image work)
  guarded_ready lawful r = guarded-accepted (lengths_ready E lawful image work keys value r) r.accepted

  -- on an accepted image only the arguments are left to refuse
  pub guarded-arguments : Lawful E → accepts E image ≡ true → length image / E.width ≤ length work
      → guarded E image work keys value refuse go
      ≡ choose (eqb (by_arguments keys value) done) (go (decode E image) (work_after E image work)) (refuse (by_arguments keys value) work)
  unfolding guarded work_after
  guarded-arguments lawful t h = rw (lengths-accepted E lawful image work keys value t h, choose-true (accepts E image) _ _ t)

  -- what holds of every refusal, and of the call on every image that is accepted, holds of the call
  pub guarded-all : Lawful E → (P : A → Type 0) → ((r : ℕ) (w : List ℕ) → (r ≡ done → ⊥) → P (refuse r w))
      → (Ready E image work keys value → (w : List ℕ) → P (go (decode E image) w)) → P (guarded E image work keys value refuse go)
  unfolding guarded
  guarded-all lawful P p q =
      either_by P (eqb lengths done) _ _
      (λ e. either_by P (accepts E image) _ _
      (λ t. q (ready_done E lawful image work keys value (eqb-true lengths done e) t) _) (λ t. p damaged _ (λ z. omega arith)))
      (λ e. p lengths work (eqb-false lengths done e))
