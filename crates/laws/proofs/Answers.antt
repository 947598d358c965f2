-- On an accepted image the calls answer as its map does: a call that is not refused goes on with the store of the image, whose entries are the map.
use mathlib.Core.Path.{◌≡◌, refl, ◌∙◌}
use mathlib.Core.Bool.{true, false}
use mathlib.Core.List.{List, ◌++◌}
use mathlib.Core.Option.{none, some}
use Prim.Native.Nat.{ℕ, ◌≤◌, ◌<◌}
use native.Mathlib.Omega.{arith}
use lib.ListN.{length, drop}
use lib.Dec.{ltb}
use borrow.Author.Tests.{le-leb, lt-leb}
use Rattle.octets.proofs.Choice.{choose-true, choose-false}
use Rattle.octets.proofs.Over.{over-front}
use Rattle.model.specs.Edition.{Edition}
use Rattle.model.specs.Map.{lookup}
use Rattle.model.specs.Sizes.{inline_most}
use Rattle.model.specs.Decode.{decode}
use Rattle.model.specs.Refusals.{done, missing, too_short, good_key}
use Rattle.model.specs.Calls.{gotten, get_outcome, describe_done, describe_outcome, check_done, check_outcome}
use Rattle.model.proofs.Editions.{Lawful}
use Rattle.laws_image.proofs.Whole.{accepted}
use Rattle.laws_image.proofs.Roles.{roles-walked, roles_header, roles-all}
use Rattle.laws_image.proofs.Counts.{roles-leaves, roles-chains, roles-free}
use Rattle.laws.specs.Ready.{Ready, map_of, work_after}
use Rattle.laws.specs.Answers.{in_role, Counted}
use Rattle.laws.proofs.Guarded.{guarded_ready}

-- Get ---------------------------------------------------------------------------------------------------------------------

module _ (E : Edition) (lawful : Lawful E) (image work key out : List ℕ) (ready : Ready E image work (good_key (length key)) true) where
  pub get-map : get_outcome E image work key out ≡ gotten (work_after E image work) out (lookup key (map_of E image))
  unfolding get_outcome map_of
  get-map = guarded_ready E image work _ _ _ _ lawful ready

  -- "5: key not in the map: only the work area, roles"
  pub get-missing : lookup key (map_of E image) ≡ none
      → get_outcome E image work key out ≡ record { refusal = missing; length = 0; work = work_after E image work; out = out }
  unfolding gotten
  get-missing e = get-map ∙ rw e

  -- "Get writes the value at the start of the output; later output bytes stay"
  pub get-found : (v : List ℕ) → lookup key (map_of E image) ≡ some v → length v ≤ length out
      → get_outcome E image work key out ≡ record { refusal = done; length = length v; work = work_after E image work; out = v ++ drop (length v) out }
  unfolding gotten
  get-found v e h = get-map ∙ rw e (choose-true _ _ _ (le-leb _ _ h) ∙ rw (over-front out v h))

  -- "7: output shorter than the value: only the work area; gives the length needed"
  pub get-short : (v : List ℕ) → lookup key (map_of E image) ≡ some v → length out < length v
      → get_outcome E image work key out ≡ record { refusal = too_short; length = length v; work = work_after E image work; out = out }
  unfolding gotten
  get-short v e h = get-map ∙ rw e (choose-false _ _ _ (lt-leb _ _ h))

-- Describe ----------------------------------------------------------------------------------------------------------------

module _ (E : Edition) (lawful : Lawful E) (image work key : List ℕ) (ready : Ready E image work (good_key (length key)) true) where
  describe-map : describe_outcome E image work key ≡ describe_done (work_after E image work) (lookup key (map_of E image))
  unfolding describe_outcome map_of
  describe-map = guarded_ready E image work _ _ _ _ lawful ready

  pub describe-missing : lookup key (map_of E image) ≡ none
      → describe_outcome E image work key ≡ record { refusal = missing; length = 0; chained = false; work = work_after E image work }
  unfolding describe_done
  describe-missing e = describe-map ∙ rw e

  -- "the refusal number, the value's length and whether it is chained"
  pub describe-found : (v : List ℕ) → lookup key (map_of E image) ≡ some v
      → describe_outcome E image work key ≡ record { refusal = done; length = length v; chained = ltb inline_most (length v); work = work_after E image work }
  unfolding describe_done
  describe-found v e = describe-map ∙ rw e

-- Check -------------------------------------------------------------------------------------------------------------------

module _ (E : Edition) (lawful : Lawful E) (image work : List ℕ) (ready : Ready E image work true true) where
  pub check-counts : Counted (decode E image) (check_outcome E image work)
  unfolding check_outcome
  check-counts =
      let s = decode E image in
      let t = (accepted E image ready.accepted).0 in
      rw (guarded_ready E image work _ _ _ _ lawful ready)
      (unfold check_done in_role in record {
        refusal = refl;
        leaf-role = roles-walked E s t 1 (omega arith);
        inner-role = roles-walked E s t 2 (omega arith);
        overflow-role = roles-walked E s t 3 (omega arith);
        free-role = roles-walked E s t 4 (omega arith);
        header_role = roles_header E s t;
        all-roles = roles-all E s t;
        leaf-pages = roles-leaves E s t;
        overflow-pages = roles-chains E s t;
        free-pages = roles-free E s t;
        height = refl;
        entries = refl;
      })
