-- The work area after a call: the roles stand at its front, one for each page, so what lies behind them is as it was.
use mathlib.Core.Path.{◌≡◌, ◌∙◌}
use mathlib.Core.Bool.{true}
use mathlib.Core.List.{List}
use Prim.Native.Nat.{ℕ, ◌+◌, ◌/◌, ◌≤◌, ◌<◌}
use native.Mathlib.Omega.{arith}
use lib.ListN.{length, get_or, drop, length-append, length-drop, get_or-append}
use lib.Seq.{get_or-append-add, get_or-drop}
use Rattle.octets.specs.Runs.{zeros}
use Rattle.octets.proofs.Over.{length-zeros, get_or-zeros}
use Rattle.model.specs.Edition.{Edition}
use Rattle.model.specs.Decode.{decode}
use Rattle.model.specs.Accept.{accepts}
use Rattle.model.specs.Refusals.{roles, entered}
use Rattle.model.proofs.Each.{All, all_of, all_both, all_of_map}
use Rattle.laws_image.specs.Marks.{marks}
use Rattle.laws_image.proofs.Whole.{accepted}
use Rattle.laws_image.proofs.ByPages.{n-decode}
use Rattle.laws_image.proofs.PagesMet.{page-below}
use Rattle.laws_image.proofs.Roles.{places-marks, length-roles, roles-own}
use Rattle.laws.specs.Ready.{work_after}

-- Numbers entered at the front ------------------------------------------------------------------------------------------------

module _ (numbers work : List ℕ) where
  entered-front : (i : ℕ) → i < length numbers → get_or (entered numbers work) i 0 ≡ get_or numbers i 0
  unfolding entered
  entered-front i h = get_or-append numbers (drop (length numbers) work) 0 i h

  entered_beyond : (i : ℕ) → get_or (entered numbers work) (length numbers + i) 0 ≡ get_or work (length numbers + i) 0
  unfolding entered
  entered_beyond i = get_or-append-add numbers (drop (length numbers) work) i 0 ∙ get_or-drop (length numbers) work i 0

  length-entered : length numbers ≤ length work → length (entered numbers work) ≡ length work
  unfolding entered
  length-entered h = omega (arith, length-append numbers (drop (length numbers) work), length-drop (length numbers) work)

-- An accepted image -----------------------------------------------------------------------------------------------------------

module _ (E : Edition) (image work : List ℕ) where
  pages : length (roles (decode E image)) ≡ length image / E.width
  pages = length-roles (decode E image) ∙ n-decode E image

  -- "entry i is page i's role (1 leaf, 2 inner, 3 overflow, 4 free, 5 header)": that of its mark
  pub work-roles : accepts E image ≡ true → All (λ m. get_or (work_after E image work) m.page 0 ≡ m.role) (marks (decode E image))
  unfolding work_after
  work-roles t =
      let s = decode E image in
      let v = (accepted E image t).0 in
      let below = all_of_map (λ (p : ℕ). p < s.n) (λ m. m.page) (marks s) (rw (places-marks s) (page-below E s v)) in
      all_of (λ m k. entered-front (roles s) work m.page (rw (length-roles s) k.0) ∙ k.1) (all_both below (roles-own E s v))

  -- "Entries from n on are never touched"
  pub work_beyond : (i : ℕ) → get_or (work_after E image work) (length image / E.width + i) 0 ≡ get_or work (length image / E.width + i) 0
  unfolding work_after
  work_beyond i = rw (← pages) (entered_beyond (roles (decode E image)) work i)

  pub length-work : length image / E.width ≤ length work → length (work_after E image work) ≡ length work
  unfolding work_after
  length-work h = length-entered (roles (decode E image)) work (rw pages h)

-- A damaged one ---------------------------------------------------------------------------------------------------------------

-- "or 0 in all n entries if the image is damaged"
pub work-damaged : (n : ℕ) (work : List ℕ) (i : ℕ) → i < n → get_or (entered (zeros n) work) i 0 ≡ 0
work-damaged n work i h = entered-front (zeros n) work i (rw length-zeros h) ∙ get_or-zeros n i

pub work-damaged_beyond : (n : ℕ) (work : List ℕ) (i : ℕ) → get_or (entered (zeros n) work) (n + i) 0 ≡ get_or work (n + i) 0
work-damaged_beyond n work i = rw length-zeros at (entered_beyond (zeros n) work i)
