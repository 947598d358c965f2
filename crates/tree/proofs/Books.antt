-- An image is a book of pages: page p is the part at p times 512, and a page that is written leaves the others as they were.
use mathlib.Core.Path.{◌≡◌, refl, sym, ap, ◌∙◌}
use mathlib.Core.List.{List, [], append_assoc, map}
use mathlib.Core.Logic.{◌⊎◌, inl, inr, ⊎_elim}
use Prim.Native.Nat.{ℕ, zero, suc, ◌+◌, ◌-◌, ◌*◌, ◌/◌, ◌≤◌, ◌<◌}
use native.Mathlib.Nat.{mul-div_cancel}
use native.Mathlib.Decide.{dec_le}
use native.Mathlib.Omega.{arith}
use borrow.Rule.Slice.PartMut.{put_mid}
use lib.ListN.{length, get_or, take, drop}
use lib.Seq.{drop-drop, take-take}
use Rattle.std.specs.Simd.{first_chunks}
use Rattle.octets.specs.Runs.{part}
use Rattle.octets.proofs.Over.{length_over, over-comm, over-over, over_eq}
use Rattle.octets.proofs.Part.{part_length, part-stands, part-over-out}
use Rattle.model.specs.Decode.{cut}
use Rattle.model.specs.Edition.{edition1}
use Rattle.model.proofs.Editions.{lawful1}
use Rattle.laws_image.proofs.ByPages.{get_or-open_pages}
use Rattle.tree.specs.Book.{page_at, set_page, pages_of}

pub pages_of-page : (image : List ℕ) (n p : ℕ) → length image ≡ n * 512 → p < n → get_or (pages_of image n) p [] ≡ page_at image p
unfolding pages_of page_at
pages_of-page image n p e h =
    let q : length image / 512 ≡ n = rw e (mul-div_cancel n (omega arith)) in
    rw q at (get_or-open_pages edition1 lawful1 image p (rw q h))

-- the library's chunks are the pages
chunks-cut : (image : List ℕ) (n : ℕ) → map (take 512) (cut 512 n image) ≡ first_chunks 512 n image
unfolding cut
chunks-cut image zero = refl
chunks-cut image (suc n) = rw (take-take 512 512 image (omega arith), chunks-cut (drop 512 image) n)

pub pages_of-chunks : (image : List ℕ) (n : ℕ) → length image ≡ n * 512 → first_chunks 512 (length image / 512) image ≡ pages_of image n
unfolding pages_of
pages_of-chunks image n e = let q : length image / 512 ≡ n = rw e (mul-div_cancel n (omega arith)) in rw q (sym (chunks-cut image n))

pub length-page_at : (image : List ℕ) (p : ℕ) → p * 512 + 512 ≤ length image → length (page_at image p) ≡ 512
unfolding page_at
length-page_at image p h = part_length image (p * 512) 512 h

pub page-taken : (image : List ℕ) (p : ℕ) → part image (p * 512) (p * 512 + 512 - p * 512) ≡ page_at image p
unfolding page_at
page-taken image p = let e : p * 512 + 512 - p * 512 ≡ 512 = omega arith in rw e

-- A page written ------------------------------------------------------------------------------------------------------------

apart : (p q : ℕ) → (p ≡ q → ⊥) → (p * 512 + 512 ≤ q * 512) ⊎ (q * 512 + 512 ≤ p * 512)
apart p q n = elim (dec_le p q) [ yes h ↦ inl (omega arith) | no h ↦ inr (omega arith) ]

pub length-set_page : (image : List ℕ) (p : ℕ) (page : List ℕ) → length (set_page image p page) ≡ length image
unfolding set_page
length-set_page image p page = length_over _ _ _

module _ (image : List ℕ) (p : ℕ) (page : List ℕ) (n : length page ≡ 512) where
  pub page_at-same : p * 512 + 512 ≤ length image → page_at (set_page image p page) p ≡ page
  unfolding set_page page_at
  page_at-same h = part-stands image (p * 512) page 512 n h

  pub page_at-other : (q : ℕ) → (p ≡ q → ⊥) → q * 512 + 512 ≤ length image → page_at (set_page image p page) q ≡ page_at image q
  unfolding set_page page_at
  page_at-other q d h = part-over-out image (p * 512) page (q * 512) 512 h (⊎_elim (λ w. inr (omega arith)) (λ w. inl w) (apart p q d))

  pub set_page-same : (other : List ℕ) → length other ≡ 512 → set_page (set_page image p page) p other ≡ set_page image p other
  unfolding set_page
  set_page-same other m = over-over image (p * 512) page other (n ∙ sym m)

  pub set_page-comm : (q : ℕ) (other : List ℕ) → length other ≡ 512 → (p ≡ q → ⊥)
      → set_page (set_page image p page) q other ≡ set_page (set_page image q other) p page
  unfolding set_page
  set_page-comm q other m d = over-comm image (p * 512) page (q * 512) other (⊎_elim (λ w. inl (omega arith)) (λ w. inr (omega arith)) (apart p q d))

-- A page lent -----------------------------------------------------------------------------------------------------------------
-- It is lent as a part of the image, k bytes long, and comes back in its place.

module _ (image : List ℕ) (p k : ℕ) (e : k ≡ 512) where
  pub lent_page : part image (p * 512) k ≡ page_at image p
  unfolding page_at
  lent_page = rw e

  pub lent_length : p * 512 + 512 ≤ length image → length (part image (p * 512) k) ≡ 512
  lent_length h = ap length lent_page ∙ length-page_at image p h

  pub back-page : (y x : List ℕ) → p * 512 + 512 ≤ length image → length y ≡ length (part image (p * 512) k) → y ≡ x → put_mid (p * 512) k image y ≡ set_page image p x
  unfolding set_page
  back-page y x h m q =
      let n : length y ≡ 512 = m ∙ lent_length h in
      let d : p * 512 + length y ≡ p * 512 + k = omega arith in
      rw (← q, drop-drop) (sym (over_eq image (p * 512) y (omega arith) ∙ (rw d (append_assoc (take (p * 512) image) y (drop (p * 512 + k) image)))))
