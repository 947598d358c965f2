-- An image is its pages joined: so it is accepted exactly if it is of whole pages, its store is valid, and the store's pages stand in it, sealed.
use mathlib.Core.Path.{◌≡◌, refl, sym, ap, ◌∙◌}
use mathlib.Core.Bool.{true}
use mathlib.Core.List.{List, [], ◌∷◌, ◌++◌, map}
use mathlib.Core.Logic.{◌↔◌}
use Prim.Native.Nat.{ℕ, zero, suc, ◌+◌, ◌*◌, ◌/◌, ◌≤◌, ◌<◌}
use native.Mathlib.Nat.{zero-add}
use native.Mathlib.Omega.{arith}
use lib.ListN.{length, get_or, take, drop, length-drop, take-append-drop, length-take, get_or-map}
use lib.Seq.{drop-drop, take-take, take-nil}
use borrow.Author.Tests.{eqb-true, eqb-false}
use Rattle.octets.specs.Runs.{part, zeros}
use Rattle.octets.proofs.Choice.{either_by}
use Rattle.octets.proofs.Over.{length-zeros}
use Rattle.model.specs.Lists.{gather, from, times}
use Rattle.model.specs.Edition.{Edition}
use Rattle.model.specs.Types.{Store}
use Rattle.model.specs.Image.{Page, page_at, pages, encode}
use Rattle.model.specs.Decode.{cut, store_of, decode_pages, decode}
use Rattle.model.specs.Accept.{valid, accepts}
use Rattle.model.specs.Refusals.{good_image}
use Rattle.model.proofs.Editions.{Lawful}
use Rattle.model.proofs.Tests.{eqb_iff, between_iff, and-true}
use Rattle.model.proofs.Each.{all_from, nil, cons}
use Rattle.model.proofs.Lists.{same_refl, get_or-map_from, gather_ext, gather_suc}
use Rattle.model.proofs.Sums.{is-other, times-nil, times-cons}
use Rattle.laws_image.proofs.Standing.{Standing}
use Rattle.laws_image.proofs.Valid.{clauses}
use Rattle.laws_image.proofs.Numbered.{numbers, numbers-pages}
use Rattle.laws_image.proofs.PagesMet.{page-once}
use Rattle.laws_image.proofs.Cut.{opened, sealed, standing, encode-joined, length-encode, cut-encode, cut_opened}
use Rattle.laws_image.proofs.Whole.{accepted}

-- ---- an image cut into its pages
-- Page p is the part of the image at p times the width, and the pages joined are the image.

abbrev pub size : Edition → List ℕ → ℕ
size E img = length img / E.width

abbrev pub cut_pages : Edition → List ℕ → List (List ℕ)
cut_pages E img = cut E.width (size E img) img

abbrev pub open_pages : Edition → List ℕ → List (List ℕ)
open_pages E img = map (take E.usable) (cut_pages E img)

pub get_or-cut : (W n : ℕ) (img : List ℕ) (p : ℕ) → p < n → get_or (cut W n img) p [] ≡ part img (p * W) W
unfolding cut part
get_or-cut W zero img p h = absurd (omega arith)
get_or-cut W (suc n) img zero h = let e : 0 * W ≡ 0 = omega arith in rw e
get_or-cut W (suc n) img (suc p) h =
    let e : W + p * W ≡ suc p * W = omega arith in
    get_or-cut W n (drop W img) p (omega arith) ∙ rw (drop-drop, e)

-- the usable bytes are the first of a page
pub usable-width : (E : Edition) → Lawful E → E.usable ≤ E.width
usable-width E lawful =
    let z : List ℕ = zeros E.usable in
    let l : length z ≡ E.usable = length-zeros E.usable in
    let k = lawful.sealed z l in
    omega (arith, k.0, ap length k.1, length-take E.usable (E.seal z))

pub get_or-open_pages : (E : Edition) → Lawful E → (img : List ℕ) (p : ℕ) → p < size E img
    → get_or (open_pages E img) p [] ≡ part img (p * E.width) E.usable
unfolding part
get_or-open_pages E lawful img p h =
    ap (get_or (open_pages E img) p) (sym (take-nil E.usable)) ∙ get_or-map (take E.usable) (cut_pages E img) p []
    ∙ rw (get_or-cut E.width (size E img) img p h) (take-take E.usable E.width (drop (p * E.width) img) (usable-width E lawful))

pub joined-cut : (W n : ℕ) (img : List ℕ) → length img ≡ n * W → gather (λ p. get_or (cut W n img) p []) (from 0 n) ≡ img
unfolding cut gather from
joined-cut W zero [] e = refl
joined-cut W zero (x ∷ img) e = absurd (omega arith)
joined-cut W (suc n) img e =
    ap (λ (l : List ℕ). take W img ++ l)
    (gather_suc (λ p. get_or (take W img ∷ cut W n (drop W img)) p []) 0 n ∙ joined-cut W n (drop W img) (simp length-drop (omega arith)))
    ∙ take-append-drop W img

-- ---- what stands is what is looked up

pub page_at-standing : (ps : List (List ℕ)) (p : ℕ) {qs : List Page} (d : List ℕ) → Standing ps qs → 1 ≤ times p (numbers qs)
    → page_at p qs d ≡ get_or ps p []
unfolding page_at
page_at-standing ps p d nil e = absurd (omega (arith, times-nil p))
page_at-standing ps p d (cons {x = q} {xs = qs} i g) e =
    either_by (λ (l : List ℕ). l ≡ get_or ps p []) _ _ _ (λ t. let k : p ≡ q.number = eqb-true _ _ t in rw k (sym i))
    (λ t. page_at-standing ps p d g (omega (arith, times-cons p q.number (numbers qs), is-other p q.number (eqb-false _ _ t))))

-- ---- accepted by pages

-- what the walk of check finds
pub record ByPages (E : Edition) (img : List ℕ) : Type 0 where
  pub whole : length img ≡ size E img * E.width
  pub right : valid E (decode E img) ≡ true
  pub stand : Standing (open_pages E img) (pages E (decode E img))
  pub sealed : (p : ℕ) → p < size E img → E.seal (get_or (open_pages E img) p []) ≡ get_or (cut_pages E img) p []

pub n-decode : (E : Edition) (img : List ℕ) → (decode E img).n ≡ size E img
unfolding decode decode_pages store_of
n-decode E img = refl

module _ (E : Edition) (img : List ℕ) where
  encode-pages : ByPages E img → encode E (decode E img) ≡ img
  encode-pages b =
      let s = decode E img in
      let n = n-decode E img in
      let f : ℕ → List ℕ = sealed E s in
      let g : ℕ → List ℕ = λ p. get_or (cut_pages E img) p [] in
      let once : (p : ℕ) → p < size E img → 1 ≤ times p (numbers (pages E s)) = λ p l.
      rw (numbers-pages E s, page-once E s b.right p (rw n l)) (omega arith) in
      let h : (p : ℕ) → p < size E img → f p ≡ g p = λ p l.
      ap E.seal (page_at-standing (open_pages E img) p (zeros E.usable) b.stand (once p l)) ∙ b.sealed p l in
      encode-joined E s ∙ ap (λ (m : ℕ). gather f (from 0 m)) n
      ∙ gather_ext f g (all_from 0 (size E img) (λ p i l. h p (rw zero-add at l))) ∙ joined-cut E.width (size E img) img b.whole

  pub accepts-pages : ByPages E img → accepts E img ≡ true
  unfolding accepts
  accepts-pages b = rw (b.right, encode-pages b) (same_refl img)

-- the image of a valid store has each of them
module _ (E : Edition) (lawful : Lawful E) (s : Store) (t : valid E s ≡ true) (n : ℕ) (img : List ℕ) (en : s.n ≡ n) (ei : encode E s ≡ img) where
  whole : length img ≡ n * E.width
  whole = rw (← en, ← ei) (length-encode E lawful s t)

  stands : Standing (map (take E.usable) (cut E.width n img)) (pages E s)
  stands = rw (← en, ← ei, cut_opened E lawful s t) (standing E lawful s t)

  seals : (p : ℕ) → p < n → E.seal (get_or (map (take E.usable) (cut E.width n img)) p []) ≡ get_or (cut E.width n img) p []
  seals p l =
      let h : p < s.n = omega arith in
      rw (← en, ← ei, cut_opened E lawful s t, cut-encode E lawful s t)
      (rw (get_or-map_from (opened E s) [] 0 s.n p h) (sym (get_or-map_from (sealed E s) [] 0 s.n p h)))

module _ (E : Edition) (lawful : Lawful E) (img : List ℕ) where
  pub pages-accepted : accepts E img ≡ true → ByPages E img
  pages-accepted t =
      let s = decode E img in
      let a = accepted E img t in
      let n = n-decode E img in
      record {
        whole = whole E lawful s a.0 (size E img) img n a.1;
        right = a.0;
        stand = stands E lawful s a.0 (size E img) img n a.1;
        sealed = seals E lawful s a.0 (size E img) img n a.1;
      }

  -- so the lengths alone do not refuse it
  pub good_image-accepted : accepts E img ≡ true → good_image E (length img) ≡ true
  unfolding good_image
  good_image-accepted t =
      let b = pages-accepted t in
      let k = clauses E (decode E img) b.right in
      and-true _ _ ((eqb_iff _ _).1 (sym b.whole)) ((between_iff 2 E.most_pages (size E img)).1 (rw (n-decode E img) at k.pages))

  pub accepts-pages_iff : (accepts E img ≡ true) ↔ ByPages E img
  accepts-pages_iff = (pages-accepted, accepts-pages E img)
