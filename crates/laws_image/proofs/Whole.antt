-- A valid store is read back from its image, since its pages stand there: so an image is accepted exactly if it is that of a valid store.
use mathlib.Core.Path.{◌≡◌, sym, ap, ◌∙◌}
use mathlib.Core.Bool.{true, and-eq-true_iff}
use mathlib.Core.List.{List, [], map}
use mathlib.Core.Logic.{◌↔◌}
use Prim.Native.Nat.{ℕ, suc, ◌*◌, ◌/◌, min, pred}
use native.Mathlib.Nat.{mul-div_cancel}
use native.Mathlib.Omega.{arith}
use lib.ListN.{length, get_or, take}
use Rattle.model.specs.Lists.{from}
use Rattle.model.specs.Edition.{Edition}
use Rattle.model.specs.Types.{Store}
use Rattle.model.specs.Layouts.{HeadPage, to_head, of_head}
use Rattle.model.specs.Image.{head_page, tree_pages, free_pages, pages, encode}
use Rattle.model.specs.Decode.{cut, store_of, decode_pages, decode}
use Rattle.model.specs.Accept.{valid, accepts}
use Rattle.model.proofs.Editions.{Lawful}
use Rattle.model.proofs.Each.{cons, all_cons, all_append, all-parts}
use Rattle.model.proofs.Lists.{same_refl, same_eq}
use Rattle.laws_image.proofs.Layouts.{of_head-to_head}
use Rattle.laws_image.proofs.Standing.{Standing, free_from-standing}
use Rattle.laws_image.proofs.Tree.{tree_at-standing}
use Rattle.laws_image.proofs.Valid.{clauses, sound}
use Rattle.laws_image.proofs.PagesMet.{free_proper, free-few}
use Rattle.laws_image.proofs.Cut.{opened, standing, length-encode, cut_opened}

-- ---- a store read back from its pages

pub pages_iff : (E : Edition) (s : Store) (ps : List (List ℕ)) → Standing ps (pages E s) ↔ ((get_or ps 0 [] ≡ to_head E.usable (head_page E.number s))
    × (Standing ps (tree_pages E s.depth 0 0 s.root) × Standing ps (free_pages E.usable s.free)))
unfolding pages
pages_iff E s ps = (
  λ g. let q = all_cons g in (q.0, all-parts (tree_pages E s.depth 0 0 s.root) q.1),
  λ k. cons k.0 (all_append k.1.0 k.1.1),
)

module _ (E : Edition) (lawful : Lawful E) (s : Store) (t : valid E s ≡ true) (ps : List (List ℕ)) where
  pub decode_pages-standing : Standing ps (pages E s) → decode_pages E s.n ps ≡ s
  unfolding decode_pages store_of head_page
  decode_pages-standing g =
      let q = (pages_iff E s ps).0 g in
      let H = head_page E.number s in
      let e : of_head (get_or ps 0 []) ≡ H = ap of_head q.0 ∙ of_head-to_head E.usable H in
      let d : min (pred E.most_levels) (pred (suc s.depth)) ≡ s.depth = omega (arith, (clauses E s t).levels) in
      let r = tree_at-standing E (omega arith) ps s.depth 0 0 s.root (sound E s t) q.1.0 in
      let f = free_from-standing E.usable ps s.n s.free (free-few E s t) (free_proper E s t) q.1.1 in
      ap (λ (h : HeadPage). store_of E.usable ps s.n (min (pred E.most_levels) (pred h.height)) h) e
      ∙ ap (λ (m : ℕ). store_of E.usable ps s.n m H) d
      ∙ (λ i. record { n = s.n; depth = s.depth; root = r i; free = f i })

-- ---- the image and the store

pub accepted : (E : Edition) (img : List ℕ) → accepts E img ≡ true → (valid E (decode E img) ≡ true) × (encode E (decode E img) ≡ img)
unfolding accepts
accepted E img t = let k = simp and-eq-true_iff at t in (k.0, same_eq (encode E (decode E img)) img k.1)

module _ (E : Edition) (lawful : Lawful E) where
  decode-cut : (n : ℕ) (img : List ℕ) → length img ≡ n * E.width → decode E img ≡ decode_pages E n (map (take E.usable) (cut E.width n img))
  unfolding decode
  decode-cut n img e =
      let m : length img / E.width ≡ n = rw e (mul-div_cancel n lawful.wide) in
      rw m

  pub decode-encode : (s : Store) → valid E s ≡ true → decode E (encode E s) ≡ s
  decode-encode s t =
      decode-cut s.n (encode E s) (length-encode E lawful s t) ∙ ap (decode_pages E s.n) (cut_opened E lawful s t)
      ∙ decode_pages-standing E lawful s t (map (opened E s) (from 0 s.n)) (standing E lawful s t)

  -- two valid stores with one image are one
  pub encode_one : (s r : Store) → valid E s ≡ true → valid E r ≡ true → encode E s ≡ encode E r → s ≡ r
  encode_one s r vs vr e = sym (decode-encode s vs) ∙ ap (decode E) e ∙ decode-encode r vr

  pub accepts-encode : (s : Store) → valid E s ≡ true → accepts E (encode E s) ≡ true
  unfolding accepts
  accepts-encode s t = rw (decode-encode s t, t) (same_refl (encode E s))

  -- the store of an image is the decoded one
  pub accepted-one : (img : List ℕ) (s : Store) → valid E s ≡ true → encode E s ≡ img → (accepts E img ≡ true) × (decode E img ≡ s)
  accepted-one img s t e = (rw (← e) (accepts-encode s t), rw (← e) (decode-encode s t))

  -- what check accepts: the images of the valid stores
  pub accepts_iff : (img : List ℕ) → (accepts E img ≡ true) ↔ ((s : Store) × ((valid E s ≡ true) × (encode E s ≡ img)))
  accepts_iff img = (λ t. (decode E img, accepted E img t), λ r. (accepted-one img r.0 r.1.0 r.1.1).0)
