-- The image joins pages of one length in the order of their numbers, so cut into that length it gives them back, and with them every page of the store.
use mathlib.Core.Path.{◌≡◌, refl, sym, ◌∙◌}
use mathlib.Core.Bool.{true}
use mathlib.Core.List.{List, [], ◌∷◌, map}
use Prim.Native.Nat.{ℕ, zero, suc, ◌*◌, ◌≤◌, ◌<◌}
use native.Mathlib.Nat.{zero-add}
use native.Mathlib.Omega.{arith}
use lib.ListN.{length, take, length-append}
use lib.Seq.{take_at, drop_at}
use borrow.Author.Tests.{eq-eqb, ne_eqb}
use Rattle.octets.specs.Runs.{zeros}
use Rattle.octets.proofs.Choice.{either, choose-true, choose-false}
use Rattle.octets.proofs.Over.{length-zeros}
use Rattle.model.specs.Lists.{gather, from, times}
use Rattle.model.specs.Edition.{Edition}
use Rattle.model.specs.Types.{Store}
use Rattle.model.specs.Image.{Page, page_at, pages, encode}
use Rattle.model.specs.Decode.{cut}
use Rattle.model.specs.Accept.{valid}
use Rattle.model.proofs.Editions.{Lawful}
use Rattle.model.proofs.Each.{All, nil, cons, all_of, all_both, all_of_map}
use Rattle.model.proofs.Lists.{get_or-map_from}
use Rattle.model.proofs.Sums.{found-own}
use Rattle.laws_image.proofs.Standing.{Standing}
use Rattle.laws_image.proofs.Valid.{sound}
use Rattle.laws_image.proofs.PagesMet.{page-most, page-below}
use Rattle.laws_image.proofs.Numbered.{numbers, numbers-pages}
use Rattle.laws_image.proofs.Wide.{Wide, wide-pages}

-- ---- parts of one length joined

module _ (W : ℕ) (f : ℕ → List ℕ) (wide : (p : ℕ) → length (f p) ≡ W) where
  pub length-joined : (i k : ℕ) → length (gather f (from i k)) ≡ k * W
  unfolding gather from
  length-joined i zero = omega arith
  length-joined i (suc k) = omega (arith, length-append (f i) (gather f (from (suc i) k)), wide i, length-joined (suc i) k)

  pub cut-joined : (i k : ℕ) → cut W k (gather f (from i k)) ≡ map f (from i k)
  unfolding cut gather from
  cut-joined i zero = refl
  cut-joined i (suc k) =
      let rest = gather f (from (suc i) k) in
      rw (take_at (f i) rest W (wide i), drop_at (f i) rest W (wide i), cut-joined (suc i) k)

-- ---- pages looked up by their numbers
-- Where no two pages have one number, each is found by its own.

pub length-page_at : {L : ℕ} (p : ℕ) {qs : List Page} → Wide L qs → length (page_at p qs (zeros L)) ≡ L
unfolding page_at
length-page_at {L} p nil = length-zeros L
length-page_at {L} p (cons e es) = either (λ (l : List ℕ). length l ≡ L) _ _ _ e (length-page_at p es)

page_at-here : (q : Page) (qs : List Page) (d : List ℕ) → page_at q.number (q ∷ qs) d ≡ q.bytes
unfolding page_at
page_at-here q qs d = choose-true _ _ _ (eq-eqb q.number q.number refl)

page_at-there : (p : ℕ) (q : Page) (qs : List Page) (d : List ℕ) → (q.number ≡ p → ⊥) → page_at p (q ∷ qs) d ≡ page_at p qs d
unfolding page_at
page_at-there p q qs d n = choose-false _ _ _ (ne_eqb p q.number (λ e. n (sym e)))

pub page_at-own : (qs : List Page) (d : List ℕ) → ((p : ℕ) → times p (numbers qs) ≤ 1) → All (λ q. page_at q.number qs d ≡ q.bytes) qs
page_at-own qs d u =
    found-own (λ q. q.number) (λ q. q.bytes) (λ p qs. page_at p qs d) (λ q qs. page_at-here q qs d) (λ p q qs n. page_at-there p q qs d n) qs u

-- ---- the image of a store

-- page p of the image: its usable bytes, and as it stands there
abbrev pub opened : Edition → Store → ℕ → List ℕ
opened E s p = page_at p (pages E s) (zeros E.usable)

abbrev pub sealed : Edition → Store → ℕ → List ℕ
sealed E s p = E.seal (opened E s p)

pub encode-joined : (E : Edition) (s : Store) → encode E s ≡ gather (sealed E s) (from 0 s.n)
unfolding encode
encode-joined E s = refl

module _ (E : Edition) (lawful : Lawful E) (s : Store) (t : valid E s ≡ true) where
  length-opened : (p : ℕ) → length (opened E s p) ≡ E.usable
  length-opened p = length-page_at p (wide-pages E lawful s (sound E s t))

  length-sealed : (p : ℕ) → length (sealed E s p) ≡ E.width
  length-sealed p = (lawful.sealed (opened E s p) (length-opened p)).0

  below : All (λ q. q.number < s.n) (pages E s)
  below = all_of_map (λ (p : ℕ). p < s.n) (λ q. q.number) (pages E s) (rw (numbers-pages E s) (page-below E s t))

  pub standing : Standing (map (opened E s) (from 0 s.n)) (pages E s)
  standing =
      all_of (λ q e. get_or-map_from (opened E s) [] 0 s.n q.number e.0 ∙ rw zero-add e.1)
      (all_both below (page_at-own (pages E s) (zeros E.usable) (rw (numbers-pages E s) (page-most E s t))))

  pub length-encode : length (encode E s) ≡ s.n * E.width
  length-encode = rw (encode-joined E s) (length-joined E.width (sealed E s) length-sealed 0 s.n)

  pub cut-encode : cut E.width s.n (encode E s) ≡ map (sealed E s) (from 0 s.n)
  cut-encode = rw (encode-joined E s) (cut-joined E.width (sealed E s) length-sealed 0 s.n)

  take-sealed : (ps : List ℕ) → map (take E.usable) (map (sealed E s) ps) ≡ map (opened E s) ps
  take-sealed [] = refl
  take-sealed (p ∷ ps) = rw ((lawful.sealed (opened E s p) (length-opened p)).1, take-sealed ps)

  pub cut_opened : map (take E.usable) (cut E.width s.n (encode E s)) ≡ map (opened E s) (from 0 s.n)
  cut_opened = rw cut-encode (take-sealed (from 0 s.n))
