-- Few levels suffice: below a root are at least two trees, below every other inner node at least eight, and there are fewer leaves than pages.
use mathlib.Core.Path.{◌≡◌, refl}
use mathlib.Core.Bool.{Bool, true, false}
use mathlib.Core.List.{List, [], ◌∷◌}
use Prim.Native.Nat.{ℕ, zero, suc, ◌+◌, ◌-◌, ◌*◌, ◌^◌, ◌≤◌, ◌<◌}
use native.Mathlib.Nat.{le_refl, zero-mul, suc-mul, mul-le-mul_right, pow-suc, one-le-pow, pow-le-pow_right}
use native.Mathlib.Omega.{arith}
use lib.Dec.{leb}
use lib.ListN.{length, length-append}
use Rattle.model.specs.Lists.{gather, total}
use Rattle.model.specs.Edition.{Edition}
use Rattle.model.specs.Types.{Sep, Inner, Tree, Store, across, leaves, met}
use Rattle.model.specs.Sizes.{inner_least}
use Rattle.model.specs.Accept.{once_each}
use Rattle.model.proofs.Tests.{leb_iff, leb-not}
use Rattle.model.proofs.Each.{All, nil, cons}
use Rattle.model.proofs.Editions.{Lawful}
use Rattle.laws_size.proofs.Full.{SepFull, NodeFull, Full, FullUnder, FullStore}
use Rattle.laws_size.proofs.Weights.{by_sep, node, weight, whole}
use Rattle.laws_size.proofs.Once.{once-length}

-- ---- leaves
-- Eight times as many at each level, and twice as many at the root's.

-- so many leaves below each child make so many times the children below all
rest_least : {A B : Type 0} (f : A → List B) (P : A → Type 0) (m : ℕ) → ((a : A) → P a → m ≤ length (f a)) → {ss : List (Sep A)} → All (SepFull P) ss
    → length ss * m ≤ length (gather (λ s. f s.child) ss)
unfolding gather
rest_least f P m each nil = omega (arith, zero-mul m)
rest_least f P m each (cons {x = s} {xs = ss} p a) = rw (suc-mul, length-append) (omega (arith, each s.child p.child, rest_least f P m each a))

across_least : {A B : Type 0} (f : A → List B) (P : A → Type 0) (m least : ℕ) → ((a : A) → P a → m ≤ length (f a)) → {t : Inner A} → NodeFull P least t
    → m + least * m ≤ length (across f t)
unfolding across
across_least f P m least each {t} full =
    let here = each t.first full.head in
    let there = rest_least f P m each full.others in
    let enough = mul-le-mul_right m full.enough in
    rw length-append (omega arith)

module _ (L : ℕ) where
  pub leaves-under : (h : ℕ) (t : Tree h) → FullUnder L h t → 8 ^ h ≤ length (leaves h t)
  unfolding leaves inner_least
  leaves-under zero t f = le_refl _
  leaves-under (suc h) t f = rw pow-suc (omega (arith, across_least (leaves h) (FullUnder L h) (8 ^ h) 7 (leaves-under h) f))

  pub leaves-root : (h : ℕ) (t : Tree (suc h)) → Full L (suc h) 0 1 t → 2 * 8 ^ h ≤ length (leaves (suc h) t)
  unfolding leaves
  leaves-root h t f = omega (arith, across_least (leaves h) (FullUnder L h) (8 ^ h) 1 (leaves-under h) f)

-- ---- pages
-- A page for each leaf, and one more for each inner node.

gather-pages : {A B : Type 0} (f : A → List B) (g : A → ℕ) → ((a : A) → length (f a) ≤ g a) → (xs : List A) → length (gather f xs) ≤ total g xs
unfolding gather total
gather-pages f g e [] = le_refl _
gather-pages f g e (x ∷ xs) = rw length-append (omega (arith, e x, gather-pages f g e xs))

abbrev ones : ℕ → ℕ
ones p = 1

across-pages : {A B : Type 0} (f : A → List B) (g : A → ℕ) → ((a : A) → length (f a) ≤ g a) → (t : Inner A) → length (across f t) < node ones g t
unfolding across node
across-pages f g e t =
    rw length-append (omega (arith, e t.first, gather-pages (λ (s : Sep _). f s.child) (by_sep g) (λ s. e s.child) t.rest))

-- each leaf has its page, and an inner node one more
pub leaves-pages : (h : ℕ) (t : Tree h) → length (leaves h t) ≤ weight ones h t
unfolding leaves weight
leaves-pages zero t = omega arith
leaves-pages (suc h) t = omega (arith, across-pages (leaves h) (weight ones h) (leaves-pages h) t)

root-pages : (h : ℕ) (t : Tree (suc h)) → length (leaves (suc h) t) < weight ones (suc h) t
unfolding leaves weight
root-pages h t = across-pages (leaves h) (weight ones h) (leaves-pages h) t

-- ---- levels
-- A level too many would have as many leaves as there are pages, the header among them.

low : (L d m : ℕ) (t : Tree d) → Full L d 0 1 t → weight ones d t < 2 * 8 ^ m → d ≤ m
low L zero m t f h = omega arith
low L (suc d) m t f h = go (leb (suc d) m) refl
  where
    go : (b : Bool) → leb (suc d) m ≡ b → suc d ≤ m
    go true e = (leb_iff (suc d) m).0 e
    go false e =
        let many : 8 ^ m ≤ 8 ^ d = pow-le-pow_right {n = 8} (omega arith) (omega (arith, leb-not (suc d) m e)) in
        omega (arith, leaves-root L d t f, root-pages d t)

-- the one fact: pages enough for m levels below the root and no more
pub levels : (L m : ℕ) (s : Store) → FullStore L s → once_each s.n (met s) ≡ true → s.n ≤ 2 * 8 ^ m → s.depth ≤ m
levels L m s f once few =
    let some : 1 ≤ 8 ^ m = one-le-pow m 8 (omega arith) in
    low L s.depth m s.root f (unfold whole in omega (arith, once-length s.n s once))

pub levels-kept : (E : Edition) → Lawful E → (s : Store) → FullStore E.usable s → once_each s.n (met s) ≡ true → s.n ≤ E.most_pages
    → suc s.depth ≤ E.most_levels
levels-kept E lawful s f once few =
    let most = lawful.levels in
    let some = lawful.leveled in
    omega (arith, levels E.usable (E.most_levels - 1) s f once (omega arith))

-- "Four levels suffice"
pub four_levels : (L : ℕ) (s : Store) → FullStore L s → once_each s.n (met s) ≡ true → s.n ≤ 1024 → suc s.depth ≤ 4
four_levels L s f once few = omega (arith, levels L 3 s f once few)

pub six_levels : (L : ℕ) (s : Store) → FullStore L s → once_each s.n (met s) ≡ true → s.n ≤ 65535 → suc s.depth ≤ 6
six_levels L s f once few = omega (arith, levels L 5 s f once (omega arith))
