-- A line stays sorted where an item is left out, a separator put before its key, an entry put between, or a line joined on: what is under an item is under all that follow it.
use mathlib.Core.Path.{◌≡◌, refl, ap, ◌∙◌}
use mathlib.Core.List.{List, [], ◌∷◌, ◌++◌, append_assoc, append-nil, map}
use Prim.Native.Nat.{ℕ}
use Rattle.octets.proofs.Order.{≺_trans, ≺_irrefl, ≺_of_not}
use Rattle.model.specs.Lists.{gather}
use Rattle.model.specs.Types.{Entry}
use Rattle.model.proofs.Each.{All, nil, cons, all_append, all_of, all-parts}
use Rattle.model.proofs.Lists.{gather_append}
use Rattle.laws_order.specs.Line.{Item, real, wall, of, Under, Above, Sorted, none-sorted, more-sorted, AllUnder, Rising, only, reals}

-- Order -----------------------------------------------------------------------------------------------------------------

pub under_trans : (x y : Item) (c : List ℕ) → Under x (of y) → Under y c → Under x c
under_trans (real a) (real b) c p q = ≺_trans p q
under_trans (real a) (wall b) c p q = ≺_of_not p q
under_trans (wall a) (real b) c p q = λ h. p (≺_trans q h)
under_trans (wall a) (wall b) c p q = λ h. q (≺_of_not h p)

pub above_trans : (x y : Item) {zs : List Item} → Under x (of y) → Above y zs → Above x zs
above_trans x y p a = all_of (λ z q. under_trans x y (of z) p q) a

-- Parts of a sorted line ------------------------------------------------------------------------------------------------

pub above-tail : {x : Item} {xs : List Item} → Sorted (x ∷ xs) → Above x xs
above-tail (more-sorted a s) = a

pub sorted-left : (xs ys : List Item) → Sorted (xs ++ ys) → Sorted xs
sorted-left [] ys s = none-sorted
sorted-left (x ∷ xs) ys (more-sorted a s) = more-sorted (all-parts xs a).0 (sorted-left xs ys s)

pub sorted-right : (xs ys : List Item) → Sorted (xs ++ ys) → Sorted ys
sorted-right [] ys s = s
sorted-right (x ∷ xs) ys (more-sorted a s) = sorted-right xs ys s

pub sorted-under : (xs : List Item) (y : Item) (ys : List Item) → Sorted (xs ++ (y ∷ ys)) → AllUnder (of y) xs
sorted-under [] y ys s = nil
sorted-under (x ∷ xs) y ys (more-sorted a s) = go (all-parts xs a).1 (sorted-under xs y ys s)
  where
    go : Above x (y ∷ ys) → AllUnder (of y) xs → AllUnder (of y) (x ∷ xs)
    go (cons u b) r = cons u r

-- Changes of a sorted line ----------------------------------------------------------------------------------------------

-- its end changed to one that follows whatever the old one does
sorted_end : (xs ys zs : List Item) → ((x : Item) → Above x ys → Above x zs) → (Sorted ys → Sorted zs) → Sorted (xs ++ ys) → Sorted (xs ++ zs)
sorted_end [] ys zs f g s = g s
sorted_end (x ∷ xs) ys zs f g (more-sorted a s) =
    let p = all-parts xs a in
    more-sorted (all_append p.0 (f x p.1)) (sorted_end xs ys zs f g s)

-- an item left out
pub sorted-drop : (y : Item) (xs ys : List Item) → Sorted (xs ++ (y ∷ ys)) → Sorted (xs ++ ys)
sorted-drop y xs ys s = sorted_end xs (y ∷ ys) ys (λ x a. (all-parts (y ∷ []) a).1) (λ t. sorted-right (y ∷ []) ys t) s

-- a separator put before its key
wall-first : (e : Entry) (ys : List Item) → Sorted (real e ∷ ys) → Sorted (wall e.key ∷ real e ∷ ys)
wall-first e ys (more-sorted a s) =
    more-sorted (cons ≺_irrefl (above_trans (wall e.key) (real e) ≺_irrefl a)) (more-sorted a s)

pub sorted-wall : (e : Entry) (xs ys : List Item) → Sorted (xs ++ (real e ∷ ys)) → Sorted (xs ++ (wall e.key ∷ real e ∷ ys))
sorted-wall e xs ys s = sorted_end xs (real e ∷ ys) _ twice (wall-first e ys) s
  where
    twice : (x : Item) → Above x (real e ∷ ys) → Above x (wall e.key ∷ real e ∷ ys)
    twice x (cons u a) = cons u (cons u a)

-- an entry put where all before is under its key and all after above it
pub sorted_insert : (e : Entry) (xs ys : List Item) → AllUnder e.key xs → Above (real e) ys → Sorted (xs ++ ys) → Sorted (xs ++ (real e ∷ ys))
sorted_insert e [] ys b a s = more-sorted a s
sorted_insert e (x ∷ xs) ys (cons u us) b (more-sorted a s) =
    let p = all-parts xs a in
    more-sorted (all_append p.0 (cons u p.1)) (sorted_insert e xs ys us b s)

-- two lines joined, where the last of the one is under the first of the other
pub sorted-join : (xs : List Item) (x y : Item) (ys : List Item) → Sorted (xs ++ (x ∷ [])) → Under x (of y) → Sorted (y ∷ ys) → Sorted (xs ++ (x ∷ y ∷ ys))
sorted-join xs x y ys s u t = sorted_end xs (x ∷ []) _ longer (λ q. more-sorted (onwards x u) t) s
  where
    onwards : (z : Item) → Under z (of y) → Above z (y ∷ ys)
    onwards z v = cons v (above_trans z y v (above-tail t))

    longer : (z : Item) → Above z (x ∷ []) → Above z (x ∷ y ∷ ys)
    longer z (cons v a) = cons v (onwards z (under_trans z x (of y) v u))

-- The entries of a line -------------------------------------------------------------------------------------------------

pub reals-append : (xs ys : List Item) → reals (xs ++ ys) ≡ reals xs ++ reals ys
unfolding reals
reals-append xs ys = gather_append only xs ys

pub reals-map : (es : List Entry) → reals (map real es) ≡ es
unfolding reals gather
reals-map [] = refl
reals-map (e ∷ es) = ap (λ (l : List Entry). e ∷ l) (reals-map es)

-- what holds of all items holds of the entries
pub all-reals : {P : Item → Type 0} (xs : List Item) → All P xs → All P (map real (reals xs))
unfolding reals gather
all-reals [] nil = nil
all-reals (real e ∷ xs) (cons p ps) = cons p (all-reals xs ps)
all-reals (wall k ∷ xs) (cons p ps) = all-reals xs ps

pub reals-rising : (xs : List Item) → Sorted xs → Rising (reals xs)
unfolding reals gather
reals-rising [] none-sorted = none-sorted
reals-rising (real e ∷ xs) (more-sorted a s) = more-sorted (unfold reals gather in all-reals xs a) (reals-rising xs s)
reals-rising (wall k ∷ xs) (more-sorted a s) = reals-rising xs s

-- One stretch for another -----------------------------------------------------------------------------------------------
-- Wherever it stands in a line it keeps the line sorted, and it has the same entries.

pub record Finer (xs ys : List Item) : Type 0 where
  pub keeps : (x y : List Item) → Sorted (x ++ (xs ++ y)) → Sorted (x ++ (ys ++ y))
  pub alike : reals ys ≡ reals xs

pub finer_same : {xs ys : List Item} → ys ≡ xs → Finer xs ys
finer_same e = record { keeps = λ x y s. rw e s; alike = ap reals e }

pub finer_then : {xs ys zs : List Item} → Finer xs ys → Finer ys zs → Finer xs zs
finer_then p q = record { keeps = λ x y s. q.keeps x y (p.keeps x y s); alike = q.alike ∙ p.alike }

pub finer_within : {xs ys : List Item} (a b : List Item) → Finer xs ys → Finer (a ++ (xs ++ b)) (a ++ (ys ++ b))
finer_within {xs} {ys} a b p =
    record {
      keeps = λ x y s.
          let t : Sorted ((x ++ a) ++ (xs ++ (b ++ y))) = simp append_assoc (simp append_assoc at s) in
          simp append_assoc (simp append_assoc at (p.keeps (x ++ a) (b ++ y) t));
      alike = simp (reals-append, p.alike);
    }

pub finer_sorted : {xs ys : List Item} → Finer xs ys → Sorted xs → Sorted ys
finer_sorted p s = rw append-nil at (p.keeps [] [] (rw append-nil s))
