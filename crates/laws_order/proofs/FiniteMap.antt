-- A list of entries with strictly rising keys is a finite map: each comparison says which way a key is to be looked for.
use mathlib.Core.Path.{◌≡◌, refl, sym, ap, ◌∙◌}
use mathlib.Core.List.{List, [], ◌∷◌, append-nil, map}
use mathlib.Core.Option.{none, some, none-ne-some}
use Prim.Native.Nat.{ℕ, suc}
use lib.ListN.{length}
use Rattle.octets.specs.Keys.{three}
use Rattle.octets.proofs.Order.{◌≺◌, ≺_trans, ≺_irrefl, order_lt, order_gt, order_same, compared, by_keys}
use Rattle.model.specs.Types.{Entry}
use Rattle.model.specs.Map.{lookup, insert, erase}
use Rattle.model.proofs.Each.{nil, cons, all_of}
use Rattle.laws_order.specs.Line.{real, more-sorted, Beyond, Rising}
use Rattle.laws_order.proofs.Placing.{insert_local, erase_local}

-- One comparison --------------------------------------------------------------------------------------------------------

pub lookup-before : (k : List ℕ) (x : Entry) (xs : List Entry) → k ≺ x.key → lookup k (x ∷ xs) ≡ none
unfolding lookup three
lookup-before k x xs h = rw (order_lt h)

pub lookup-at : (k : List ℕ) (x : Entry) (xs : List Entry) → k ≡ x.key → lookup k (x ∷ xs) ≡ some x.value
unfolding lookup three
lookup-at k x xs e = rw (e, order_same x.key)

pub lookup-past : (k : List ℕ) (x : Entry) (xs : List Entry) → x.key ≺ k → lookup k (x ∷ xs) ≡ lookup k xs
unfolding lookup three
lookup-past k x xs h = rw (order_gt h)

pub lookup-nil : (k : List ℕ) → lookup k [] ≡ none
unfolding lookup
lookup-nil k = refl

lookup-cons : (k : List ℕ) (x : Entry) (xs ys : List Entry) → lookup k xs ≡ lookup k ys → lookup k (x ∷ xs) ≡ lookup k (x ∷ ys)
unfolding lookup
lookup-cons k x xs ys e = rw e

lookup-short : (k : List ℕ) (m : List Entry) → Beyond k (map real m) → lookup k m ≡ none
lookup-short k [] a = lookup-nil k
lookup-short k (x ∷ xs) (cons h a) = lookup-before k x xs h

-- Insert ----------------------------------------------------------------------------------------------------------------

pub lookup-insert-same : (e : Entry) (m : List Entry) → lookup e.key (insert e m) ≡ some e.value
unfolding insert
lookup-insert-same e [] = lookup-at e.key e [] refl
lookup-insert-same e (x ∷ xs) =
    by_keys (λ (l : List Entry). lookup e.key l ≡ some e.value) e.key x.key _ _ _
    (λ h. lookup-at e.key e (x ∷ xs) refl)
    (λ q. lookup-at e.key e xs refl)
    (λ h. lookup-past e.key x _ h ∙ lookup-insert-same e xs)

pub lookup-insert-other : (k : List ℕ) (e : Entry) (m : List Entry) → (k ≡ e.key → ⊥) → lookup k (insert e m) ≡ lookup k m
unfolding insert
lookup-insert-other k e [] n =
    compared (λ o. lookup k (e ∷ []) ≡ lookup k []) k e.key
    (λ h. lookup-before k e [] h ∙ sym (lookup-nil k)) (λ q. absurd (n q)) (λ h. lookup-past k e [] h)
lookup-insert-other k e (x ∷ xs) n =
    by_keys (λ (l : List Entry). lookup k l ≡ lookup k (x ∷ xs)) e.key x.key _ _ _
    (λ p. compared (λ o. lookup k (e ∷ x ∷ xs) ≡ lookup k (x ∷ xs)) k e.key
    (λ h. lookup-before k e _ h ∙ sym (lookup-before k x xs (≺_trans h p))) (λ q. absurd (n q)) (λ h. lookup-past k e _ h))
    (λ p. compared (λ o. lookup k (e ∷ xs) ≡ lookup k (x ∷ xs)) k e.key
    (λ h. lookup-before k e _ h ∙ sym (lookup-before k x xs (rw p at h))) (λ q. absurd (n q)) (λ h. lookup-past k e _ h ∙ sym (lookup-past k x xs (rw p at h))))
    (λ p. lookup-cons k x _ _ (lookup-insert-other k e xs n))

pub insert-rising : (e : Entry) (m : List Entry) → Rising m → Rising (insert e m)
insert-rising e m r = rw append-nil at ((insert_local e).keeps [] m [] nil nil (rw append-nil r))

-- Erase -----------------------------------------------------------------------------------------------------------------

pub lookup-erase-same : (k : List ℕ) (m : List Entry) → Rising m → lookup k (erase k m) ≡ none
unfolding erase
lookup-erase-same k [] r = lookup-nil k
lookup-erase-same k (x ∷ xs) (more-sorted a r) =
    by_keys (λ (l : List Entry). lookup k l ≡ none) k x.key _ _ _
    (λ h. lookup-before k x xs h)
    (λ q. lookup-short k xs (rw q a))
    (λ h. lookup-past k x _ h ∙ lookup-erase-same k xs r)

pub lookup-erase-other : (k j : List ℕ) (m : List Entry) → Rising m → (k ≡ j → ⊥) → lookup k (erase j m) ≡ lookup k m
unfolding erase
lookup-erase-other k j [] r n = refl
lookup-erase-other k j (x ∷ xs) (more-sorted a r) n =
    by_keys (λ (l : List Entry). lookup k l ≡ lookup k (x ∷ xs)) j x.key _ _ _
    (λ p. refl)
    (λ p. compared (λ o. lookup k xs ≡ lookup k (x ∷ xs)) k x.key
    (λ h. lookup-short k xs (all_of (λ y q. ≺_trans h q) a) ∙ sym (lookup-before k x xs h)) (λ q. absurd (n (q ∙ sym p))) (λ h. sym (lookup-past k x xs h)))
    (λ p. lookup-cons k x _ _ (lookup-erase-other k j xs r n))

pub erase-rising : (k : List ℕ) (m : List Entry) → Rising m → Rising (erase k m)
erase-rising k m r = rw append-nil at ((erase_local k).keeps [] m [] nil nil (rw append-nil r))

-- What determines a map -------------------------------------------------------------------------------------------------

-- the tails agree where the heads are alike
lookup_tails : (x y : Entry) (xs ys : List Entry) → Beyond x.key (map real xs) → Beyond y.key (map real ys) → x.key ≡ y.key
    → ((k : List ℕ) → lookup k (x ∷ xs) ≡ lookup k (y ∷ ys)) → (k : List ℕ) → lookup k xs ≡ lookup k ys
lookup_tails x y xs ys a b e f k =
    compared (λ o. lookup k xs ≡ lookup k ys) k x.key
    (λ h. lookup-short k xs (all_of (λ z q. ≺_trans h q) a) ∙ sym (lookup-short k ys (all_of (λ z q. ≺_trans (rw e at h) q) b)))
    (λ q. lookup-short k xs (rw q a) ∙ sym (lookup-short k ys (rw (q, e) b)))
    (λ h. sym (lookup-past k x xs h) ∙ (f k ∙ lookup-past k y ys (rw e at h)))

pub same-entry : (x y : Entry) → x.key ≡ y.key → x.value ≡ y.value → x ≡ y
same-entry x y p q = let e : ◌≡◌ {A = Entry} (record { key = x.key; value = x.value }) (record { key = y.key; value = y.value }) = cc in e

pub lookup_ext : (m n : List Entry) → Rising m → Rising n → ((k : List ℕ) → lookup k m ≡ lookup k n) → m ≡ n
lookup_ext [] [] r s f = refl
lookup_ext [] (y ∷ ys) r s f = absurd (none-ne-some _ (sym (lookup-nil y.key) ∙ (f y.key ∙ lookup-at y.key y ys refl)))
lookup_ext (x ∷ xs) [] r s f = absurd (none-ne-some _ (sym (lookup-nil x.key) ∙ (sym (f x.key) ∙ lookup-at x.key x xs refl)))
lookup_ext (x ∷ xs) (y ∷ ys) (more-sorted a r) (more-sorted b s) f =
    compared (λ o. ◌≡◌ {A = List Entry} (x ∷ xs) (y ∷ ys)) x.key y.key
    (λ h. absurd (none-ne-some _ (sym (lookup-before x.key y ys h) ∙ (sym (f x.key) ∙ lookup-at x.key x xs refl))))
    (λ q. let e : some x.value ≡ some y.value = sym (lookup-at x.key x xs refl) ∙ (f x.key ∙ lookup-at x.key y ys q) in
    let v : x.value ≡ y.value = cc in
    rw (same-entry x y q v, lookup_ext xs ys r s (lookup_tails x y xs ys a b q f)))
    (λ h. absurd (none-ne-some _ (sym (lookup-before y.key x xs h) ∙ (f y.key ∙ lookup-at y.key y ys refl))))

-- replacing is removing, then adding
pub insert-erase : (e : Entry) (m : List Entry) → Rising m → insert e (erase e.key m) ≡ insert e m
insert-erase e m r =
    let other : (k : List ℕ) → (k ≡ e.key → ⊥) → lookup k (insert e (erase e.key m)) ≡ lookup k (insert e m)
    = λ k n. lookup-insert-other k e _ n ∙ (lookup-erase-other k e.key m r n ∙ sym (lookup-insert-other k e m n)) in
    lookup_ext _ _ (insert-rising e _ (erase-rising e.key m r)) (insert-rising e m r)
    (λ k. compared (λ o. lookup k (insert e (erase e.key m)) ≡ lookup k (insert e m)) k e.key
    (λ h. other k (λ q. ≺_irrefl (rw q at h)))
    (λ q. rw q (lookup-insert-same e _ ∙ sym (lookup-insert-same e m)))
    (λ h. other k (λ q. ≺_irrefl (rw q at h))))

-- Lengths ---------------------------------------------------------------------------------------------------------------

pub length-insert-missing : (e : Entry) (m : List Entry) → lookup e.key m ≡ none → length (insert e m) ≡ suc (length m)
unfolding insert
length-insert-missing e [] n = refl
length-insert-missing e (x ∷ xs) n =
    by_keys (λ (l : List Entry). length l ≡ suc (length (x ∷ xs))) e.key x.key _ _ _
    (λ h. refl)
    (λ q. absurd (none-ne-some _ (sym n ∙ lookup-at e.key x xs q)))
    (λ h. ap suc (length-insert-missing e xs (sym (lookup-past e.key x xs h) ∙ n)))

pub length-insert_present : (e : Entry) (v : List ℕ) (m : List Entry) → lookup e.key m ≡ some v → length (insert e m) ≡ length m
unfolding insert
length-insert_present e v [] n = absurd (none-ne-some _ (sym (lookup-nil e.key) ∙ n))
length-insert_present e v (x ∷ xs) n =
    by_keys (λ (l : List Entry). length l ≡ length (x ∷ xs)) e.key x.key _ _ _
    (λ h. absurd (none-ne-some _ (sym (lookup-before e.key x xs h) ∙ n)))
    (λ q. refl)
    (λ h. ap suc (length-insert_present e v xs (sym (lookup-past e.key x xs h) ∙ n)))

pub length-erase_present : (k v : List ℕ) (m : List Entry) → lookup k m ≡ some v → suc (length (erase k m)) ≡ length m
unfolding erase
length-erase_present k v [] n = absurd (none-ne-some _ (sym (lookup-nil k) ∙ n))
length-erase_present k v (x ∷ xs) n =
    by_keys (λ (l : List Entry). suc (length l) ≡ length (x ∷ xs)) k x.key _ _ _
    (λ h. absurd (none-ne-some _ (sym (lookup-before k x xs h) ∙ n)))
    (λ q. refl)
    (λ h. ap suc (length-erase_present k v xs (sym (lookup-past k x xs h) ∙ n)))

pub erase-missing : (k : List ℕ) (m : List Entry) → lookup k m ≡ none → erase k m ≡ m
unfolding erase
erase-missing k [] n = refl
erase-missing k (x ∷ xs) n =
    by_keys (λ (l : List Entry). l ≡ x ∷ xs) k x.key _ _ _
    (λ h. refl)
    (λ q. absurd (none-ne-some _ (sym n ∙ lookup-at k x xs q)))
    (λ h. ap (λ (l : List Entry). x ∷ l) (erase-missing k xs (sym (lookup-past k x xs h) ∙ n)))
