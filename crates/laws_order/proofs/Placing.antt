-- An entry inserted or erased in a stretch of a sorted line, with all before it under its key and all after it beyond: the line stays sorted,
-- and its entries change as the stretch does.
use mathlib.Core.Path.{◌≡◌, refl, sym, ap, ◌∙◌}
use mathlib.Core.List.{List, [], ◌∷◌, ◌++◌, append_assoc, map}
use Prim.Native.Nat.{ℕ}
use Rattle.octets.specs.Keys.{compare_keys, three}
use Rattle.octets.proofs.Order.{order_lt, order_gt, by_keys}
use Rattle.model.specs.Types.{Entry}
use Rattle.model.specs.Map.{insert, erase}
use Rattle.model.proofs.Each.{nil, cons, all_append}
use Rattle.laws_order.proofs.Sundry.{three-at}
use Rattle.laws_order.specs.Line.{Item, real, Sorted, AllUnder, Beyond, reals}
use Rattle.laws_order.proofs.Items.{above_trans, above-tail, sorted-right, sorted-drop, sorted_insert, reals-append, reals-map, all-reals}

-- a change of a list of entries that is made at a key
pub record Local (k : List ℕ) (op : List Entry → List Entry) : Type 0 where
  pub right : (xs ys : List Entry) → AllUnder k (map real xs) → op (xs ++ ys) ≡ xs ++ op ys
  pub left : (ys zs : List Entry) → Beyond k (map real zs) → op (ys ++ zs) ≡ op ys ++ zs
  pub keeps : (X : List Item) (es : List Entry) (Y : List Item) → AllUnder k X → Beyond k Y → Sorted (X ++ (map real es ++ Y)) → Sorted (X ++ (map real (op es) ++ Y))

pub local_reals : {k : List ℕ} {op : List Entry → List Entry} → Local k op → (X : List Item) (es : List Entry) (Y : List Item) → AllUnder k X → Beyond k Y
    → reals (X ++ (map real (op es) ++ Y)) ≡ op (reals (X ++ (map real es ++ Y)))
local_reals {op = op} c X es Y b a =
    simp (reals-append, reals-map)
    (sym (c.right (reals X) (es ++ reals Y) (all-reals X b) ∙ ap (λ (l : List Entry). reals X ++ l) (c.left es (reals Y) (all-reals Y a))))

-- Insert ----------------------------------------------------------------------------------------------------------------

insert-right : (e : Entry) (xs ys : List Entry) → AllUnder e.key (map real xs) → insert e (xs ++ ys) ≡ xs ++ insert e ys
unfolding insert three
insert-right e [] ys b = refl
insert-right e (x ∷ xs) ys (cons u b) = rw (order_gt u) (ap (λ (l : List Entry). x ∷ l) (insert-right e xs ys b))

insert_end : (e : Entry) (zs : List Entry) → Beyond e.key (map real zs) → insert e zs ≡ e ∷ zs
unfolding insert three
insert_end e [] a = refl
insert_end e (z ∷ zs) (cons u a) = rw (order_lt u)

insert-left : (e : Entry) (ys zs : List Entry) → Beyond e.key (map real zs) → insert e (ys ++ zs) ≡ insert e ys ++ zs
unfolding insert
insert-left e [] zs a = insert_end e zs a
insert-left e (y ∷ ys) zs a = rw (insert-left e ys zs a) (sym (three-at (λ (l : List Entry). l ++ zs) (compare_keys e.key y.key) _ _ _))

insert-line : (e : Entry) (X : List Item) (es : List Entry) (Y : List Item) → AllUnder e.key X → Beyond e.key Y
    → Sorted (X ++ (map real es ++ Y)) → Sorted (X ++ (map real (insert e es) ++ Y))
unfolding insert
insert-line e X [] Y b a s = sorted_insert e X Y b a s
insert-line e X (x ∷ es) Y b a s =
    let next = above-tail (sorted-right X (real x ∷ (map real es ++ Y)) s) in
    by_keys (λ (l : List Entry). Sorted (X ++ (map real l ++ Y))) e.key x.key _ _ _
    (λ h. sorted_insert e X (map real (x ∷ es) ++ Y) b (cons h (above_trans (real e) (real x) h next)) s)
    (λ q. sorted_insert e X (map real es ++ Y) b (rw q next) (sorted-drop (real x) X (map real es ++ Y) s))
    (λ h. rw append_assoc at (insert-line e (X ++ (real x ∷ [])) es Y (all_append b (cons h nil)) a (rw append_assoc s)))

pub insert_local : (e : Entry) → Local e.key (insert e)
insert_local e = record { right = insert-right e; left = insert-left e; keeps = insert-line e }

-- Erase -----------------------------------------------------------------------------------------------------------------

erase-right : (k : List ℕ) (xs ys : List Entry) → AllUnder k (map real xs) → erase k (xs ++ ys) ≡ xs ++ erase k ys
unfolding erase three
erase-right k [] ys b = refl
erase-right k (x ∷ xs) ys (cons u b) = rw (order_gt u) (ap (λ (l : List Entry). x ∷ l) (erase-right k xs ys b))

erase_end : (k : List ℕ) (zs : List Entry) → Beyond k (map real zs) → erase k zs ≡ zs
unfolding erase three
erase_end k [] a = refl
erase_end k (z ∷ zs) (cons u a) = rw (order_lt u)

erase-left : (k : List ℕ) (ys zs : List Entry) → Beyond k (map real zs) → erase k (ys ++ zs) ≡ erase k ys ++ zs
unfolding erase
erase-left k [] zs a = erase_end k zs a
erase-left k (y ∷ ys) zs a = rw (erase-left k ys zs a) (sym (three-at (λ (l : List Entry). l ++ zs) (compare_keys k y.key) _ _ _))

erase-line : (k : List ℕ) (X : List Item) (es : List Entry) (Y : List Item) → Sorted (X ++ (map real es ++ Y)) → Sorted (X ++ (map real (erase k es) ++ Y))
unfolding erase
erase-line k X [] Y s = s
erase-line k X (x ∷ es) Y s =
    by_keys (λ (l : List Entry). Sorted (X ++ (map real l ++ Y))) k x.key _ _ _
    (λ h. s)
    (λ q. sorted-drop (real x) X (map real es ++ Y) s)
    (λ h. rw append_assoc at (erase-line k (X ++ (real x ∷ [])) es Y (rw append_assoc s)))

pub erase_local : (k : List ℕ) → Local k (erase k)
erase_local k = record { right = erase-right k; left = erase-left k; keeps = λ X es Y b a s. erase-line k X es Y s }
