-- A search finds an entry exactly if it is there: in a rising list all that a search passes is below the key, and all after the entry above it.
use mathlib.Core.Path.{◌≡◌, refl, sym, ap, ◌∙◌}
use mathlib.Core.Logic.{◌↔◌}
use mathlib.Core.List.{List, [], ◌∷◌, Memᴰ}
use mathlib.Core.Option.{Option, none, some, none-ne-some}
use Prim.Native.Nat.{ℕ}
use Rattle.octets.proofs.Order.{compared}
use Rattle.model.specs.Types.{Entry}
use Rattle.model.specs.Map.{lookup}
use Rattle.laws_order.specs.Line.{real, more-sorted, Rising}
use Rattle.model.proofs.Each.{all_of_map, all-member}
use Rattle.laws_order.proofs.FiniteMap.{lookup-nil, lookup-before, lookup-at, lookup-past, same-entry}

lookup-there : (k v : List ℕ) (m : List Entry) → lookup k m ≡ some v → Memᴰ (record { key = k; value = v }) m
lookup-there k v [] e = absurd (none-ne-some _ (sym (lookup-nil k) ∙ e))
lookup-there k v (x ∷ xs) e =
    compared (λ o. Memᴰ (record { key = k; value = v }) (x ∷ xs)) k x.key
    (λ h. absurd (none-ne-some _ (sym (lookup-before k x xs h) ∙ e)))
    (λ q. Memᴰ.head (same-entry _ x q (let z : some x.value ≡ some v = sym (lookup-at k x xs q) ∙ e in cc)))
    (λ h. Memᴰ.tail (lookup-there k v xs (sym (lookup-past k x xs h) ∙ e)))

there-lookup : (e : Entry) (m : List Entry) → Rising m → Memᴰ e m → lookup e.key m ≡ some e.value
there-lookup e [] r i = elim i [ ]
there-lookup e (x ∷ xs) r (Memᴰ.head q) = rw q (lookup-at x.key x xs refl)
there-lookup e (x ∷ xs) (more-sorted a r) (Memᴰ.tail i) = lookup-past e.key x xs (all-member (all_of_map _ real xs a) i) ∙ there-lookup e xs r i

pub lookup-some_iff : (k v : List ℕ) (m : List Entry) → Rising m → (lookup k m ≡ some v) ↔ Memᴰ (record { key = k; value = v }) m
lookup-some_iff k v m r = (lookup-there k v m, there-lookup (record { key = k; value = v }) m r)

-- no entry has the key
pub lookup-none_iff : (k : List ℕ) (m : List Entry) → Rising m → (lookup k m ≡ none) ↔ ((e : Entry) → Memᴰ e m → k ≡ e.key → ⊥)
lookup-none_iff k m r = (λ n e i q. none-ne-some _ (sym n ∙ (ap (λ (j : List ℕ). lookup j m) q ∙ there-lookup e m r i)), λ f. go (lookup k m) refl f)
  where
    go : (o : Option (List ℕ)) → lookup k m ≡ o → ((e : Entry) → Memᴰ e m → k ≡ e.key → ⊥) → lookup k m ≡ none
    go none e f = e
    go (some v) e f = absurd (f (record { key = k; value = v }) (lookup-there k v m e) refl)
