-- A tree none of whose leaves is empty has a line that begins and ends with an entry.
use mathlib.Core.Path.{◌≡◌, refl, sym, ap, ◌∙◌}
use mathlib.Core.Bool.{Bool, true, and-eq-true_iff}
use mathlib.Core.List.{List, [], ◌∷◌, ◌++◌, append_assoc, append-nil, map}
use Prim.Native.Nat.{ℕ, zero, suc, ◌≤◌}
use native.Mathlib.Omega.{arith}
use Rattle.model.specs.Lists.{gather, every, total}
use Rattle.model.specs.Types.{Cell, Sep, Inner, Tree, Entry, entry, entries}
use Rattle.model.specs.Sizes.{leaf_least, costs}
use Rattle.model.specs.Accept.{every_child, throughout, full}
use Rattle.model.proofs.Tests.{leb_iff}
use Rattle.model.proofs.Each.{All, nil, cons, every→all, all_of}
use Rattle.model.proofs.Lists.{every_append}
use Rattle.laws_order.specs.Reading.{strung, rights}
use Rattle.laws_order.specs.Line.{Item, real, wall, reals, fence, line}
use Rattle.laws_order.proofs.Items.{reals-append}

pub record Peopled (xs : List Item) : Type 0 where
  pub first : Entry
  pub onwards : List Item
  pub starts : xs ≡ real first ∷ onwards
  pub last : Entry
  pub front : List Item
  pub ends : xs ≡ front ++ (real last ∷ [])

-- what all entries pass, the first and the last pass
pub ends_pass : {xs : List Item} (f : Entry → Bool) → (p : Peopled xs) → every f (reals xs) ≡ true → (f p.first ≡ true) × (f p.last ≡ true)
unfolding reals gather every
ends_pass {xs} f p t =
    let whole : every f (p.first ∷ reals p.onwards) ≡ true = rw p.starts at t in
    let parts : every f (reals p.front ++ (p.last ∷ [])) ≡ true = rw (reals-append p.front (real p.last ∷ [])) at (rw p.ends at t) in
    let k = simp and-eq-true_iff at whole in
    let l = simp and-eq-true_iff at (every_append f (reals p.front) (p.last ∷ []) parts).1 in
    (k.0, l.0)

-- Entries and nodes -----------------------------------------------------------------------------------------------------

longer : (x : Entry) (xs : List Item) → Peopled xs → Peopled (real x ∷ xs)
longer x xs p =
    record { first = x; onwards = xs; starts = refl; last = p.last; front = real x ∷ p.front; ends = ap (λ (l : List Item). real x ∷ l) p.ends }

pub entries-peopled : (e : Entry) (es : List Entry) → Peopled (map real (e ∷ es))
entries-peopled e [] = record { first = e; onwards = []; starts = refl; last = e; front = []; ends = refl }
entries-peopled e (d ∷ es) = longer e (map real (d ∷ es)) (entries-peopled d es)

module _ {A : Type 0} (m : A → List Item) where
  children-peopled : (a : A) (ss : List (Sep A)) → Peopled (m a) → All (λ s. Peopled (m s.child)) ss → Peopled (m a ++ rights fence m ss)
  unfolding rights gather
  children-peopled a [] p nil = rw append-nil p
  children-peopled a (s ∷ ss) p (cons q qs) =
      let r = children-peopled s.child ss q qs in
      record {
        first = p.first;
        onwards = p.onwards ++ (wall s.key ∷ (m s.child ++ rights fence m ss));
        starts = ap (λ (l : List Item). l ++ (wall s.key ∷ (m s.child ++ rights fence m ss))) p.starts;
        last = r.last;
        front = m a ++ (wall s.key ∷ r.front);
        ends = ap (λ (l : List Item). m a ++ (wall s.key ∷ l)) r.ends ∙ sym (append_assoc (m a) (wall s.key ∷ r.front) (real r.last ∷ []));
      }

  pub strung-peopled : (t : Inner A) → Peopled (m t.first) → All (λ s. Peopled (m s.child)) t.rest → Peopled (strung fence m t)
  unfolding strung rights
  strung-peopled t p ps = children-peopled t.first t.rest p ps

-- Trees -----------------------------------------------------------------------------------------------------------------

cells-peopled : (cs : List Cell) → leaf_least ≤ costs cs → Peopled (map real (map entry cs))
unfolding leaf_least costs total
cells-peopled [] h = absurd (omega arith)
cells-peopled (c ∷ cs) h = entries-peopled (entry c) (map entry cs)

-- "a leaf that isn't the root costs at least 125"
pub line-peopled : (h : ℕ) (t : Tree h) → full h t ≡ true → Peopled (line h t)
unfolding full throughout every_child line entries
line-peopled zero t e = cells-peopled t.cells ((leb_iff leaf_least (costs t.cells)).0 e)
line-peopled (suc h) t e =
    let k = simp and-eq-true_iff at e in
    strung-peopled (line h) t (line-peopled h t.first k.1.0) (all_of (λ s f. line-peopled h s.child f) (every→all _ t.rest k.1.1))
