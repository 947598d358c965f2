-- The descent goes where the key belongs: all before the leaf is under the key, and all after it beyond.
use mathlib.Core.Path.{◌≡◌, sym, ap, subst, ◌∙◌}
use mathlib.Core.List.{List, [], ◌∷◌, ◌++◌, append_assoc, map}
use Prim.Native.Nat.{ℕ, zero, suc}
use Rattle.octets.proofs.Order.{◌≺◌, ≺_of_not, by_before}
use Rattle.model.specs.Lists.{gather}
use Rattle.model.specs.Types.{Sep, Inner, Tree, Store, entries}
use Rattle.model.specs.Context.{Left, Context, top, Opened, Spot, close, seek, plug, descend}
use Rattle.model.specs.Change.{spot}
use Rattle.model.proofs.Descent.{seek-fill, spot-plug}
use Rattle.model.proofs.Each.{nil, cons, all_append, all_of}
use Rattle.laws_order.specs.Reading.{strung, lefts, rights, before, after}
use Rattle.laws_order.specs.Line.{Item, real, wall, Above, Sorted, AllUnder, Beyond, Rising, fence, line, of_store, ahead, behind}
use Rattle.laws_order.proofs.Items.{under_trans, above-tail, sorted-left, sorted-right, sorted-under}
use Rattle.laws_order.proofs.Line.{plug-line, line-leaf}

pub spot-line : (s : Store) (k : List ℕ) → of_store s ≡ ahead (spot s k).around ++ (map real (entries 0 (spot s k).leaf) ++ behind (spot s k).around)
unfolding of_store
spot-line s k = ap (line s.depth) (sym (spot-plug s k)) ∙ (plug-line (spot s k).around (spot s k).leaf ∙ rw line-leaf)

-- In one inner node -----------------------------------------------------------------------------------------------------

-- a key that is not below a separator is past what the separator is past, and one that is below it short of what follows
past : {xs : List Item} (s k : List ℕ) → (k ≺ s → ⊥) → AllUnder s xs → AllUnder k xs
past s k n u = all_of (λ x v. under_trans x (wall s) k v n) u

short : {ys : List Item} (s k : List ℕ) → k ≺ s → Above (wall s) ys → Beyond k ys
short s k h a = all_of (λ y v. ≺_of_not h v) a

module _ {A : Type 0} (m : A → List Item) where
  record Sought (k : List ℕ) (o : Opened A) : Type 0 where
    past-key : AllUnder k (lefts fence m o.frame.lefts)
    beyond_key : Beyond k (rights fence m o.frame.rights)

  sought : (k : List ℕ) (p : ℕ) (ls : List (Left A)) (a : A) (ss : List (Sep A)) → Sorted (lefts fence m ls ++ (m a ++ rights fence m ss))
      → AllUnder k (lefts fence m ls) → Sought k (seek k p ls a ss)
  unfolding seek lefts rights gather
  sought k p ls a [] o b = record { past-key = b; beyond_key = nil }
  sought k p ls a (s ∷ ss) o b =
      let X : List Item = lefts fence m ls ++ m a in
      let R : List Item = m s.child ++ rights fence m ss in
      let q : Sorted (X ++ (wall s.key ∷ R)) = rw append_assoc o in
      by_before (Sought k) k s.key _ _
      (λ h. record { past-key = b; beyond_key = cons h (short s.key k h (above-tail (sorted-right X (wall s.key ∷ R) q))) })
      (λ n. sought k p (record { child = a; key = s.key } ∷ ls) s.child ss (simp append_assoc o)
      (rw append_assoc at (all_append (past s.key k n (sorted-under X (wall s.key) R q)) (cons {x = wall s.key} n nil))))

-- In a whole tree -------------------------------------------------------------------------------------------------------

pub record Found {d : ℕ} (k : List ℕ) (w : Spot d) : Type 0 where
  pub past-key : AllUnder k (ahead w.around)
  pub beyond_key : Beyond k (behind w.around)

node-sorted : {d : ℕ} (h : ℕ) (c : Context d (suc h)) (t : Inner (Tree h)) → Sorted (line d (plug c t)) → Sorted (line h t.first ++ rights fence (line h) t.rest)
unfolding line strung rights
node-sorted h c t o = sorted-left _ (behind c) (sorted-right (ahead c) _ (rw (plug-line c t) at o))

descend-found : {d : ℕ} (h : ℕ) (c : Context d h) (t : Tree h) (k : List ℕ) → Sorted (line d (plug c t)) → AllUnder k (ahead c) → Beyond k (behind c)
    → Found k (descend h c t k)
unfolding descend plug before after close lefts
descend-found zero c t k o b a = record { past-key = b; beyond_key = a }
descend-found {d} (suc h) c t k o b a =
    let s = sought (line h) k t.page [] t.first t.rest (node-sorted h c t o) nil in
    descend-found h _ _ k
    (subst (λ (x : Inner (Tree h)). Sorted (line d (plug c x))) (sym (seek-fill k t.page [] t.first t.rest)) o)
    (all_append b s.past-key) (all_append s.beyond_key a)

pub spot-found : (s : Store) (k : List ℕ) → Sorted (of_store s) → Found k (spot s k)
unfolding spot plug before after of_store
spot-found s k o = descend-found s.depth top s.root k o nil nil

pub spot-rising : (s : Store) (k : List ℕ) → Sorted (of_store s) → Rising (entries 0 (spot s k).leaf)
spot-rising s k o =
    let w = spot s k in
    sorted-left (map real (entries 0 w.leaf)) (behind w.around) (sorted-right (ahead w.around) _ (rw (spot-line s k) at o))
