-- The way down loses nothing: a node opened at a child and closed again is the node, so the leaf that is reached, plugged into what is
-- around it, is the tree.
use mathlib.Core.Path.{◌≡◌, refl, ap, ◌∙◌}
use mathlib.Core.List.{List, [], ◌∷◌}
use Prim.Native.Nat.{ℕ, zero, suc}
use Rattle.octets.proofs.Choice.{either}
use Rattle.model.specs.Types.{Sep, Tree, Store}
use Rattle.model.specs.Context.{Left, Context, top, under, Opened, close, fill, seek, plug, descend}
use Rattle.model.specs.Change.{spot}

pub seek-fill : {A : Type 0} (k : List ℕ) (p : ℕ) (ls : List (Left A)) (a : A) (ss : List (Sep A))
    → fill (seek k p ls a ss).frame (seek k p ls a ss).child ≡ close p ls a ss
unfolding seek fill close
seek-fill k p ls a [] = refl
seek-fill {A} k p ls a (s ∷ ss) =
    either (λ (o : Opened A). fill o.frame o.child ≡ close p ls a (s ∷ ss)) _ _ _ refl
    (seek-fill k p (record { child = a; key = s.key } ∷ ls) s.child ss)

pub descend-plug : {d : ℕ} (h : ℕ) (c : Context d h) (t : Tree h) (k : List ℕ) → plug (descend h c t k).around (descend h c t k).leaf ≡ plug c t
unfolding descend plug close
descend-plug zero c t k = refl
descend-plug (suc h) c t k =
    let o = seek k t.page [] t.first t.rest in
    descend-plug h (under o.frame c) o.child k ∙ ap (λ (x : Tree (suc h)). plug c x) (seek-fill k t.page [] t.first t.rest)

pub spot-plug : (s : Store) (k : List ℕ) → plug (spot s k).around (spot s k).leaf ≡ s.root
unfolding spot plug
spot-plug s k = descend-plug s.depth top s.root k
