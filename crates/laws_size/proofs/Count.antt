-- The page count stays: every rule of change hands it on.
use mathlib.Core.Path.{◌≡◌, refl}
use mathlib.Core.List.{List, [], ◌∷◌}
use Prim.Native.Nat.{ℕ, suc}
use Rattle.octets.proofs.Choice.{either}
use Rattle.model.specs.Types.{Leaf, Sep, Inner, Tree, Store}
use Rattle.model.specs.Context.{Context, top, under}
use Rattle.model.specs.InLeaf.{Grown, one, two}
use Rattle.model.specs.Growing.{new_root, grow_up}
use Rattle.model.specs.Mending.{low_root, mend_up, settled}
use Rattle.model.specs.Change.{placed_in, put_done, delete_done}

root-n : (n d : ℕ) (g : Grown (Tree d)) (free : List ℕ) → (new_root n d g free).n ≡ n
unfolding new_root
root-n n d (one t) free = refl
root-n n d (two a k b) free = refl

grow_up-n : {d h : ℕ} (n : ℕ) (c : Context d h) (g : Grown (Tree h)) (free : List ℕ) → (grow_up n c g free).n ≡ n
unfolding grow_up
grow_up-n {d} n top g free = root-n n d g free
grow_up-n n (under f c) g free = grow_up-n n c _ _

low-n : (n h p : ℕ) (a : Tree h) (ss : List (Sep (Tree h))) (free : List ℕ) → (low_root n h p a ss free).n ≡ n
unfolding low_root
low-n n h p a [] free = refl
low-n n h p a (s ∷ ss) free = refl

mend_up-n : {d h : ℕ} (n : ℕ) (c : Context d (suc h)) (t : Inner (Tree h)) (free : List ℕ) → (mend_up n c t free).n ≡ n
unfolding mend_up
mend_up-n {h = h} n top t free = low-n n h t.page t.first t.rest free
mend_up-n n (under f c) t free = mend_up-n n c _ _

settled-n : {d : ℕ} (L n : ℕ) (c : Context d 0) (l : Leaf) (free : List ℕ) → (settled L n c l free).n ≡ n
unfolding settled
settled-n L n top l free = refl
settled-n L n (under f c) l free = mend_up-n n c _ _

pub put-n : (L : ℕ) (s : Store) (k v : List ℕ) → (put_done L s k v).n ≡ s.n
unfolding put_done placed_in
put-n L s k v = either (λ (r : Store). r.n ≡ s.n) _ _ _ (settled-n L s.n _ _ _) (grow_up-n s.n _ _ _)

pub delete-n : (L : ℕ) (s : Store) (k : List ℕ) → (delete_done L s k).n ≡ s.n
unfolding delete_done
delete-n L s k = settled-n L s.n _ _ _
