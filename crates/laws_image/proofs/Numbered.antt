-- A store's pages are listed in the order of the walk, so their numbers are those of the pages that it meets, behind the header's.
use mathlib.Core.Path.{◌≡◌, refl, sym, ap, ◌∙◌}
use mathlib.Core.List.{List, [], ◌∷◌, ◌++◌, map, append-nil}
use Prim.Native.Nat.{ℕ, zero, suc}
use lib.ListN.{drop}
use Rattle.model.specs.Lists.{gather}
use Rattle.model.specs.Edition.{Edition}
use Rattle.model.specs.Types.{Cell, Leaf, Sep, Inner, Tree, Store, Mark, across, marked, walk, walked, met}
use Rattle.model.specs.Sizes.{payload}
use Rattle.model.specs.Image.{Page, first_leaf, last_leaf, linked, chain_pages, free_pages, tree_pages, pages}
use Rattle.model.proofs.Lists.{map-append}
use Rattle.laws_image.proofs.Tree.{tree_pages-leaf, tree_pages-inner}

abbrev pub numbers : List Page → List ℕ
numbers qs = map (λ q. q.number) qs

abbrev pub places : List Mark → List ℕ
places ms = map (λ m. m.page) ms

pub places-marked : (r : ℕ) (ps : List ℕ) → places (map (marked r) ps) ≡ ps
unfolding marked
places-marked r [] = refl
places-marked r (p ∷ ps) = rw (places-marked r ps)

numbers-chain : (L : ℕ) (chain v : List ℕ) → numbers (chain_pages L chain v) ≡ chain
unfolding chain_pages
numbers-chain L [] v = refl
numbers-chain L (p ∷ ps) v = rw (numbers-chain L ps (drop (payload L) v))

numbers-cells : (L : ℕ) (cs : List Cell) → numbers (gather (λ c. chain_pages L c.chain c.value) cs) ≡ gather (λ c. c.chain) cs
unfolding gather
numbers-cells L [] = refl
numbers-cells L (c ∷ cs) = rw (map-append, numbers-chain L c.chain c.value, numbers-cells L cs)

numbers-free : (L : ℕ) (free : List ℕ) → numbers (free_pages L free) ≡ free
unfolding free_pages
numbers-free L [] = refl
numbers-free L (p ∷ ps) = rw (numbers-free L ps)

numbers-linked : {A : Type 0} (first last : A → ℕ) (m : ℕ → ℕ → A → List Page) (w : A → List Mark)
    → ((prev next : ℕ) (x : A) → numbers (m prev next x) ≡ places (w x))
    → (prev next : ℕ) (x : A) (ss : List (Sep A)) → numbers (linked first last m prev next x ss) ≡ places (w x ++ gather (λ s. w s.child) ss)
unfolding linked gather
numbers-linked first last m w e prev next x [] = rw append-nil (e prev next x)
numbers-linked first last m w e prev next x (s ∷ ss) =
    map-append (λ (q : Page). q.number) (m prev (first s.child) x) _
    ∙ rw (map-append, e prev (first s.child) x, numbers-linked first last m w e (last x) next s.child ss)

-- the free list comes last
pub met-walk : (s : Store) → met s ≡ places (walk s.depth s.root) ++ s.free
unfolding met walked
met-walk s =
    map-append (λ (m : Mark). m.page) (walk s.depth s.root) (map (marked 4) s.free)
    ∙ ap (λ (ps : List ℕ). places (walk s.depth s.root) ++ ps) (places-marked 4 s.free)

module _ (E : Edition) where
  numbers-leaf : (prev next : ℕ) (t : Leaf) → numbers (tree_pages E 0 prev next t) ≡ places (walk 0 t)
  unfolding walk marked
  numbers-leaf prev next t =
      rw tree_pages-leaf (ap {B = List ℕ} (λ ps. t.page ∷ ps) (numbers-cells E.usable t.cells ∙ sym (places-marked 3 _)))

  walk-inner : (h : ℕ) (t : Inner (Tree h)) → places (walk (suc h) t) ≡ t.page ∷ places (walk h t.first ++ gather (λ s. walk h s.child) t.rest)
  unfolding walk marked across
  walk-inner h t = refl

  numbers-tree : (h prev next : ℕ) (t : Tree h) → numbers (tree_pages E h prev next t) ≡ places (walk h t)
  numbers-tree zero prev next t = numbers-leaf prev next t
  numbers-tree (suc h) prev next t =
      rw tree_pages-inner (ap {B = List ℕ} (λ ps. t.page ∷ ps)
      (numbers-linked (first_leaf h) (last_leaf h) (tree_pages E h) (walk h) (numbers-tree h) prev next t.first t.rest) ∙ sym (walk-inner h t))

  pub numbers-pages : (s : Store) → numbers (pages E s) ≡ 0 ∷ met s
  unfolding pages
  numbers-pages s =
      let tree = tree_pages E s.depth 0 0 s.root in
      let free = free_pages E.usable s.free in
      let e : numbers (tree ++ free) ≡ numbers tree ++ numbers free = map-append (λ q. q.number) tree free in
      ap {B = List ℕ} (λ ps. 0 ∷ ps) (e ∙ rw (numbers-tree s.depth 0 0 s.root, numbers-free E.usable s.free) (sym (met-walk s)))
