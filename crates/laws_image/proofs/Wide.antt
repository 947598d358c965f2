-- Every page of a sound store is as long as the layouts use, since what each holds fits.
use mathlib.Core.Path.{◌≡◌}
use mathlib.Core.List.{List, [], ◌∷◌}
use Prim.Native.Nat.{ℕ, zero, suc, ◌+◌, ◌*◌, ◌-◌, ◌≤◌}
use native.Mathlib.Omega.{arith}
use lib.ListN.{length, take, drop, length-take}
use Rattle.model.specs.Lists.{gather, head_or}
use Rattle.model.specs.Edition.{Edition}
use Rattle.model.specs.Types.{Cell, Leaf, Sep, Tree, Store}
use Rattle.model.specs.Sizes.{payload, inner_most}
use Rattle.model.specs.Image.{Page, chain_pages, free_pages, first_leaf, last_leaf, linked, tree_pages, pages, leaf_page, inner_page, head_page}
use Rattle.model.proofs.Editions.{Lawful}
use Rattle.model.proofs.Each.{All, nil, cons, all_append}
use Rattle.laws_image.proofs.LeafPages.{GoodLeaf, length-to_leaf}
use Rattle.laws_image.proofs.Layouts.{length-to_head, length-to_free, length-to_over, length-to_inner}
use Rattle.laws_image.proofs.Tree.{tree_pages-leaf, tree_pages-inner, SoundLeaf, SoundSep, Sound, short-keys, few-records}

abbrev pub Wide : ℕ → List Page → Type 0
Wide L qs = All (λ q. length q.bytes ≡ L) qs

good-fits : (L : ℕ) (l : Leaf) (prev next : ℕ) → GoodLeaf L (leaf_page prev next l) → 12 + 2 * length (leaf_page prev next l).cells ≤ L
good-fits L l prev next g = omega arith

module _ (E : Edition) (lawful : Lawful E) where
  abbrev L : ℕ
  L = E.usable

  wide-free : (free : List ℕ) → Wide L (free_pages L free)
  unfolding free_pages
  wide-free [] = nil
  wide-free (p ∷ free) = cons (length-to_free L (head_or 0 free) (omega arith)) (wide-free free)

  wide-chain : (chain v : List ℕ) → Wide L (chain_pages L chain v)
  unfolding chain_pages payload
  wide-chain [] v = nil
  wide-chain (p ∷ chain) v =
      cons (length-to_over L (record { next = head_or 0 chain; held = take (L - 8) v }) (omega (arith, length-take (L - 8) v))) (wide-chain chain (drop (L - 8) v))

  wide-cells : (cs : List Cell) → Wide L (gather (λ c. chain_pages L c.chain c.value) cs)
  unfolding gather
  wide-cells [] = nil
  wide-cells (c ∷ cs) = all_append (wide-chain c.chain c.value) (wide-cells cs)

  wide-leaf : (prev next : ℕ) (t : Leaf) → SoundLeaf L t → Wide L (tree_pages E 0 prev next t)
  wide-leaf prev next t o =
      rw tree_pages-leaf (cons (length-to_leaf L (leaf_page (E.back prev) next t) (good-fits L t _ next (o.page (E.back prev) next))) (wide-cells t.cells))

  wide-linked : {A : Type 0} (first last : A → ℕ) (m : ℕ → ℕ → A → List Page) (P : A → Type 0)
      → ((prev next : ℕ) (x : A) → P x → Wide L (m prev next x))
      → (prev next : ℕ) (a : A) {ss : List (Sep A)} → P a → All (SoundSep P) ss → Wide L (linked first last m prev next a ss)
  unfolding linked
  wide-linked first last m P f prev next a p nil = f prev next a p
  wide-linked first last m P f prev next a p (cons {x = s} k ks) =
      all_append (f prev (first s.child) a p) (wide-linked first last m P f (last a) next s.child k.child ks)

  inner-fits : (n : ℕ) → n ≤ inner_most → 12 + 35 * n ≤ L
  unfolding inner_most
  inner-fits n h = omega arith

  wide-tree : (h prev next : ℕ) (t : Tree h) → Sound L h t → Wide L (tree_pages E h prev next t)
  wide-tree zero prev next t o = wide-leaf prev next t o
  wide-tree (suc h) prev next t o =
      rw tree_pages-inner (cons (length-to_inner L (inner_page h t) (short-keys h t o.1.1) (inner-fits _ (few-records h t o.0)))
      (wide-linked (first_leaf h) (last_leaf h) (tree_pages E h) (Sound L h) (wide-tree h) prev next t.first o.1.0 o.1.1))

  pub wide-pages : (s : Store) → Sound L s.depth s.root → Wide L (pages E s)
  unfolding pages
  wide-pages s o = cons (length-to_head L (head_page E.number s) (omega arith)) (all_append (wide-tree s.depth 0 0 s.root o) (wide-free s.free))
