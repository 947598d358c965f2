-- A page that has a layout is written again as it was read, so the pages of what is read from pages stand there if each has its layout and links.
use mathlib.Core.Path.{◌≡◌, refl, sym, ap, ◌∙◌}
use mathlib.Core.Bool.{true, false}
use mathlib.Core.List.{List, [], ◌∷◌, ◌++◌, map, append-nil}
use mathlib.Core.Logic.{◌↔◌}
use Prim.Native.Nat.{ℕ, zero, suc, ◌+◌, ◌*◌, ◌≤◌, ◌<◌, min}
use native.Mathlib.Omega.{arith}
use lib.ListN.{length, get_or, take, drop, length-take, length-drop, take-append-drop}
use lib.Seq.{take_all, take_at, drop_at, length-take-le, get_or-drop}
use lib.Dec.{leb}
use borrow.Author.Tests.{eq-eqb, ne_eqb, leb-false}
use Rattle.octets.specs.Choice.{choose}
use Rattle.octets.specs.Numbers.{word16, bytes16}
use Rattle.octets.proofs.Choice.{choose-true, choose-false}
use Rattle.octets.proofs.Part.{part-all}
use Rattle.octets.proofs.Words.{bytes16-sum, bytes16-word16}
use Rattle.model.specs.Lists.{gather, head_or}
use Rattle.model.specs.Edition.{Edition}
use Rattle.model.specs.Types.{Cell, Sep, page_of}
use Rattle.model.specs.Sizes.{inline_most, payload, chain_most, chain_length}
use Rattle.model.specs.Layouts.{OverPage, LeafPage, Placed, InnerPage, to_free, of_free, to_over, of_over, to_inner, of_inner, to_leaf, of_leaf, cell_size}
use Rattle.model.specs.Image.{Page, cell_bytes, placed, numbered, inner_page, leaf_page, chain_pages, free_pages, first_leaf, last_leaf, linked, tree_pages}
use Rattle.model.specs.Decode.{chain_from, free_from, held_by, reach, inner_of, cell_from, cell_of, leaf_of, tree_at}
use Rattle.model.proofs.Tests.{cases}
use Rattle.model.proofs.Each.{All, nil, cons, all_cons}
use Rattle.laws_image.proofs.Layouts.{of_free-to_free, of_over-to_over}
use Rattle.laws_image.proofs.LeafPages.{GoodLeaf, of_leaf-to_leaf}
use Rattle.laws_image.proofs.Standing.{Standing}
use Rattle.laws_image.proofs.Cell.{chain-holds}
use Rattle.laws_image.proofs.Tree.{tree_pages-leaf, tree_pages-inner, tree_at-inner}

-- ---- the free list
-- From page p there are at most k free pages, each with its layout, and the last names none.

pub data FreeStands (L : ℕ) (ps : List (List ℕ)) : ℕ → ℕ → Type 0 where
  ends : {k : ℕ} → FreeStands L ps k 0
  goes : {k p : ℕ} → 1 ≤ p → get_or ps p [] ≡ to_free L (of_free (get_or ps p [])) → FreeStands L ps k (of_free (get_or ps p [])) → FreeStands L ps (suc k) p

module _ (L : ℕ) (ps : List (List ℕ)) where
  free_from-none : (k : ℕ) → free_from ps k 0 ≡ []
  unfolding free_from
  free_from-none zero = refl
  free_from-none (suc k) = choose-true _ _ _ (eq-eqb 0 0 refl)

  free_from-some : (k p : ℕ) → (p ≡ 0 → ⊥) → free_from ps (suc k) p ≡ p ∷ free_from ps k (of_free (get_or ps p []))
  unfolding free_from
  free_from-some k p n = choose-false _ _ _ (ne_eqb p 0 n)

  free-first : {k p : ℕ} → FreeStands L ps k p → head_or 0 (free_from ps k p) ≡ p
  unfolding head_or
  free-first (ends {k}) = rw (free_from-none k)
  free-first (goes {k} {p} o e f) = rw (free_from-some k p (λ z. omega arith))

  pub standing-free : {k p : ℕ} → FreeStands L ps k p → Standing ps (free_pages L (free_from ps k p))
  unfolding free_pages
  standing-free (ends {k}) = rw (free_from-none k) nil
  standing-free (goes {k} {p} o e f) =
      let b : get_or ps p [] ≡ to_free L (head_or 0 (free_from ps k (of_free (get_or ps p [])))) = rw (free-first f) e in
      rw (free_from-some k p (λ z. omega arith)) (cons b (standing-free f))

  pub free-standing : (k p : ℕ) → head_or 0 (free_from ps k p) ≡ p → Standing ps (free_pages L (free_from ps k p)) → FreeStands L ps k p
  unfolding free_from free_pages head_or
  free-standing zero p h g = rw (← h) ends
  free-standing (suc k) zero h g = ends
  free-standing (suc k) (suc p) h g =
      let page = get_or ps (suc p) [] in
      let rest = free_from ps k (of_free page) in
      let q = all_cons {x = record { number = suc p; bytes = to_free L (head_or 0 rest) }} (rw (free_from-some k (suc p) (λ z. omega arith)) at g) in
      let n : of_free page ≡ head_or 0 rest = ap of_free q.0 ∙ of_free-to_free L (head_or 0 rest) in
      goes {p = suc p} (omega arith) (q.0 ∙ ap (to_free L) (sym n)) (free-standing k (of_free page) (sym n) q.1)

-- ---- a chain
-- From page p there are k pages, each with its layout; all but the last are full, and the last names none.

pub data ChainStands (L : ℕ) (ps : List (List ℕ)) : ℕ → ℕ → Type 0 where
  last : {p : ℕ} → get_or ps p [] ≡ to_over L (of_over (get_or ps p [])) → (of_over (get_or ps p [])).next ≡ 0 → length (of_over (get_or ps p [])).held ≤ payload L
      → ChainStands L ps 1 p
  full : {k p : ℕ} → get_or ps p [] ≡ to_over L (of_over (get_or ps p [])) → length (of_over (get_or ps p [])).held ≡ payload L
      → ChainStands L ps (suc k) (of_over (get_or ps p [])).next → ChainStands L ps (suc (suc k)) p

module _ (L : ℕ) (ps : List (List ℕ)) where
  abbrev over : ℕ → OverPage
  over p = of_over (get_or ps p [])

  abbrev value : ℕ → ℕ → List ℕ
  value k p = held_by ps (chain_from ps k p)

  chain_first : (k p : ℕ) → head_or 0 (chain_from ps (suc k) p) ≡ p
  unfolding chain_from head_or
  chain_first k p = refl

  value-more : (k p : ℕ) → value (suc k) p ≡ (over p).held ++ value k (over p).next
  unfolding chain_from held_by gather
  value-more k p = refl

  pages-more : (k p : ℕ) → chain_pages L (chain_from ps (suc k) p) (value (suc k) p)
      ≡ record { number = p; bytes = to_over L (record { next = head_or 0 (chain_from ps k (over p).next); held = take (payload L) (value (suc k) p) }) }
      ∷ chain_pages L (chain_from ps k (over p).next) (drop (payload L) (value (suc k) p))
  unfolding chain_from chain_pages
  pages-more k p = refl

  pages-none : (p : ℕ) (v : List ℕ) → chain_pages L (chain_from ps 0 p) v ≡ []
  unfolding chain_from chain_pages
  pages-none p v = refl

  value-one : (p : ℕ) → value 1 p ≡ (over p).held
  unfolding chain_from held_by gather
  value-one p = append-nil (over p).held

  chain-none : (p : ℕ) → head_or 0 (chain_from ps 0 p) ≡ 0
  unfolding chain_from head_or
  chain-none p = refl

  over-again : (p next : ℕ) (held : List ℕ) → get_or ps p [] ≡ to_over L (over p) → (over p).next ≡ next → (over p).held ≡ held
      → get_or ps p [] ≡ to_over L (record { next = next; held = held })
  over-again p next held e a b = e ∙ ap (to_over L) (λ i. record { next = a i; held = b i })

  pub standing-chain : {k p : ℕ} → ChainStands L ps k p → Standing ps (chain_pages L (chain_from ps k p) (held_by ps (chain_from ps k p)))
  standing-chain (last {p} e n l) =
      let h : (over p).held ≡ take (payload L) (value 1 p) = rw (value-one p) (sym (take_all (payload L) (over p).held l)) in
      let rest : Standing ps (chain_pages L (chain_from ps 0 (over p).next) (drop (payload L) (value 1 p))) = rw pages-none nil in
      rw (pages-more 0 p) (cons (over-again p _ _ e (n ∙ sym (chain-none _)) h) rest)
  standing-chain (full {k} {p} e l c) =
      let more = value-more (suc k) p in
      let h : (over p).held ≡ take (payload L) (value (suc (suc k)) p) = rw more (sym (take_at (over p).held _ (payload L) l)) in
      let d : drop (payload L) (value (suc (suc k)) p) ≡ value (suc k) (over p).next = rw more (drop_at (over p).held _ (payload L) l) in
      let rest : Standing ps (chain_pages L (chain_from ps (suc k) (over p).next) (drop (payload L) (value (suc (suc k)) p))) = rw d (standing-chain c) in
      rw (pages-more (suc k) p) (cons (over-again p _ _ e (sym (chain_first k _)) h) rest)

  -- the other way round, where no page of the chain is spare
  pub chain-standing : (k p : ℕ) → k * payload L < length (held_by ps (chain_from ps (suc k) p))
      → Standing ps (chain_pages L (chain_from ps (suc k) p) (held_by ps (chain_from ps (suc k) p))) → ChainStands L ps (suc k) p
  chain-standing zero p h g =
      let q = all_cons (rw (pages-more 0 p) at g) in
      let o = ap of_over q.0 ∙ of_over-to_over L _ in
      last (q.0 ∙ ap (to_over L) (sym o)) (ap (λ (r : OverPage). r.next) o ∙ chain-none _)
      (omega (arith, ap (λ (r : OverPage). length r.held) o, length-take (payload L) (value 1 p)))
  chain-standing (suc k) p h g =
      let q = all_cons (rw (pages-more (suc k) p) at g) in
      let o = ap of_over q.0 ∙ of_over-to_over L _ in
      let more = value-more (suc k) p in
      let l : length (over p).held ≡ payload L =
      omega (arith, ap (λ (r : OverPage). length r.held) o, length-take (payload L) (value (suc (suc k)) p)) in
      let d : drop (payload L) (value (suc (suc k)) p) ≡ value (suc k) (over p).next = rw more (drop_at (over p).held _ (payload L) l) in
      full (q.0 ∙ ap (to_over L) (sym o)) l
      (chain-standing k (over p).next (omega (arith, ap length d, length-drop (payload L) (value (suc (suc k)) p))) (rw d at q.1))

-- ---- a cell
-- It is written again if it is as long as it says, and a value that is not in it is as long as it says.

two-again : (l : List ℕ) → length l ≡ 2 → get_or l 0 0 < 256 → bytes16 (word16 l 0) ≡ l
two-again l e p = bytes16-word16 l 0 (omega arith) p ∙ (rw e at (part-all l))

cell_bytes-inline : (c : Cell) (body : List ℕ) → c.value ≡ body → leb (length body) inline_most ≡ true
    → cell_bytes c ≡ length c.key ∷ bytes16 (length body) ++ (c.key ++ body)
unfolding cell_bytes choose
cell_bytes-inline c body e t = rw (e, t)

cell_bytes-chained : (c : Cell) (v r : ℕ) → length c.value ≡ v → leb v inline_most ≡ false → head_or 0 c.chain ≡ r
    → cell_bytes c ≡ length c.key ∷ bytes16 v ++ (c.key ++ bytes16 r)
unfolding cell_bytes choose
cell_bytes-chained c v r e t f = rw (e, t, f)

module _ (L : ℕ) (room : 9 ≤ L) (ps : List (List ℕ)) where
  chain_head : (k p : ℕ) → 1 ≤ k → head_or 0 (chain_from ps k p) ≡ p
  chain_head zero p h = absurd (omega arith)
  chain_head (suc k) p h = chain_first L ps k p

  chain-some : (v : ℕ) → leb v inline_most ≡ false → 1 ≤ min chain_most (chain_length L v)
  unfolding chain_most
  chain-some v t = go (chain_length L v) (chain-holds L room v t)
    where
      go : (k : ℕ) → v ≤ k * payload L → 1 ≤ min 8 k
      go zero h = absurd (omega (arith, leb-false v inline_most t))
      go (suc k) h = omega arith

  bytes-again : (o : ℕ) (b : List ℕ) → ((i : ℕ) → get_or b i 0 < 256) → length b ≡ cell_size b
      → (leb (word16 b 1) inline_most ≡ false → length (cell_of L ps (record { at = o; bytes = b })).value ≡ word16 b 1)
      → cell_bytes (cell_of L ps (record { at = o; bytes = b })) ≡ b
  unfolding cell_size cell_of cell_from word16
  bytes-again o [] small l h = absurd (omega arith)
  bytes-again o (x ∷ []) small l h = absurd (omega arith)
  bytes-again o (x ∷ y ∷ []) small l h = absurd (omega arith)
  bytes-again o (x ∷ y ∷ z ∷ rest) small l h =
      let v : ℕ = y + 256 * z in
      let c : Cell = cell_of L ps (record { at = o; bytes = x ∷ y ∷ z ∷ rest }) in
      cases (leb v inline_most)
      (λ t. let n : length rest ≡ x + v = omega (arith, choose-true (leb v inline_most) v 2 t) in
      let k : length (take x rest) ≡ x = length-take-le x rest (omega arith) in
      let m : length (drop x rest) ≡ v = simp length-drop (omega arith) in
      cell_bytes-inline c (drop x rest) (choose-true _ _ _ t) (rw m t) ∙ rw (k, m, bytes16-sum y z (small 1), take-append-drop))
      (λ t. let n : length rest ≡ x + 2 = omega (arith, choose-false (leb v inline_most) v 2 t) in
      let k : length (take x rest) ≡ x = length-take-le x rest (omega arith) in
      let m : length (drop x rest) ≡ 2 = simp length-drop (omega arith) in
      let w : bytes16 (word16 (drop x rest) 0) ≡ drop x rest = two-again (drop x rest) m (rw get_or-drop (small (suc (suc (suc (x + 0)))))) in
      cell_bytes-chained c v (word16 (drop x rest) 0) (h t) t (chain_head _ _ (chain-some v t))
      ∙ rw (k, w, bytes16-sum y z (small 1), take-append-drop))

  pub placed-cell_of : (c : Placed) → ((i : ℕ) → get_or c.bytes i 0 < 256) → length c.bytes ≡ cell_size c.bytes
      → (leb (word16 c.bytes 1) inline_most ≡ false → length (cell_of L ps c).value ≡ word16 c.bytes 1) → placed (cell_of L ps c) ≡ c
  unfolding placed cell_of cell_from
  placed-cell_of c small l h = let e = bytes-again c.at c.bytes small l h in λ i. record { at = c.at; bytes = e i }

-- ---- a node
-- Its children are at the numbers that its page names, so an inner page is its node's; a leaf's is that of its cells and links.

module _ (E : Edition) (ps : List (List ℕ)) where
  abbrev L : ℕ
  L = E.usable

  pub page_of-tree_at : (h p : ℕ) → page_of h (tree_at L ps h p) ≡ p
  unfolding page_of tree_at leaf_of inner_of
  page_of-tree_at zero p = refl
  page_of-tree_at (suc h) p = refl

  numbered-reach : (h : ℕ) (ss : List (Sep ℕ)) → map (numbered h) (map (reach (tree_at L ps h)) ss) ≡ ss
  unfolding numbered reach
  numbered-reach h [] = refl
  numbered-reach h (s ∷ ss) = rw (page_of-tree_at h s.child, numbered-reach h ss)

  inner_page-inner_of : (h p : ℕ) (q : InnerPage) → inner_page h (inner_of (tree_at L ps h) p q) ≡ q
  unfolding inner_page inner_of
  inner_page-inner_of h p q =
      let a = page_of-tree_at h q.first in
      let b = numbered-reach h q.rest in
      λ i. record { first = a i; rest = b i }

  -- the pages below the inner node at p
  abbrev pub pages_below : (h prev next p : ℕ) → List Page
  pages_below h prev next p =
      let q = of_inner (get_or ps p []) in
      linked (first_leaf h) (last_leaf h) (tree_pages E h) prev next (tree_at L ps h q.first) (map (reach (tree_at L ps h)) q.rest)

  inner-pages : (h prev next p : ℕ) → tree_pages E (suc h) prev next (tree_at L ps (suc h) p)
      ≡ record { number = p; bytes = to_inner L (of_inner (get_or ps p [])) } ∷ pages_below h prev next p
  unfolding inner_of
  inner-pages h prev next p =
      let q = of_inner (get_or ps p []) in
      ap (tree_pages E (suc h) prev next) (tree_at-inner L ps h p) ∙ tree_pages-inner E h prev next (inner_of (tree_at L ps h) p q)
      ∙ ap {B = List Page} (λ r. record { number = p; bytes = to_inner L r } ∷ pages_below h prev next p) (inner_page-inner_of h p q)

  pub inner_iff : (h prev next p : ℕ) → Standing ps (tree_pages E (suc h) prev next (tree_at L ps (suc h) p))
      ↔ ((get_or ps p [] ≡ to_inner E.usable (of_inner (get_or ps p []))) × Standing ps (pages_below h prev next p))
  inner_iff h prev next p = (λ g. all_cons (rw inner-pages at g), λ k. rw inner-pages (cons k.0 k.1))

-- a leaf with its layout between its neighbours, each of whose cells is written again and has its chain
pub record LeafStands (E : Edition) (ps : List (List ℕ)) (prev next p : ℕ) : Type 0 where
  pub layout : get_or ps p [] ≡ to_leaf E.usable (of_leaf E.usable (get_or ps p []))
  pub forth : (of_leaf E.usable (get_or ps p [])).next ≡ next
  pub back : (of_leaf E.usable (get_or ps p [])).prev ≡ E.back prev
  pub cells : map placed (map (cell_of E.usable ps) (of_leaf E.usable (get_or ps p [])).cells) ≡ (of_leaf E.usable (get_or ps p [])).cells
  pub chains :
      Standing ps (gather (λ c. chain_pages E.usable c.chain c.value) (map (cell_of E.usable ps) (of_leaf E.usable (get_or ps p [])).cells))

pub map-placed-cell_of : (L : ℕ) (ps : List (List ℕ)) {cs : List Placed} → All (λ c. placed (cell_of L ps c) ≡ c) cs → map placed (map (cell_of L ps) cs) ≡ cs
map-placed-cell_of L ps nil = refl
map-placed-cell_of L ps (cons e es) = rw (e, map-placed-cell_of L ps es)

module _ (E : Edition) (ps : List (List ℕ)) (prev next p : ℕ) where
  abbrev read : LeafPage
  read = of_leaf E.usable (get_or ps p [])

  abbrev written : LeafPage
  written = leaf_page (E.back prev) next (tree_at E.usable ps 0 p)

  leaf-pages : tree_pages E 0 prev next (tree_at E.usable ps 0 p)
      ≡ record { number = p; bytes = to_leaf E.usable written }
      ∷ gather (λ c. chain_pages E.usable c.chain c.value) (map (cell_of E.usable ps) read.cells)
  unfolding tree_at leaf_of
  leaf-pages = tree_pages-leaf E prev next (tree_at E.usable ps 0 p)

  pub standing-leaf : LeafStands E ps prev next p → Standing ps (tree_pages E 0 prev next (tree_at E.usable ps 0 p))
  standing-leaf k = rw leaf-pages (cons (k.layout ∙ ap (to_leaf E.usable) again) k.chains)
    where
      again : read ≡ written
      again = unfold leaf_page in unfold tree_at in unfold leaf_of in
          let a = k.forth in let b = k.back in let c = sym k.cells in
          λ i. record { start = read.start; next = a i; prev = b i; cells = c i }

  -- the other way round, for a leaf that is good as it is read
  pub leaf-standing : GoodLeaf E.usable written → Standing ps (tree_pages E 0 prev next (tree_at E.usable ps 0 p)) → LeafStands E ps prev next p
  unfolding leaf_page tree_at leaf_of
  leaf-standing good g =
      let q = all_cons (rw leaf-pages at g) in
      let o : read ≡ written = ap (of_leaf E.usable) q.0 ∙ of_leaf-to_leaf E.usable written good in
      record {
        layout = q.0 ∙ ap (to_leaf E.usable) (sym o);
        forth = ap (λ (r : LeafPage). r.next) o;
        back = ap (λ (r : LeafPage). r.prev) o;
        cells = sym (ap (λ (r : LeafPage). r.cells) o);
        chains = q.1;
      }
