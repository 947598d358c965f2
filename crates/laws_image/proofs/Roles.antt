-- Each page is met once, so its role is that of its mark, and a count of roles over the pages is the count over the marks.
use mathlib.Core.Path.{◌≡◌, refl, sym, ap, ◌∙◌}
use mathlib.Core.Bool.{true}
use mathlib.Core.List.{List, ◌∷◌, map}
use Prim.Native.Nat.{ℕ, zero, suc, ◌+◌, ◌≤◌, ◌<◌}
use native.Mathlib.Nat.{zero-add}
use native.Mathlib.Omega.{arith}
use lib.ListN.{length, get_or, length-map}
use borrow.Author.Tests.{eq-eqb, ne_eqb}
use Rattle.octets.specs.Choice.{choose}
use Rattle.octets.proofs.Choice.{choose-true, choose-false}
use Rattle.model.specs.Lists.{gather, total, from, times}
use Rattle.model.specs.Edition.{Edition}
use Rattle.model.specs.Types.{Leaf, Inner, Tree, Store, Mark, across, marked, walk, walked, met}
use Rattle.model.specs.Accept.{valid}
use Rattle.model.specs.Refusals.{role_at, roles}
use Rattle.model.proofs.Each.{All, cons, all_of, all_append, all_map, all-gather, all_of_map, all_both, all_from}
use Rattle.model.proofs.Lists.{total-map, total-cons, times-total, length_from, length-total, get_or-map_from}
use Rattle.model.proofs.Sums.{is, is_same, is-other, times-from, found-own, total-add, total_ext, total-none, total-numbers}
use Rattle.laws_image.specs.Marks.{marks}
use Rattle.laws_image.proofs.Valid.{clauses}
use Rattle.laws_image.proofs.Numbered.{places}
use Rattle.laws_image.proofs.PagesMet.{met-each, page-once, page-most, page-below}

-- ---- the roles of the marks
-- A page of the tree is a leaf, an inner or an overflow page, and the others are free or the header.

walk-leaf : (t : Leaf) → All (λ m. (1 ≤ m.role) × (m.role ≤ 4)) (walk 0 t)
unfolding walk marked
walk-leaf t = cons {x = marked 1 t.page} (omega arith) (all_map (marked 3) (λ p. omega arith) (gather (λ c. c.chain) t.cells))

walk-inner : (h : ℕ) → ((x : Tree h) → All (λ m. (1 ≤ m.role) × (m.role ≤ 4)) (walk h x)) → (t : Inner (Tree h))
    → All (λ m. (1 ≤ m.role) × (m.role ≤ 4)) (walk (suc h) t)
unfolding walk marked across
walk-inner h f t = cons {x = marked 2 t.page} (omega arith) (all_append (f t.first) (all-gather _ (λ s. f s.child) t.rest))

walk-roles : (h : ℕ) (t : Tree h) → All (λ m. (1 ≤ m.role) × (m.role ≤ 4)) (walk h t)
walk-roles zero t = walk-leaf t
walk-roles (suc h) t = walk-inner h (walk-roles h) t

pub walked-roles : (s : Store) → All (λ m. (1 ≤ m.role) × (m.role ≤ 4)) (walked s)
unfolding walked marked
walked-roles s = all_append (walk-roles s.depth s.root) (all_map (marked 4) (λ p. omega arith) s.free)

one-of_four : (r : ℕ) → 1 ≤ r → r ≤ 4 → is 1 r + is 2 r + is 3 r + is 4 r ≡ 1
unfolding choose
one-of_four zero g h = absurd (omega arith)
one-of_four (suc zero) g h = refl
one-of_four (suc (suc zero)) g h = refl
one-of_four (suc (suc (suc zero))) g h = refl
one-of_four (suc (suc (suc (suc zero)))) g h = refl
one-of_four (suc (suc (suc (suc (suc r))))) g h = absurd (omega arith)

pub places-marks : (s : Store) → places (marks s) ≡ 0 ∷ met s
unfolding marks marked met
places-marks s = refl

length-met : (s : Store) → length (met s) ≡ length (walked s)
unfolding met
length-met s = length-map (walked s) _

-- ---- the work area
-- It has an entry for each page, and the entry at a mark's page is the mark's role.

pub roles-marks : (s : Store) → roles s ≡ map (λ p. role_at p (marks s)) (from 0 s.n)
unfolding roles marks
roles-marks s = refl

pub length-roles : (s : Store) → length (roles s) ≡ s.n
length-roles s = rw roles-marks (length-map (from 0 s.n) _ ∙ length_from 0 s.n)

role_at-here : (m : Mark) (ms : List Mark) → role_at m.page (m ∷ ms) ≡ m.role
unfolding role_at
role_at-here m ms = choose-true _ _ _ (eq-eqb m.page m.page refl)

role_at-there : (p : ℕ) (m : Mark) (ms : List Mark) → (m.page ≡ p → ⊥) → role_at p (m ∷ ms) ≡ role_at p ms
unfolding role_at
role_at-there p m ms n = choose-false _ _ _ (ne_eqb p m.page (λ e. n (sym e)))

module _ (E : Edition) (s : Store) (t : valid E s ≡ true) where
  pub role_at-own : All (λ m. role_at m.page (marks s) ≡ m.role) (marks s)
  role_at-own = found-own (λ m. m.page) (λ m. m.role) role_at role_at-here role_at-there (marks s) (rw (places-marks s) (page-most E s t))

  below : All (λ m. m.page < s.n) (marks s)
  below = all_of_map (λ (p : ℕ). p < s.n) (λ m. m.page) (marks s) (rw (places-marks s) (page-below E s t))

  pub roles-own : All (λ m. get_or (roles s) m.page 0 ≡ m.role) (marks s)
  roles-own =
      all_of (λ m k. ap (λ (l : List ℕ). get_or l m.page 0) (roles-marks s) ∙ get_or-map_from _ 0 0 s.n m.page k.0 ∙ rw zero-add k.1)
      (all_both below role_at-own)

  -- ---- check's counts

  pub times-roles : (r : ℕ) → times r (roles s) ≡ total (λ m. is r m.role) (marks s)
  times-roles r =
      let w : ℕ → ℕ = λ p. is r (role_at p (marks s)) in
      let each : All (λ p. times p (places (marks s)) ≡ 1) (from 0 s.n) =
      all_from 0 s.n (λ p g h. rw (places-marks s) (page-once E s t p (omega arith))) in
      let other : All (λ p. times p (from 0 s.n) ≡ 1) (places (marks s)) =
      rw (places-marks s) (all_of (λ p h. times-from p 0 s.n (omega arith) (omega arith)) (page-below E s t)) in
      rw roles-marks (times-total r _ ∙ total-map (is r) (λ p. role_at p (marks s)) (from 0 s.n))
      ∙ total-numbers w (from 0 s.n) (places (marks s)) each other
      ∙ total-map w (λ m. m.page) (marks s) ∙ total_ext _ _ (all_of (λ m e. rw e) role_at-own)

  header_first : (r : ℕ) → total (λ m. is r m.role) (marks s) ≡ is r 5 + total (λ m. is r m.role) (walked s)
  unfolding marks marked
  header_first r = total-cons (λ m. is r m.role) _ (walked s)

  -- of the roles 1 to 4: those of the walk
  pub roles-walked : (r : ℕ) → r ≤ 4 → times r (roles s) ≡ total (λ m. is r m.role) (walked s)
  roles-walked r h = times-roles r ∙ header_first r ∙ omega (arith, is-other r 5 (λ e. omega arith))

  -- one header
  pub roles_header : times 5 (roles s) ≡ 1
  roles_header =
      times-roles 5 ∙ header_first 5
      ∙ omega (arith, is_same 5 5 refl, total-none (λ m. is 5 m.role) (all_of (λ m k. is-other 5 m.role (λ e. omega arith)) (walked-roles s)))

  -- and every page is counted once
  pub roles-all : times 1 (roles s) + times 2 (roles s) + times 3 (roles s) + times 4 (roles s) + times 5 (roles s) ≡ s.n
  roles-all =
      let ms = walked s in
      let w : ℕ → Mark → ℕ = λ r m. is r m.role in
      let e : total (λ m. w 1 m + w 2 m + w 3 m + w 4 m) ms ≡ length ms =
      total_ext _ (λ m. 1) (all_of (λ m k. one-of_four m.role k.0 k.1) (walked-roles s)) ∙ sym (length-total ms) in
      omega (
        arith,
        e,
        length-met s,
        (met-each E s t).size,
        (clauses E s t).pages.0,
        roles_header,
        roles-walked 1 (omega arith),
        roles-walked 2 (omega arith),
        roles-walked 3 (omega arith),
        roles-walked 4 (omega arith),
        total-add (λ m. w 1 m + w 2 m + w 3 m) (w 4) ms,
        total-add (λ m. w 1 m + w 2 m) (w 3) ms,
        total-add (w 1) (w 2) ms,
      )
