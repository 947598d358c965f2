-- In a fresh work area only the header has a role. Where a list of marks comes through and leaves no page without a role, each page but the
-- header is listed once, and the roles are those of the list; and the other way round.
use mathlib.Core.Path.{◌≡◌, refl, sym, ap, ◌∙◌}
use mathlib.Core.Bool.{true, not, and-eq-true_iff}
use mathlib.Core.List.{List, [], ◌∷◌, map}
use mathlib.Core.Option.{some}
use Prim.Native.Nat.{ℕ, zero, suc, ◌+◌, ◌-◌, ◌≤◌, ◌<◌}
use native.Mathlib.Nat.{zero-add}
use native.Mathlib.Omega.{arith}
use lib.ListN.{length, get_or, take, drop, length-append, length-drop, length-map, get_or-append}
use lib.Seq.{get_or-append-add, get_or-drop, ext_get_or}
use lib.Dec.{eqb, leb}
use borrow.Author.Tests.{eqb-false, ne_eqb, leb-true, leb-false}
use Rattle.octets.specs.Runs.{zeros}
use Rattle.octets.proofs.Over.{length-zeros, get_or-zeros}
use Rattle.model.specs.Lists.{every, from, times}
use Rattle.model.specs.Types.{Mark, marked}
use Rattle.model.specs.Accept.{once_each}
use Rattle.model.specs.Refusals.{role_at, entered}
use Rattle.model.proofs.Tests.{not-true, and-true, cases}
use Rattle.model.proofs.Lists.{length-total, length_from, get_or-map_from}
use Rattle.laws_image.proofs.Numbered.{places}
use Rattle.checking.proofs.Marking.{marking, Noted, Named, role_at-times, times-role_at, marking_noted, noted_marking, role_at-here, role_at-there, by_same}
use Rattle.model.proofs.Each.{All, all_of, all_from}
use Rattle.model.proofs.OnceEach.{Once, once_zero, once-above, once_iff}
use Rattle.model.proofs.Sums.{times-from, times_none, total-numbers}

-- ---- roles entered

module _ (roles work : List ℕ) (fits : length roles ≤ length work) where
  pub length-entered : length (entered roles work) ≡ length work
  unfolding entered
  length-entered = simp (length-append, length-drop) (omega arith)

  pub entered-first : (p : ℕ) → p < length roles → get_or (entered roles work) p 0 ≡ get_or roles p 0
  unfolding entered
  entered-first p h = get_or-append roles _ 0 p h

  pub entered-rest : (p : ℕ) → length roles ≤ p → get_or (entered roles work) p 0 ≡ get_or work p 0
  unfolding entered
  entered-rest p h =
      let e : length roles + (p - length roles) ≡ p = omega arith in
      rw e at (get_or-append-add roles (drop (length roles) work) (p - length roles) 0 ∙ get_or-drop (length roles) work (p - length roles) 0)

-- ---- no page without a role

pub every-role : (n : ℕ) (work : List ℕ) → every (λ r. not (eqb r 0)) (take n work) ≡ true → (p : ℕ) → p < n → p < length work → 1 ≤ get_or work p 0
unfolding every
every-role zero work t p h l = absurd (omega arith)
every-role (suc n) [] t p h l = absurd (omega arith)
every-role (suc n) (r ∷ work) t zero h l =
    let k = simp and-eq-true_iff at t in
    let z : r ≡ 0 → ⊥ = eqb-false r 0 (not-true (eqb r 0) k.0) in
    omega arith
every-role (suc n) (r ∷ work) t (suc p) h l = let k = simp and-eq-true_iff at t in every-role n work k.1 p (omega arith) (omega arith)

pub role-every : (n : ℕ) (work : List ℕ) → ((p : ℕ) → p < n → p < length work → 1 ≤ get_or work p 0) → every (λ r. not (eqb r 0)) (take n work) ≡ true
unfolding every
role-every zero work f = refl
role-every (suc n) [] f = refl
role-every (suc n) (r ∷ work) f =
    let h : 1 ≤ r = f 0 (omega arith) (omega arith) in
    and-true (not (eqb r 0)) _ (rw (ne_eqb r 0 (λ e. omega arith))) (role-every n work (λ p h l. f (suc p) (omega arith) (omega arith)))

-- ---- the pages, each once

pub each-once : (n : ℕ) (ps : List ℕ) → 1 ≤ n → All (λ p. (1 ≤ p) × (p < n)) ps → ((p : ℕ) → 1 ≤ p → p < n → times p ps ≡ 1) → once_each n ps ≡ true
each-once n ps one within each =
    let row = from 1 (n - 1) in
    let count : length ps ≡ n - 1 =
    length-total ps
    ∙ total-numbers (λ p. 1) ps row (all_of (λ p h. times-from p 1 (n - 1) h.0 (omega arith)) within) (all_from 1 (n - 1) (λ p g h. each p g (omega arith)))
    ∙ sym (length-total row) ∙ length_from 1 (n - 1) in
    (once_iff n ps).1 (record { size = count; each = each; within = within })

-- ---- from a fresh work area

module _ (n : ℕ) (ms : List Mark) (work : List ℕ) (some-page : 1 ≤ n) (room : n ≤ length work) (named : Named ms) where
  abbrev start : List ℕ
  start = 5 ∷ zeros (n - 1)

  abbrev ends : List ℕ
  ends = map (λ p. role_at p (marked 5 0 ∷ ms)) (from 0 n)

  length-start : length start ≡ n
  length-start = omega (arith, length-zeros (n - 1))

  length-ends : length ends ≡ n
  length-ends = length-map (from 0 n) _ ∙ length_from 0 n

  start_first : get_or (entered start work) 0 0 ≡ 5
  start_first = entered-first start work (omega (arith, length-start)) 0 (omega (arith, length-start))

  start-page : (p : ℕ) → 1 ≤ p → p < n → get_or (entered start work) p 0 ≡ 0
  start-page zero g h = absurd (omega arith)
  start-page (suc p) g h = entered-first start work (omega (arith, length-start)) (suc p) (omega (arith, length-start)) ∙ get_or-zeros (n - 1) p

  start-rest : (p : ℕ) → n ≤ p → get_or (entered start work) p 0 ≡ get_or work p 0
  start-rest p h = entered-rest start work (omega (arith, length-start)) p (omega (arith, length-start))

  ends-page : (p : ℕ) → p < n → get_or (entered ends work) p 0 ≡ role_at p (marked 5 0 ∷ ms)
  ends-page p h =
      entered-first ends work (omega (arith, length-ends)) p (omega (arith, length-ends))
      ∙ get_or-map_from (λ q. role_at q (marked 5 0 ∷ ms)) 0 0 n p h ∙ rw zero-add

  ends-rest : (p : ℕ) → n ≤ p → get_or (entered ends work) p 0 ≡ get_or work p 0
  ends-rest p h = entered-rest ends work (omega (arith, length-ends)) p (omega (arith, length-ends))

  header_role : (p : ℕ) → p ≡ 0 → role_at p (marked 5 0 ∷ ms) ≡ 5
  unfolding marked
  header_role p e = role_at-here p (marked 5 0) ms e

  other-role : (p : ℕ) → (p ≡ 0 → ⊥) → role_at p (marked 5 0 ∷ ms) ≡ role_at p ms
  unfolding marked
  other-role p o = role_at-there p (marked 5 0) ms o

  -- what the marks add to the start is the end
  added : All (λ p. (1 ≤ p) × (p < n)) (places ms) → (p : ℕ) → get_or (entered ends work) p 0 ≡ get_or (entered start work) p 0 + role_at p ms
  added within p =
      cases (leb n p)
      (λ t. let h : n ≤ p = leb-true n p t in
      omega (arith, ends-rest p h, start-rest p h, role_at-times p ms (times_none p (all_of (λ q w e. omega arith) within))))
      (λ t. let h : p < n = leb-false n p t in
      by_same p 0
      (λ e. let z = role_at-times 0 ms (times_none 0 (all_of (λ q w e. omega arith) within)) in
      rw e (omega (arith, ends-page 0 some-page, header_role 0 refl, start_first)))
      (λ o. omega (arith, ends-page p h, other-role p o, start-page p (omega arith) h)))

  length_both : length (entered ends work) ≡ length (entered start work)
  length_both = length-entered ends work (omega (arith, length-ends)) ∙ sym (length-entered start work (omega (arith, length-start)))

  marked-page : (met : List ℕ) → Noted n ms (entered start work) met → every (λ r. not (eqb r 0)) (take n met) ≡ true
      → (p : ℕ) → 1 ≤ p → p < n → times p (places ms) ≡ 1
  marked-page met k t p g h =
      let l : length met ≡ length work = k.size ∙ length-entered start work (omega (arith, length-start)) in
      let r : 1 ≤ get_or met p 0 = every-role n met t p h (omega arith) in
      by_same (times p (places ms)) 0 (λ z. absurd (omega (arith, k.roles p, start-page p g h, role_at-times p ms z)))
      (λ o. omega (arith, k.once p))

  pub met-once : (met : List ℕ) → marking n ms (entered start work) ≡ some met → every (λ r. not (eqb r 0)) (take n met) ≡ true
      → (once_each n (places ms) ≡ true) × (met ≡ entered ends work)
  met-once met e t =
      let l : n ≤ length (entered start work) = rw (length-entered start work (omega (arith, length-start))) room in
      let k = marking_noted n (entered start work) met named l e in (
        each-once n (places ms) some-page k.pages (marked-page met k t),
        ext_get_or 0 met (entered ends work) (k.size ∙ sym length_both) (λ p h. k.roles p ∙ sym (added k.pages p)),
      )

  times-within : Once n (places ms) → (p : ℕ) → 1 ≤ times p (places ms) → (1 ≤ p) × (p < n)
  times-within o p h =
      cases (leb n p) (λ t. absurd (omega (arith, once-above p (leb-true n p t) o)))
      (λ t. by_same p 0 (λ e. absurd (omega (arith, once_zero o, ap (λ (q : ℕ). times q (places ms)) e))) (λ z. (omega arith, leb-false n p t)))

  times-few : Once n (places ms) → (p : ℕ) → times p (places ms) ≤ 1
  times-few o p =
      cases (leb 1 (times p (places ms)))
      (λ t. let w = times-within o p (leb-true _ _ t) in omega (arith, o.each p w.0 w.1)) (λ t. omega (arith, leb-false 1 (times p (places ms)) t))

  pub once-met : once_each n (places ms) ≡ true
      → (marking n ms (entered start work) ≡ some (entered ends work)) × (every (λ r. not (eqb r 0)) (take n (entered ends work)) ≡ true)
  once-met t =
      let o = (once_iff n (places ms)).0 t in
      let l : n ≤ length (entered start work) = rw (length-entered start work (omega (arith, length-start))) room in
      let k : Noted n ms (entered start work) (entered ends work) =
      record {
        size = length_both;
        pages = o.within;
        once = times-few o;
        new = λ p h. let w = times-within o p h in start-page p w.0 w.1;
        roles = added o.within;
      } in (
        noted_marking n ms (entered start work) (entered ends work) l k,
        role-every n (entered ends work) (λ p h l. by_same p 0 (λ e. rw e (omega (arith, ends-page 0 some-page, header_role 0 refl)))
            (λ z. let r : 1 ≤ role_at p ms = times-role_at p named (omega (arith, o.each p (omega arith) h)) in omega (arith, ends-page p h, other-role p z))),
      )
