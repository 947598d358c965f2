-- Every walk of check marks the pages that the model's walk lists, in its order. Marking a list comes through exactly if its pages are the
-- image's, new and each listed once; so a mark is what was there, 0, and the role: from a fresh work area come the model's roles.
use mathlib.Core.Path.{◌≡◌, refl, sym, ap, ◌∙◌}
use mathlib.Core.List.{List, [], ◌∷◌, ◌++◌}
use mathlib.Core.Option.{Option, none, some, some-injective}
use Prim.Native.Nat.{ℕ, zero, suc, ◌+◌, ◌≤◌, ◌<◌}
use native.Mathlib.Omega.{arith}
use lib.ListN.{length, get_or, set, length-set}
use lib.Seq.{get_or-set_same, get_or-set_other, ext_get_or}
use lib.Dec.{eqb}
use borrow.Author.Tests.{eqb-true, eqb-false, eq-eqb, ne_eqb}
use Rattle.octets.proofs.Choice.{choose-true, choose-false}
use Rattle.model.specs.Lists.{times}
use Rattle.model.specs.Types.{Mark, marked}
use Rattle.model.specs.Refusals.{role_at}
use Rattle.laws_image.proofs.Numbered.{places}
use Rattle.checking.specs.Steps.{and_then}
use Rattle.checking.specs.Walk.{meet}
use Rattle.checking.proofs.Steps.{then_some, some_then, meet-meets, meets-meet}
use Rattle.model.proofs.Each.{All, nil, cons, all_cons}
use Rattle.model.proofs.Sums.{is_same, is-other, times-nil, times-cons}
use Rattle.model.proofs.Tests.{cases}

unfoldable pub marking : ℕ → List Mark → List ℕ → Option (List ℕ)
marking n [] work = some work
marking n (m ∷ ms) work = and_then (meet n m.role m.page work) (marking n ms)

-- ---- one list after another

pub marking-none : (n : ℕ) (work : List ℕ) → marking n [] work ≡ some work
unfolding marking
marking-none n work = refl

pub marking-more : (n : ℕ) (m : Mark) (ms : List Mark) (work : List ℕ) → marking n (m ∷ ms) work ≡ and_then (meet n m.role m.page work) (marking n ms)
unfolding marking
marking-more n m ms work = refl

pub marking-append : (n : ℕ) (ms ks : List Mark) (work : List ℕ) → marking n (ms ++ ks) work ≡ and_then (marking n ms work) (marking n ks)
unfolding marking and_then
marking-append n [] ks work = refl
marking-append n (m ∷ ms) ks work = go (meet n m.role m.page work) (marking-append n ms ks)
  where
    go : (o : Option (List ℕ)) → ((met : List ℕ) → marking n (ms ++ ks) met ≡ and_then (marking n ms met) (marking n ks))
        → and_then o (marking n (ms ++ ks)) ≡ and_then (and_then o (marking n ms)) (marking n ks)
    go none f = refl
    go (some met) f = f met

module _ (n : ℕ) (work : List ℕ) {met : List ℕ} where
  pub marks-join : (ms ks : List Mark) {on : List ℕ} → marking n ms work ≡ some on → marking n ks on ≡ some met → marking n (ms ++ ks) work ≡ some met
  marks-join ms ks e f = marking-append n ms ks work ∙ then_some (marking n ms work) (marking n ks) e f

  pub marks-part : (ms ks : List Mark) → marking n (ms ++ ks) work ≡ some met
      → (on : List ℕ) × ((marking n ms work ≡ some on) × (marking n ks on ≡ some met))
  marks-part ms ks e = some_then (marking n ms work) (marking n ks) met (sym (marking-append n ms ks work) ∙ e)

  -- a page and those behind it
  pub mark_then : (role p : ℕ) (ms : List Mark) {on : List ℕ} → meet n role p work ≡ some on → marking n ms on ≡ some met
      → marking n (marked role p ∷ ms) work ≡ some met
  unfolding marking marked
  mark_then role p ms e f = then_some (meet n role p work) (marking n ms) e f

  pub then_mark : (role p : ℕ) (ms : List Mark) → marking n (marked role p ∷ ms) work ≡ some met
      → (on : List ℕ) × ((meet n role p work ≡ some on) × (marking n ms on ≡ some met))
  unfolding marking marked
  then_mark role p ms e = some_then (meet n role p work) (marking n ms) met e

-- ---- what a list of marks makes of a work area

pub record Noted (n : ℕ) (ms : List Mark) (work met : List ℕ) : Type 0 where
  pub size : length met ≡ length work
  pub pages : All (λ p. (1 ≤ p) × (p < n)) (places ms)
  pub once : (p : ℕ) → times p (places ms) ≤ 1
  pub new : (p : ℕ) → 1 ≤ times p (places ms) → get_or work p 0 ≡ 0
  pub roles : (p : ℕ) → get_or met p 0 ≡ get_or work p 0 + role_at p ms

-- marks of roles that there are
abbrev pub Named : List Mark → Type 0
Named ms = All (λ m. 1 ≤ m.role) ms

role_at-none : (p : ℕ) → role_at p [] ≡ 0
unfolding role_at
role_at-none p = refl

pub role_at-here : (p : ℕ) (m : Mark) (ms : List Mark) → p ≡ m.page → role_at p (m ∷ ms) ≡ m.role
unfolding role_at
role_at-here p m ms e = choose-true _ _ _ (eq-eqb p m.page e)

pub role_at-there : (p : ℕ) (m : Mark) (ms : List Mark) → (p ≡ m.page → ⊥) → role_at p (m ∷ ms) ≡ role_at p ms
unfolding role_at
role_at-there p m ms n = choose-false _ _ _ (ne_eqb p m.page n)

pub by_same : {P : Type 0} (p q : ℕ) → (p ≡ q → P) → ((p ≡ q → ⊥) → P) → P
by_same p q f g = cases (eqb p q) (λ t. f (eqb-true p q t)) (λ t. g (eqb-false p q t))

-- a page without a mark has role 0, and one with a mark another
pub role_at-times : (p : ℕ) (ms : List Mark) → times p (places ms) ≡ 0 → role_at p ms ≡ 0
role_at-times p [] z = role_at-none p
role_at-times p (m ∷ ms) z =
    by_same p m.page (λ e. absurd (omega (arith, times-cons p m.page (places ms), is_same p m.page e)))
    (λ o. role_at-there p m ms o ∙ role_at-times p ms (omega (arith, times-cons p m.page (places ms))))

pub times-role_at : (p : ℕ) {ms : List Mark} → Named ms → 1 ≤ times p (places ms) → 1 ≤ role_at p ms
times-role_at p nil h = absurd (omega (arith, times-nil p))
times-role_at p (cons {x = m} {xs = ms} r rs) h =
    by_same p m.page (λ e. rw (role_at-here p m ms e) r)
    (λ o. rw (role_at-there p m ms o) (times-role_at p rs (omega (arith, times-cons p m.page (places ms), is-other p m.page o))))

-- after a mark: the page of the mark, and the others
module _ (work : List ℕ) (m : Mark) (ms : List Mark) (h : m.page < length work) where
  abbrev after : List ℕ
  after = set work m.page m.role

  at_own : get_or after m.page 0 ≡ m.role
  at_own = get_or-set_same work m.page m.role 0 h

  at_other : (p : ℕ) → (p ≡ m.page → ⊥) → get_or after p 0 ≡ get_or work p 0
  at_other p o = get_or-set_other work m.page p m.role 0 o

  module _ {n : ℕ} {met : List ℕ} where
    noted_more : 1 ≤ m.role → 1 ≤ m.page → m.page < n → get_or work m.page 0 ≡ 0 → Noted n ms after met → Noted n (m ∷ ms) work met
    noted_more r g l z k =
        let none : times m.page (places ms) ≡ 0 =
        few (times m.page (places ms)) (λ s. let z : get_or after m.page 0 ≡ 0 = k.new m.page s in omega (arith, at_own)) in
        record {
          size = k.size ∙ length-set work m.page m.role;
          pages = cons {x = m.page} (g, l) k.pages;
          once = λ p. by_same p m.page
              (λ e. rw e (omega (arith, times-cons m.page m.page (places ms), is_same m.page m.page refl)))
              (λ o. omega (arith, times-cons p m.page (places ms), is-other p m.page o, k.once p));
          new = λ p s. by_same p m.page (λ e. rw e z)
              (λ o. sym (at_other p o) ∙ k.new p (omega (arith, times-cons p m.page (places ms), is-other p m.page o)));
          roles = λ p. by_same p m.page
              (λ e. rw e (omega (arith, k.roles m.page, at_own, role_at-times m.page ms none, role_at-here m.page m ms refl)))
              (λ o. omega (arith, k.roles p, at_other p o, role_at-there p m ms o));
        }
      where
        few : (x : ℕ) → (1 ≤ x → ⊥) → x ≡ 0
        few zero f = refl
        few (suc x) f = absurd (f (omega arith))

    noted_less : Noted n (m ∷ ms) work met → Noted n ms after met
    noted_less k =
        let none : times m.page (places ms) ≡ 0 =
        omega (arith, k.once m.page, times-cons m.page m.page (places ms), is_same m.page m.page refl) in
        record {
          size = k.size ∙ sym (length-set work m.page m.role);
          pages = (all_cons k.pages).1;
          once = λ p. omega (arith, k.once p, times-cons p m.page (places ms));
          new = λ p s. by_same p m.page (λ e. absurd (omega (arith, ap (λ (q : ℕ). times q (places ms)) e)))
              (λ o. at_other p o ∙ k.new p (omega (arith, times-cons p m.page (places ms))));
          roles = λ p. by_same p m.page
              (λ e. rw e (omega (arith, k.roles m.page, own_new k, at_own, role_at-times m.page ms none, role_at-here m.page m ms refl)))
              (λ o. omega (arith, k.roles p, at_other p o, role_at-there p m ms o));
        }
      where
        own_new : Noted n (m ∷ ms) work met → get_or work m.page 0 ≡ 0
        own_new k = k.new m.page (omega (arith, times-cons m.page m.page (places ms), is_same m.page m.page refl))

pub marking_noted : (n : ℕ) {ms : List Mark} (work met : List ℕ) → Named ms → n ≤ length work → marking n ms work ≡ some met → Noted n ms work met
marking_noted n work met nil l e =
    let s : work ≡ met = some-injective _ _ (sym (marking-none n work) ∙ e) in
    record {
      size = rw s;
      pages = nil;
      once = λ p. omega (arith, times-nil p);
      new = λ p h. absurd (omega (arith, times-nil p));
      roles = λ p. omega (arith, role_at-none p, ap (λ (w : List ℕ). get_or w p 0) s);
    }
marking_noted n work met (cons {x = m} {xs = ms} r rs) l e =
    let k = some_then (meet n m.role m.page work) (marking n ms) met (sym (marking-more n m ms work) ∙ e) in
    let w = meet-meets n m.role m.page work k.0 k.1.0 in
    let h : m.page < length work = omega arith in
    let q : marking n ms (set work m.page m.role) ≡ some met = rw w.now k.1.1 in
    noted_more work m ms h r w.some-page w.of_image w.new (marking_noted n (set work m.page m.role) met rs (rw length-set l) q)

pub noted_marking : (n : ℕ) (ms : List Mark) (work met : List ℕ) → n ≤ length work → Noted n ms work met → marking n ms work ≡ some met
noted_marking n [] work met l k =
    marking-none n work ∙ ap {B = Option (List ℕ)} some (ext_get_or 0 work met (sym k.size) (λ i h. omega (arith, k.roles i, role_at-none i)))
noted_marking n (m ∷ ms) work met l k =
    let g = (all_cons k.pages).0 in
    let h : m.page < length work = omega arith in
    let z : get_or work m.page 0 ≡ 0 = k.new m.page (omega (arith, times-cons m.page m.page (places ms), is_same m.page m.page refl)) in
    marking-more n m ms work
    ∙ then_some _ (marking n ms) (meets-meet (record { some-page = g.0; of_image = g.1; new = z; now = refl }))
    (noted_marking n ms (set work m.page m.role) met (rw length-set l) (noted_less work m ms h k))
