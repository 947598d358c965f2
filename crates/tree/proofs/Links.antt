-- A page is met, is what it should be by itself and, in a chain, holds what it should: the walk goes on or stops by the code's tests.
use mathlib.Core.Path.{◌≡◌, refl, sym, ap, subst, ◌∙◌}
use mathlib.Core.Bool.{Bool, true, false, ◌&&◌, and-eq-true_iff, false≢true}
use mathlib.Core.List.{List, []}
use Prim.Native.Nat.{ℕ}
use mathlib.Core.Option.{Option, none, some}
use lib.ListN.{length, get_or}
use lib.Dec.{eqb}
use borrow.Author.Tests.{le-leb, leb-true, eq-eqb, ne_eqb}
use Rattle.octets.specs.Says.{Says}
use Rattle.octets.specs.Numbers.{word16}
use Rattle.model.specs.Lists.{same}
use Rattle.model.specs.Layouts.{to_over, of_over, to_free, of_free}
use Rattle.model.proofs.Lists.{same_refl, same_eq}
use Rattle.checking.specs.Alone.{over_alone, free_alone}
use Rattle.checking.specs.Steps.{and_then, when}
use Rattle.checking.specs.Walk.{meet, link_walk}
use Rattle.page.specs.Overflow.{OverBytes}
use Rattle.page.specs.Free.{FreeBytes}

-- two flags that say the same are equal
says-one : {P : Type 0} (a b : Bool) → Says a P → Says b P → a ≡ b
says-one true true s t = refl
says-one true false s t = absurd (false≢true (t.whole (s.sound refl)))
says-one false true s t = absurd (false≢true (s.whole (t.sound refl)))
says-one false false s t = refl

over-alone : (page : List ℕ) → length page ≡ 512 → Says (over_alone 512 page) (OverBytes page)
unfolding over_alone
over-alone page l =
    record {
      sound = λ e. let k = simp and-eq-true_iff at e in record { fits = rw l (leb-true _ _ k.0); same = same_eq _ _ k.1 ∙ ap (λ (n : ℕ). to_over n (of_over page)) (sym l) };
      whole = λ o. simp and-eq-true_iff (le-leb _ _ (rw l at o.fits), subst (λ (x : List ℕ). same page x ≡ true) (o.same ∙ ap (λ (n : ℕ). to_over n (of_over page)) l) (same_refl page));
    }

free-alone : (page : List ℕ) → length page ≡ 512 → Says (free_alone 512 page) (FreeBytes page)
unfolding free_alone
free-alone page l =
    record {
      sound = λ e. same_eq _ _ e ∙ ap (λ (n : ℕ). to_free n (of_free page)) (sym l);
      whole = λ o. subst (λ (x : List ℕ). same page x ≡ true) (o ∙ ap (λ (n : ℕ). to_free n (of_free page)) l) (same_refl page);
    }

pub free-tested : (page : List ℕ) (r : Bool) → length page ≡ 512 → Says r (FreeBytes page) → free_alone 512 page ≡ r
free-tested page r l s = says-one _ r (free-alone page l) s

-- none, where one of the two tests fails
and-not : {A : Type 0} (r : Bool) (a b : ℕ) → (r ≡ true → a ≡ b → ⊥) → (x : Option A) → none ≡ when (r && eqb a b) x
unfolding when
and-not true a b f x = rw (ne_eqb a b (f refl))
and-not false a b f x = refl

-- A page of a chain ---------------------------------------------------------------------------------------------------------

module _ (n : ℕ) (ps : List (List ℕ)) (held p : ℕ) (work : List ℕ) where
  pub link-none : none ≡ meet n 3 p work → none ≡ link_walk 512 n ps held p work
  unfolding link_walk and_then
  link-none e = rw (← e)

  module _ (met page : List ℕ) (r : Bool) (e : some met ≡ meet n 3 p work) (q : page ≡ get_or ps p []) (l : length page ≡ 512) (s : Says r (OverBytes page)) where
    tested : when (r && eqb (word16 page 4) held) (some met) ≡ link_walk 512 n ps held p work
    unfolding link_walk and_then
    tested = let t : over_alone 512 page ≡ r = says-one _ r (over-alone page l) s in rw (← e, ← q, t)

    pub link-on : r ≡ true → word16 page 4 ≡ held → some met ≡ link_walk 512 n ps held p work
    unfolding when
    link-on k m = rw (k, eq-eqb _ _ m) at tested

    pub link-stop : (r ≡ true → word16 page 4 ≡ held → ⊥) → none ≡ link_walk 512 n ps held p work
    unfolding when
    link-stop f = and-not r (word16 page 4) held f (some met) ∙ tested
