-- A work area may go on behind its n entries: the walks are the same there, and leave what stands behind.
use mathlib.Core.Path.{◌≡◌, refl, ◌∙◌}
use mathlib.Core.Bool.{Bool, true, false, ◌&&◌}
use mathlib.Core.List.{List, [], ◌++◌}
use mathlib.Core.Option.{Option, none, some}
use Prim.Native.Nat.{ℕ, zero, suc, ◌-◌, ◌≤◌}
use native.Mathlib.Decide.{dec_le}
use native.Mathlib.Omega.{arith}
use lib.ListN.{length, get_or, set, length-set, get_or-append}
use lib.Seq.{set-append_left}
use lib.Dec.{leb, eqb}
use borrow.Author.Tests.{le-leb, lt-leb}
use Rattle.octets.specs.Choice.{choose}
use Rattle.model.specs.Accept.{between}
use Rattle.model.specs.Sizes.{payload}
use Rattle.model.specs.Layouts.{of_over, of_free}
use Rattle.checking.specs.Steps.{and_then, when}
use Rattle.checking.specs.Walk.{meet, link_walk, chain_walk, free_walk}

module _ (n : ℕ) (rest : List ℕ) where
  -- the first is the second with `rest` behind it
  pub data Longer : Option (List ℕ) → Option (List ℕ) → Type 0 where
    neither : Longer none none
    both : {w : List ℕ} → length w ≡ n → Longer (some (w ++ rest)) (some w)

  then_longer : {m k : Option (List ℕ)} (f : List ℕ → Option (List ℕ)) → Longer m k
      → ((w : List ℕ) → length w ≡ n → Longer (f (w ++ rest)) (f w)) → Longer (and_then m f) (and_then k f)
  unfolding and_then
  then_longer f neither g = neither
  then_longer f (both e) g = g _ e

  when_longer : {m k : Option (List ℕ)} (b : Bool) → Longer m k → Longer (when b m) (when b k)
  unfolding when
  when_longer true l = l
  when_longer false l = neither

  choose_longer : {m k m' k' : Option (List ℕ)} (b : Bool) → Longer m k → Longer m' k' → Longer (choose b m m') (choose b k k')
  unfolding choose
  choose_longer true l l' = l
  choose_longer false l l' = l'

  outside : (p : ℕ) (b : Bool) → n ≤ p → (leb 1 p && leb p (n - 1)) && b ≡ false
  outside zero b h = refl
  outside (suc p) b h =
      let a : leb 1 (suc p) ≡ true = le-leb _ _ (omega arith) in
      let e : leb (suc p) (n - 1) ≡ false = lt-leb _ _ (omega arith) in
      rw (a, e)

  pub meet_longer : (role p : ℕ) (w : List ℕ) → length w ≡ n → Longer (meet n role p (w ++ rest)) (meet n role p w)
  unfolding meet between when
  meet_longer role p w e = go (dec_le n p)
    where
      go : Dec (n ≤ p) → Longer (when ((leb 1 p && leb p (n - 1)) && eqb (get_or (w ++ rest) p 0) 0) (some (set (w ++ rest) p role))) (when ((leb 1 p && leb p (n - 1)) && eqb (get_or w p 0) 0) (some (set w p role)))
      go (yes h) = rw (outside p (eqb (get_or (w ++ rest) p 0) 0) h, outside p (eqb (get_or w p 0) 0) h) neither
      go (no h) =
          let g : get_or (w ++ rest) p 0 ≡ get_or w p 0 = get_or-append w rest 0 p (omega arith) in
          let s : set (w ++ rest) p role ≡ set w p role ++ rest = set-append_left w rest p role (omega arith) in
          rw (g, s) (when_longer _ (both (length-set w p role ∙ e)))

  module _ (ps : List (List ℕ)) where
    pub link_longer : (held p : ℕ) (w : List ℕ) → length w ≡ n → Longer (link_walk 512 n ps held p (w ++ rest)) (link_walk 512 n ps held p w)
    unfolding link_walk
    link_longer held p w e = then_longer _ (meet_longer 3 p w e) (λ m f. when_longer _ (both f))

    pub chain_longer : (k v p : ℕ) (w : List ℕ) → length w ≡ n → Longer (chain_walk 512 n ps k v p (w ++ rest)) (chain_walk 512 n ps k v p w)
    unfolding chain_walk
    chain_longer zero v p w e = both e
    chain_longer (suc zero) v p w e = then_longer _ (link_longer v p w e) (λ m f. when_longer _ (both f))
    chain_longer (suc (suc k)) v p w e = then_longer _ (link_longer (payload 512) p w e) (λ m f. chain_longer (suc k) (v - payload 512) (of_over (get_or ps p [])).next m f)

    pub free_longer : (k p : ℕ) (w : List ℕ) → length w ≡ n → Longer (free_walk 512 n ps k p (w ++ rest)) (free_walk 512 n ps k p w)
    unfolding free_walk
    free_longer zero p w e = when_longer _ (both e)
    free_longer (suc k) p w e = choose_longer _ (both e) (then_longer _ (meet_longer 4 p w e) (λ m f. when_longer _ (free_longer k (of_free (get_or ps p [])) m f)))
