-- All that `valid` says beside the order of keys, of an edition's store: put and delete keep it, a fresh store has it, and the number of levels follows from the rest.
use mathlib.Core.Path.{◌≡◌, ap, ◌∙◌}
use mathlib.Core.Logic.{◌↔◌}
use mathlib.Core.Bool.{true, ◌&&◌, and-eq-true_iff}
use mathlib.Core.List.{List, []}
use Prim.Native.Nat.{ℕ, suc, ◌≤◌}
use native.Mathlib.Omega.{arith}
use lib.ListN.{length}
use Rattle.model.specs.Edition.{Edition}
use Rattle.model.specs.Types.{Store, met}
use Rattle.model.specs.Sizes.{value_most}
use Rattle.model.specs.Accept.{all_rising, all_bounded, once_each, valid}
use Rattle.model.specs.InLeaf.{without, found}
use Rattle.model.specs.Change.{formatted, spot, has_room, put_done, delete_done}
use Rattle.model.proofs.Tests.{leb_iff, between_iff}
use Rattle.model.proofs.OnceEach.{Once, once_iff}
use Rattle.model.proofs.Editions.{Lawful}
use Rattle.laws_size.proofs.Full.{KeyFit, FullStore}
use Rattle.laws_size.proofs.Filling.{put_done-full, delete_done-full}
use Rattle.laws_size.proofs.Once.{put_done-once, delete_done-once}
use Rattle.laws_size.proofs.Count.{put-n, delete-n}
use Rattle.laws_size.proofs.Levels.{levels-kept}
use Rattle.laws_size.proofs.Formatted.{formatted-full, formatted-once}
use Rattle.laws_size.proofs.Bools.{full_iff}

pub record Sized (E : Edition) (s : Store) : Type 0 where
  -- "n from 2 to 1,024"
  pub some-pages : 2 ≤ s.n
  pub few-pages : s.n ≤ E.most_pages
  -- lengths, places and fullness
  pub full : FullStore E.usable s
  -- "pages 1 to n−1 are each met exactly once"
  pub once : Once s.n (met s)

-- ---- the changes
-- Each keeps the page count, every node full and each page met once.

kept : (E : Edition) (s t : Store) → t.n ≡ s.n → FullStore E.usable t → ((n : ℕ) → once_each n (met t) ≡ once_each n (met s)) → Sized E s → Sized E t
kept E s t e f same g =
    record {
      some-pages = omega (arith, g.some-pages);
      few-pages = omega (arith, g.few-pages);
      full = f;
      once = (once_iff t.n (met t)).0 (same t.n ∙ (ap (λ (n : ℕ). once_each n (met s)) e ∙ (once_iff s.n (met s)).1 g.once));
    }

module _ (E : Edition) (lawful : Lawful E) where
  pub formatted_sized : (n : ℕ) → 2 ≤ n → n ≤ E.most_pages → Sized E (formatted E.usable n)
  formatted_sized n least few =
      let L = E.usable in
      let room = lawful.room in
      record {
        some-pages = unfold formatted in least;
        few-pages = unfold formatted in few;
        full = formatted-full L n (omega arith);
        once = unfold formatted in (once_iff n (met (formatted L n))).0 (formatted-once L n least);
      }

  pub put_sized : (s : Store) (k v : List ℕ) → KeyFit k → length v ≤ value_most E.usable → has_room E.usable s k v ≡ true
      → found k (without k (spot s k).leaf.cells) ≡ [] → Sized E s → Sized E (put_done E.usable s k v)
  put_sized s k v key value has absent g =
      let L = E.usable in
      let room = lawful.room in
      kept E s (put_done L s k v) (put-n L s k v) (put_done-full L room s k v key value has g.full) (put_done-once L room s k v key value has g.full absent) g

  pub delete_sized : (s : Store) (k : List ℕ) → Sized E s → Sized E (delete_done E.usable s k)
  delete_sized s k g =
      let L = E.usable in
      kept E s (delete_done L s k) (delete-n L s k) (delete_done-full L lawful.room s k g.full) (delete_done-once L s k) g

  -- ---- the test
  -- What it says besides is the order of keys.

  pub valid_iff : (s : Store) → (valid E s ≡ true) ↔ (Sized E s × ((all_rising s.depth s.root && all_bounded s.depth s.root) ≡ true))
  unfolding valid
  valid_iff s =
      let pages = between_iff 2 E.most_pages s.n in
      let full = full_iff E.usable s in
      let once = once_iff s.n (met s) in (
        λ e. let q = simp and-eq-true_iff at e in
            let fits = q.0.0.0.0 in
            let n = pages.0 fits.0.0.0 in (
              record { some-pages = n.0; few-pages = n.1; full = full.0 (simp and-eq-true_iff ((fits.0.1, fits.1), q.0.1)); once = once.0 q.1 },
              simp and-eq-true_iff (q.0.0.0.1, q.0.0.1),
            ),
        λ p. let g = p.0 in
            let o = once.1 g.once in
            let order = simp and-eq-true_iff at p.1 in
            let fits = simp and-eq-true_iff at (full.1 g.full) in
            let levels = (leb_iff (suc s.depth) E.most_levels).1 (levels-kept E lawful s g.full o g.few-pages) in
            simp and-eq-true_iff (((((((pages.1 (g.some-pages, g.few-pages), levels), fits.0.0), fits.0.1), order.0), order.1), fits.1), o),
      )
