-- What growing takes: a node that splits takes the first free page, and it splits exactly if it was full, so `growth` counts the pages taken off the free list.
use mathlib.Core.Path.{◌≡◌, refl, sym, ◌∙◌}
use mathlib.Core.List.{List, [], ◌∷◌, tail}
use Prim.Native.Nat.{ℕ, suc, ◌+◌, ◌≤◌, ◌<◌}
use native.Mathlib.Nat.{zero-add}
use native.Mathlib.Omega.{arith}
use lib.ListN.{length, drop, length-drop}
use lib.Seq.{drop-drop}
use Rattle.octets.proofs.Choice.{either_by}
use Rattle.model.specs.Lists.{head_or}
use Rattle.model.specs.Types.{Sep, Inner, Tree}
use Rattle.model.specs.Sizes.{inner_least, inner_most}
use Rattle.model.specs.Context.{Left, Frame, Context, top, under, close}
use Rattle.model.specs.InLeaf.{Grown, one, two}
use Rattle.model.specs.Growing.{Step, split_right, grown, grow_step, new_root, grow_up, growth}
use Rattle.model.proofs.Tests.{leb_iff, leb-not}
use Rattle.model.proofs.Lists.{drop-tail}

pub close-count : {A : Type 0} (p : ℕ) (ls : List (Left A)) (a : A) (rs : List (Sep A)) → length (close p ls a rs).rest ≡ length ls + length rs
unfolding close
close-count p [] a rs = sym (zero-add _)
close-count p (l ∷ ls) a rs = omega (arith, close-count p ls l.child (record { key = l.key; child = a } ∷ rs))

-- ---- growth
-- One more than above for a full node, and none for another.

pub growth-full : {d h : ℕ} (f : Frame (Tree h)) (c : Context d (suc h)) → inner_most ≤ length f.lefts + length f.rights → growth (under f c) ≡ suc (growth c)
unfolding growth
growth-full f c b = either_by (λ (n : ℕ). n ≡ suc (growth c)) _ _ _ (λ e. refl) (λ e. absurd (omega (arith, leb-not inner_most (length f.lefts + length f.rights) e)))

growth-some : {d h : ℕ} (f : Frame (Tree h)) (c : Context d (suc h)) → length f.lefts + length f.rights < inner_most → growth (under f c) ≡ 0
unfolding growth
growth-some f c b = either_by (λ (n : ℕ). n ≡ 0) _ _ _ (λ e. absurd (omega (arith, (leb_iff inner_most (length f.lefts + length f.rights)).0 e))) (λ e. refl)

-- the pages that a node in its place still takes
unfoldable pub asks : {B : Type 0} {d h : ℕ} → Context d h → Grown B → ℕ
asks c (one a) = 0
asks c (two a k b) = growth c

-- ---- one step up
-- None or one page is taken, and the rest is left to the nodes above.

pub record Takes {d h : ℕ} (c : Context d (suc h)) (asked : ℕ) (free : List ℕ) (x : Step (Grown (Inner (Tree h)))) : Type 0 where
  pub j : ℕ
  pub rest : asked ≡ j + asks c x.node
  pub left : x.free ≡ drop j free

split-asks : {A : Type 0} {d h : ℕ} (c : Context d h) (q : ℕ) (t : Inner A) (ss : List (Sep A)) → 1 ≤ length ss → asks c (split_right q t ss) ≡ growth c
unfolding split_right asks
split-asks c q t [] h = absurd (omega arith)
split-asks c q t (s ∷ ss) h = refl

some_right : {A : Type 0} (ss : List A) → inner_most < length ss → 1 ≤ length (drop inner_least ss)
unfolding inner_least inner_most
some_right ss h = omega (arith, length-drop 7 ss)

pub step_takes : {d h : ℕ} (f : Frame (Tree h)) (c : Context d (suc h)) (g : Grown (Tree h)) (free : List ℕ) → Takes c (asks (under f c) g) free (grow_step f g free)
unfolding grow_step grown asks
step_takes f c (one a) free = record { j = 0; rest = refl; left = refl }
step_takes {h = h} f c (two a k b) free =
    let t = close f.page f.lefts a (record { key = k; child = b } ∷ f.rights) in
    let n = close-count f.page f.lefts a (record { key = k; child = b } ∷ f.rights) in
    either_by (Takes c (growth (under f c)) free) _ _ _
    (λ e. record { j = 0; rest = growth-some f c (omega (arith, (leb_iff (length t.rest) inner_most).0 e)); left = refl })
    (λ e. let over = leb-not (length t.rest) inner_most e in
    record { j = 1; rest = omega (arith, growth-full f c (omega arith), split-asks c (head_or 0 free) t (drop inner_least t.rest) (some_right t.rest over)); left = drop-tail 0 free })

-- ---- up to the root
-- In all, the first pages of the free list, as many as are asked for.

pub grow_up-free : {d h : ℕ} (n : ℕ) (c : Context d h) (g : Grown (Tree h)) (free : List ℕ) → (grow_up n c g free).free ≡ drop (asks c g) free
unfolding grow_up
grow_up-free {d} n top g free = root-free d g
  where
    root-free : (d : ℕ) (g : Grown (Tree d)) → (new_root n d g free).free ≡ drop (asks {d = d} top g) free
    root-free d (one t) = unfold new_root asks in refl
    root-free d (two a k b) = unfold new_root asks growth in drop-tail 0 free
grow_up-free n (under f c) g free =
    let s = grow_step f g free in
    let t = step_takes f c g free in
    grow_up-free n c s.node s.free ∙ rw (t.left, t.rest) (drop-drop (asks c s.node) t.j free)

-- a leaf that splits takes the first page, and the nodes above it those after it
pub split-free : {d h : ℕ} (n : ℕ) (c : Context d h) (a : Tree h) (k : List ℕ) (b : Tree h) (free : List ℕ)
    → (grow_up n c (two a k b) (tail free)).free ≡ drop (suc (growth c)) free
split-free n c a k b free = grow_up-free n c (two a k b) (tail free) ∙ unfold asks in drop-tail (growth c) free
