-- The line of a tree, whose entries are the map; around a place, it is what is before, what stands there and what is after.
use mathlib.Core.Path.{◌≡◌, refl}
use mathlib.Core.List.{◌++◌, map}
use Prim.Native.Nat.{ℕ, zero, suc}
use Rattle.model.specs.Lists.{gather}
use Rattle.model.specs.Types.{Leaf, Inner, Tree, Store, across, entries, to_map}
use Rattle.model.specs.Context.{Context, plug}
use Rattle.laws_order.specs.Reading.{silent, strung}
use Rattle.laws_order.specs.Line.{real, Sorted, Rising, only, reals, fence, line, of_store, ahead, behind}
use Rattle.laws_order.proofs.Items.{reals-map, reals-rising}
use Rattle.laws_order.proofs.Reading.{plug_reads, strung-of}

pub line_up : (h : ℕ) (t : Inner (Tree h)) → line (suc h) t ≡ strung fence (line h) t
unfolding line
line_up h t = refl

pub line-leaf : (l : Leaf) → line 0 l ≡ map real (entries 0 l)
unfolding line
line-leaf l = refl

pub plug-line : {d h : ℕ} (c : Context d h) (t : Tree h) → line d (plug c t) ≡ ahead c ++ (line h t ++ behind c)
plug-line c t = plug_reads fence line line_up c t

-- Its entries -----------------------------------------------------------------------------------------------------------

pub line-reals : (h : ℕ) (t : Tree h) → reals (line h t) ≡ entries h t
unfolding line entries across reals gather strung
line-reals zero t = reals-map (entries zero t)
line-reals (suc h) t = strung-of only fence (line h) silent (entries h) (λ k. refl) (line-reals h) t

pub reals-store : (s : Store) → reals (of_store s) ≡ to_map s
unfolding of_store to_map
reals-store s = line-reals s.depth s.root

pub map-rising : (s : Store) → Sorted (of_store s) → Rising (to_map s)
map-rising s o = rw (reals-store s) at (reals-rising (of_store s) o)
