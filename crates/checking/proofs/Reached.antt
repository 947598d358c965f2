-- What the walk of a tree says of it: its pages stand, its leaves are linked with those before it, its nodes are full, its keys in order, and its
-- pages are marked. All but the last field is of the tree and not of the work area.
use mathlib.Core.Path.{◌≡◌}
use mathlib.Core.Bool.{Bool, true, false}
use mathlib.Core.List.{List}
use mathlib.Core.Option.{some}
use Prim.Native.Nat.{ℕ, ◌+◌}
use lib.ListN.{length}
use Rattle.model.specs.Edition.{Edition}
use Rattle.model.specs.Types.{Tree, entries, walk}
use Rattle.model.specs.Sizes.{leaf_least, inner_least}
use Rattle.model.specs.Image.{first_leaf, last_leaf, tree_pages}
use Rattle.model.specs.Accept.{all_rising}
use Rattle.laws_image.proofs.Standing.{Standing}
use Rattle.laws_order.specs.Line.{line}
use Rattle.laws_size.proofs.Full.{Full}
use Rattle.checking.specs.Walk.{State, follows}
use Rattle.checking.proofs.Marking.{marking}
use Rattle.checking.proofs.Between.{Between}

-- "a leaf that isn't the root costs at least 125; an inner node has 7 to 14 records, as root 1 to 14"
abbrev pub least_cost : Bool → ℕ
least_cost true = 0
least_cost false = leaf_least

abbrev pub least_records : Bool → ℕ
least_records true = 1
least_records false = inner_least

pub record Reached (E : Edition) (n : ℕ) (ps : List (List ℕ)) (h : ℕ) (root : Bool) (low high : List ℕ) (x : Tree h) (t to : State) : Type 0 where
  pub stands : Standing ps (tree_pages E h t.last to.next x)
  pub joined : follows t (first_leaf h x) ≡ true
  pub ends : to.last ≡ last_leaf h x
  pub counts : to.entries ≡ t.entries + length (entries h x)
  pub full : Full E.usable h (least_cost root) (least_records root) x
  pub rises : all_rising h x ≡ true
  pub order : Between low high (line h x)
  pub marks : marking n (walk h x) t.work ≡ some to.work
