-- The clauses of `valid` that do not speak of order, as predicates: how long the parts are, where they stand, and how full each node is.
use mathlib.Core.Path.{◌≡◌}
use mathlib.Core.List.{List}
use Prim.Native.Nat.{ℕ, zero, suc, ◌+◌, ◌*◌, ◌≤◌}
use lib.ListN.{length}
use Rattle.model.specs.Types.{Cell, Leaf, Sep, Inner, Tree, Store}
use Rattle.model.specs.Sizes.{key_most, leaf_least, inner_least, inner_most, leaf_most, value_most, chain_length, cell_length, costs}
use Rattle.model.specs.Context.{Left, Frame, Context, top, under}
use Rattle.model.specs.InLeaf.{Grown, one, two}
use Rattle.model.proofs.Each.{All, Pairwise}

-- ---- lengths
-- Of a key and of a cell.

-- "keys of 1 to 32 bytes"
pub record KeyFit (k : List ℕ) : Type 0 where
  pub some : 1 ≤ length k
  pub few : length k ≤ key_most

-- "values of at most 4,032", with exactly as many overflow pages as they need
pub record CellFit (L : ℕ) (c : Cell) : Type 0 where
  pub key : KeyFit c.key
  pub value : length c.value ≤ value_most L
  pub chain : length c.chain ≡ chain_length L (length c.value)

-- ---- places
-- Of a leaf's cells in its page.

-- between s and e
pub record Inside (s e : ℕ) (c : Cell) : Type 0 where
  pub low : s ≤ c.at
  pub high : c.at + cell_length c ≤ e

pub data Apart (c d : Cell) : Type 0 where
  before : c.at + cell_length c ≤ d.at → Apart c d
  after : d.at + cell_length d ≤ c.at → Apart c d

-- "12+2c at most s, s at most 512", "cells inside s..511 and apart"
pub record Placed (L : ℕ) (l : Leaf) : Type 0 where
  pub low : 12 + 2 * length l.cells ≤ l.start
  pub high : l.start ≤ L
  pub inside : All (Inside l.start L) l.cells
  pub apart : Pairwise Apart l.cells

-- ---- trees
-- The least cost of a leaf and the least number of records of an inner node are arguments: a root has others than the nodes below it.

pub record LeafFull (L least : ℕ) (l : Leaf) : Type 0 where
  pub enough : least ≤ costs l.cells
  pub most : costs l.cells ≤ leaf_most L
  pub each : All (CellFit L) l.cells
  pub placed : Placed L l

pub record SepFull {A : Type 0} (P : A → Type 0) (s : Sep A) : Type 0 where
  pub key : KeyFit s.key
  pub child : P s.child

pub record NodeFull {A : Type 0} (P : A → Type 0) (least : ℕ) (t : Inner A) : Type 0 where
  pub enough : least ≤ length t.rest
  pub most : length t.rest ≤ inner_most
  pub head : P t.first
  pub others : All (SepFull P) t.rest

abbrev pub Full : ℕ → (h : ℕ) → ℕ → ℕ → Tree h → Type 0
Full L zero cost records t = LeafFull L cost t
Full L (suc h) cost records t = NodeFull (Full L h leaf_least inner_least) records t

-- a tree that is not the whole
abbrev pub FullUnder : ℕ → (h : ℕ) → Tree h → Type 0
FullUnder L h t = Full L h leaf_least inner_least t

-- "as root 1 to 14", and a root that is a leaf may be empty
abbrev pub FullStore : ℕ → Store → Type 0
FullStore L s = Full L s.depth 0 1 s.root

-- ---- on the way
-- A tree with a gap, and a node that has become one or two.

pub record LeftFull {A : Type 0} (P : A → Type 0) (l : Left A) : Type 0 where
  pub key : KeyFit l.key
  pub child : P l.child

pub record FrameFull {A : Type 0} (P : A → Type 0) (least : ℕ) (f : Frame A) : Type 0 where
  pub enough : least ≤ length f.lefts + length f.rights
  pub most : length f.lefts + length f.rights ≤ inner_most
  pub left : All (LeftFull P) f.lefts
  pub right : All (SepFull P) f.rights

-- the least that the node in a gap has
abbrev pub least_cost : {d h : ℕ} → Context d h → ℕ
least_cost top = 0
least_cost (under f c) = leaf_least

abbrev pub least_records : {d h : ℕ} → Context d h → ℕ
least_records top = 1
least_records (under f c) = inner_least

abbrev pub Around : (L : ℕ) {d h : ℕ} → Context d h → Type 0
Around L top = Unit {0}
Around L (under {h} f c) = FrameFull (FullUnder L h) (least_records c) f × Around L c

-- Q of the one, or P of both
pub data GrownFull {A : Type 0} (Q P : A → Type 0) : Grown A → Type 0 where
  still : {a : A} → Q a → GrownFull Q P (one a)
  parts : {a : A} {k : List ℕ} {b : A} → P a → KeyFit k → P b → GrownFull Q P (two a k b)
