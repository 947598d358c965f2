-- What check accepts. An image is accepted exactly if the store that it decodes to is valid and encodes to the same bytes.
-- "The layouts above", the links and the entry count are in the encoding; `valid` has a clause for each phrase that is not.
use Rattle.std.specs.Prelude.{Bool, true, not, ◌&&◌, ◌||◌, List, [], ◌∷◌, map, ℕ, zero, suc, ◌+◌, ◌*◌, ◌-◌, length, leb, eqb}
use Rattle.std.proofs.Math.Option.{Option, none, some}
use Rattle.octets.specs.Keys.{before}
use Rattle.model.specs.Lists.{every, from, times, same}
use Rattle.model.specs.Edition.{Edition}
use Rattle.model.specs.Types.{Cell, Leaf, Sep, Inner, Tree, Store, Entry, entries, met}
use Rattle.model.specs.Sizes.{key_most, leaf_least, leaf_most, inner_least, inner_most, value_most, chain_length, cell_length, costs}
use Rattle.model.specs.Image.{encode}
use Rattle.model.specs.Decode.{decode}

-- Tests all over a tree ----------------------------------------------------------------------------------------------------

-- of each child of an inner node
unfoldable pub every_child : {A : Type 0} → (A → Bool) → Inner A → Bool
every_child test t = test t.first && every (λ s. test s.child) t.rest

-- of each leaf, and of each inner node
unfoldable pub throughout : (Leaf → Bool) → ((h : ℕ) → Inner (Tree h) → Bool) → (h : ℕ) → Tree h → Bool
throughout leaf inner zero t = leaf t
throughout leaf inner (suc h) t = inner h t && every_child (throughout leaf inner h) t

-- Lengths ------------------------------------------------------------------------------------------------------------------

unfoldable pub between : ℕ → ℕ → ℕ → Bool
between least most x = leb least x && leb x most

-- "keys of 1 to 32 bytes", separators among them
unfoldable pub key_fits : List ℕ → Bool
key_fits k = between 1 key_most (length k)

-- "and values of at most 4,032"; "a value of v > 64 has exactly v/504 pages, rounded up"
unfoldable pub cell_fits : ℕ → Cell → Bool
cell_fits L c = key_fits c.key && leb (length c.value) (value_most L) && eqb (length c.chain) (chain_length L (length c.value))

-- "a leaf holds a cost of at most 500"
unfoldable pub lengths_fit : ℕ → (h : ℕ) → Tree h → Bool
lengths_fit L h t =
    throughout (λ l. every (cell_fits L) l.cells && leb (costs l.cells) (leaf_most L)) (λ i u. every (λ s. key_fits s.key) u.rest) h t

-- Cells --------------------------------------------------------------------------------------------------------------------

-- "cells inside s..511"
unfoldable pub inside : ℕ → ℕ → Cell → Bool
inside s L c = leb s c.at && leb (c.at + cell_length c) L

-- "and apart"
unfoldable pub apart : Cell → Cell → Bool
apart a b = leb (a.at + cell_length a) b.at || leb (b.at + cell_length b) a.at

unfoldable pub all_apart : List Cell → Bool
all_apart [] = true
all_apart (c ∷ cs) = every (apart c) cs && all_apart cs

-- "12+2c at most s, s at most 512"
unfoldable pub cells_placed : ℕ → Leaf → Bool
cells_placed L l =
    every (inside l.start L) l.cells && all_apart l.cells && between (12 + 2 * length l.cells) L l.start

unfoldable pub leaves_placed : ℕ → (h : ℕ) → Tree h → Bool
leaves_placed L h t = throughout (cells_placed L) (λ i u. true) h t

-- Order --------------------------------------------------------------------------------------------------------------------

unfoldable pub rising : List (List ℕ) → Bool
rising [] = true
rising (k ∷ []) = true
rising (k ∷ l ∷ ks) = before k l && rising (l ∷ ks)

-- "keys strictly rising in a leaf, separators strictly rising in an inner node"
unfoldable pub all_rising : (h : ℕ) → Tree h → Bool
all_rising h t = throughout (λ l. rising (map (λ (c : Cell). c.key) l.cells)) (λ i u. rising (map (λ s. s.key) u.rest)) h t

-- a key is not below a bound, or below it, where there is one
unfoldable pub not_below : Option (List ℕ) → List ℕ → Bool
not_below none k = true
not_below (some b) k = not (before k b)

unfoldable pub below : Option (List ℕ) → List ℕ → Bool
below none k = true
below (some b) k = before k b

-- "below child i only keys from separator i−1 (included) to separator i (excluded)": `low` is the separator left of child a
unfoldable pub bounded : {A : Type 0} → (A → List Entry) → Option (List ℕ) → A → List (Sep A) → Bool
bounded m low a [] = every (λ e. not_below low e.key) (m a)
bounded m low a (s ∷ ss) =
    every (λ e. not_below low e.key && below (some s.key) e.key) (m a) && bounded m (some s.key) s.child ss

-- "bounds inherited from above": the entries below a child are those of all leaves below it
unfoldable pub all_bounded : (h : ℕ) → Tree h → Bool
all_bounded h t = throughout (λ l. true) (λ i u. bounded (entries i) none u.first u.rest) h t

-- Fullness -----------------------------------------------------------------------------------------------------------------

-- "a leaf that isn't the root costs at least 125; an inner node has 7 to 14 records"
unfoldable pub full : (h : ℕ) → Tree h → Bool
full h t = throughout (λ l. leb leaf_least (costs l.cells)) (λ i u. between inner_least inner_most (length u.rest)) h t

-- "as root 1 to 14"
unfoldable pub full_below : (h : ℕ) → Tree h → Bool
full_below zero t = true
full_below (suc h) t = between 1 inner_most (length t.rest) && every_child (full h) t

-- Pages --------------------------------------------------------------------------------------------------------------------

-- "pages 1 to n−1 are each met exactly once", and no other
unfoldable pub once_each : ℕ → List ℕ → Bool
once_each n ps = eqb (length ps) (n - 1) && every (λ p. eqb (times p ps) 1) (from 1 (n - 1))

-- Accepted -----------------------------------------------------------------------------------------------------------------

module _ (E : Edition) where
  -- "n from 2 to 1,024"; "height 1 to 4"; then the clauses above, in the paper's order
  unfoldable pub valid : Store → Bool
  valid s =
      let h = s.depth in
      let t = s.root in
      between 2 E.most_pages s.n && leb (suc h) E.most_levels && lengths_fit E.usable h t && leaves_placed E.usable h t
      && all_rising h t && all_bounded h t && full_below h t && once_each s.n (met s)

  unfoldable pub accepts : List ℕ → Bool
  accepts img = let s = decode E img in valid s && same (encode E s) img
