-- Damaged images: bytes of an accepted image are changed, and check refuses it. Most changes are of one byte; those under "One thing
-- wrong" keep everything else as it should be. (A chain that two cells share is among the edges of `model`.)
use mathlib.Core.Path.{◌≡◌, refl}
use mathlib.Core.Bool.{true}
use mathlib.Core.List.{List, [], ◌∷◌, map}
use Prim.Native.Nat.{ℕ}
use Rattle.octets.specs.Runs.{zeros}
use Rattle.model.specs.Lists.{every, from}
use Rattle.model.proofs.Rows.{put, delete, Patch, Damaged, refused_with, key, value, put_big, computing_rows}

-- one byte of a page
unfoldable pub byte : ℕ → ℕ → ℕ → List Patch
byte page at x = record { page = page; at = at; bytes = x ∷ [] } ∷ []

-- Header, free pages and a leaf ----------------------------------------------------------------------------------------------

-- page 1 has the cells of 2 at 500 and of 3 at 494 and a hole at 506; pages 2 and 3 are free
unfoldable pub one_leaf : Damaged
one_leaf =
    record {
      pages = 4;
      does = put (key 1 1) (value 2) ∷ put (key 1 2) (value 2) ∷ put (key 1 3) (value 2) ∷ delete (key 1 1) ∷ [];
      damages =
          -- n, root, height
          byte 0 0 5 ∷ byte 0 0 3 ∷ byte 0 1 1 ∷ byte 0 2 0 ∷ byte 0 2 2 ∷ byte 0 2 4 ∷ byte 0 4 0 ∷ byte 0 4 2 ∷
          -- first free page: a page lost, all lost, no page
          byte 0 6 3 ∷ byte 0 6 0 ∷ byte 0 6 4 ∷
          -- entry count, edition, rest
          byte 0 8 1 ∷ byte 0 8 3 ∷ byte 0 11 1 ∷ byte 0 12 0 ∷ byte 0 12 2 ∷ byte 0 13 1 ∷ byte 0 14 1 ∷ byte 0 511 1 ∷
          -- a free page: kind, the byte after it, next (a page lost, a page twice, no page), rest
          byte 2 0 1 ∷ byte 2 1 1 ∷ byte 2 2 0 ∷ byte 2 2 2 ∷ byte 3 2 2 ∷ byte 3 2 4 ∷ byte 2 4 1 ∷ byte 3 511 1 ∷
          -- the leaf: kind, the byte after it, slot count, s, holes, next, link back
          byte 1 0 2 ∷ byte 1 1 1 ∷ byte 1 2 1 ∷ byte 1 2 3 ∷ byte 1 4 237 ∷ byte 1 4 239 ∷ byte 1 6 5 ∷ byte 1 6 7 ∷
          byte 1 8 1 ∷ byte 1 8 2 ∷ byte 1 10 1 ∷ byte 1 11 1 ∷
          -- a slot, the bytes between slots and cells, the hole
          byte 1 12 245 ∷ byte 1 14 244 ∷ byte 1 16 1 ∷ byte 1 493 1 ∷ byte 1 506 1 ∷ byte 1 511 1 ∷
          -- keys that are equal, that fall; a key of no bytes, a value that is longer than what is there
          byte 1 503 3 ∷ byte 1 503 4 ∷ (record { page = 1; at = 500; bytes = 0 ∷ 3 ∷ [] } ∷ []) ∷ byte 1 501 3 ∷
          [];
    }

-- Inner nodes ----------------------------------------------------------------------------------------------------------------

-- the leaves 1 and 2 have four cells of cost 70 each, page 3 is the root with the separator 5
unfoldable pub two_leaves : Damaged
two_leaves =
    record {
      pages = 4;
      does = map (λ b. put (key 1 b) (value 64)) (from 1 8);
      damages =
          -- kind, the byte after it, record count, bytes 4..7, first child, bytes 10..11
          byte 3 0 1 ∷ byte 3 1 1 ∷ byte 3 2 0 ∷ byte 3 2 2 ∷ byte 3 4 1 ∷ byte 3 7 1 ∷ byte 3 8 0 ∷ byte 3 8 2 ∷ byte 3 8 3 ∷ byte 3 8 4 ∷
          byte 3 10 1 ∷ byte 3 11 1 ∷
          -- the record: key length, child, the zeros after the key, the rest of the page
          byte 3 12 0 ∷ byte 3 12 33 ∷ byte 3 13 1 ∷ byte 3 13 0 ∷ byte 3 16 1 ∷ byte 3 46 1 ∷ byte 3 47 1 ∷ byte 3 511 1 ∷
          -- the separator is a key that stands on its left; a key on its right is below it
          byte 3 15 4 ∷ byte 3 15 6 ∷
          -- links between the leaves
          byte 1 8 0 ∷ byte 1 8 3 ∷ byte 2 8 1 ∷
          -- height
          byte 0 4 1 ∷ byte 0 4 3 ∷
          [];
    }

-- Chains ---------------------------------------------------------------------------------------------------------------------

-- the value of 1 has 70 bytes on page 2, that of 2 has 505 on pages 3 and 4; the cells are at 506 and 500
unfoldable pub two_chains : Damaged
two_chains =
    record {
      pages = 5;
      does = put (key 1 1) (value 70) ∷ put (key 1 2) (value 505) ∷ [];
      damages =
          -- kind, the byte after it, the last page's next, bytes held, bytes 6..7, rest
          byte 2 0 0 ∷ byte 2 1 1 ∷ byte 2 2 3 ∷ byte 2 4 69 ∷ byte 2 4 71 ∷ byte 2 6 1 ∷ byte 2 7 1 ∷ byte 2 78 1 ∷ byte 2 511 1 ∷
          -- the first of two: next, bytes held
          byte 3 2 0 ∷ byte 3 2 2 ∷ byte 3 2 5 ∷ byte 3 4 247 ∷
          -- the cell: value length, a chain of the other's pages, of the leaf's, of none, of a page that is not there
          byte 1 507 71 ∷ byte 1 510 3 ∷ byte 1 510 1 ∷ byte 1 510 0 ∷ byte 1 510 5 ∷
          [];
    }

-- One thing wrong --------------------------------------------------------------------------------------------------------------

unfoldable pub otherwise_right : List Damaged
otherwise_right =
    -- two cells overlapping: the value of 5 has the bytes of the cell of 6, and the slot points there
    record {
      pages = 2;
      does = put (5 ∷ []) (1 ∷ 1 ∷ 0 ∷ 6 ∷ 9 ∷ []) ∷ put (6 ∷ []) (9 ∷ []) ∷ [];
      damages = (record { page = 1; at = 14; bytes = 251 ∷ 1 ∷ [] } ∷ record { page = 1; at = 498; bytes = zeros 5 } ∷ []) ∷ [];
    } ∷
    -- a key of 33 bytes, the first of the value's among them
    record {
      pages = 2;
      does = put_big 1 ∷ [];
      damages = (record { page = 1; at = 413; bytes = 33 ∷ 63 ∷ [] } ∷ []) ∷ [];
    } ∷
    -- a page of the free list that comes again
    record { pages = 6; does = []; damages = byte 5 2 3 ∷ [] } ∷
    -- a leaf under 125: the cell of 5 is removed, and nothing is mended
    record {
      pages = 4;
      does = map put_big (from 1 5);
      damages =
          (record { page = 0; at = 8; bytes = 4 ∷ [] }
          ∷ record { page = 2; at = 2; bytes = 1 ∷ [] }
          ∷ record { page = 2; at = 6; bytes = 99 ∷ [] }
          ∷ record { page = 2; at = 14; bytes = 0 ∷ 0 ∷ [] }
          ∷ record { page = 2; at = 314; bytes = zeros 99 } ∷ [])
          ∷ [];
    } ∷
    -- separators that are equal, that fall
    record {
      pages = 5;
      does = map put_big (from 1 8);
      damages = byte 3 50 4 ∷ (record { page = 3; at = 15; bytes = 7 ∷ [] } ∷ record { page = 3; at = 50; bytes = 4 ∷ [] } ∷ []) ∷ [];
    } ∷
    []

pub one_leaf_refused : refused_with one_leaf ≡ true
unfolding computing_rows byte one_leaf
one_leaf_refused = refl

pub two_leaves_refused : refused_with two_leaves ≡ true
unfolding computing_rows byte two_leaves
two_leaves_refused = refl

pub two_chains_refused : refused_with two_chains ≡ true
unfolding computing_rows byte two_chains
two_chains_refused = refl

pub otherwise_right_refused : every refused_with otherwise_right ≡ true
unfolding computing_rows byte otherwise_right
otherwise_right_refused = refl
