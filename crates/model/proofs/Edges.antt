-- Rows at the edges of single rules, where the bench sheet would not tell a rule from one that is nearly the same: an exact tie, a key
-- equal to a separator, a leaf that has just room, a chain freed, a merge that is just full, partners, damages. The edits of must-fail/
-- are found by these rows and by the bench's.
use mathlib.Core.Path.{◌≡◌, refl}
use mathlib.Core.Bool.{true}
use mathlib.Core.List.{List, [], ◌∷◌, ◌++◌, map}
use Prim.Native.Nat.{◌-◌}
use Rattle.octets.specs.Runs.{zeros}
use Rattle.model.specs.Lists.{every, from}
use Rattle.model.proofs.Rows.{put, delete, starts, height, root, separators, keys, costing, starting, values, chains, free, Row, passes, Damaged, refused_with, key, value, put_big, delete_big, all_done, computing_rows}

unfoldable pub edge_table : List Row
edge_table =
    -- The header counts the entries.
    record {
      pages = 4;
      stages =
          record {
            does = put (0x41 ∷ []) (value 2) ∷ put (0x42 ∷ []) (value 2) ∷ [];
            answers = all_done 2;
            sees = starts 0 (0x04 ∷ 0x00 ∷ 0x01 ∷ 0x00 ∷ 0x01 ∷ 0x00 ∷ 0x02 ∷ 0x00 ∷ 0x02 ∷ 0x00 ∷ 0x00 ∷ 0x00 ∷ 0x01 ∷ 0x00 ∷ []) ∷ [];
          } ∷ [];
    } ∷
    -- "The left page keeps the fewest cells whose cost doubled is at least T": ten cells of cost 51, T = 510, and five doubled are T.
    record {
      pages = 4;
      stages =
          record {
            does = map (λ b. put (key 32 b) (value 14)) (from 1 10);
            answers = all_done 10;
            sees = keys (from 1 5 ∷ from 6 5 ∷ []) ∷ costing (255 ∷ 255 ∷ []) ∷ separators (key 32 6 ∷ []) ∷ [];
          } ∷ [];
    } ∷
    -- "If s − (12+2c) is less than length + 2, compact first": s = 116 and c = 3 leave 98 bytes. A cell of 96 goes right below s,
    record {
      pages = 3;
      stages =
          record { does = map put_big (from 1 4) ++ (delete_big 1 ∷ put (key 32 5) (value 61) ∷ []); answers = all_done 6; sees = starting (20 ∷ []) ∷ [] } ∷ [];
    } ∷
    -- and a cell of 97 below the three others, packed.
    record {
      pages = 3;
      stages =
          record { does = map put_big (from 1 4) ++ (delete_big 1 ∷ put (key 32 5) (value 62) ∷ []); answers = all_done 6; sees = starting (118 ∷ []) ∷ [] } ∷ [];
    } ∷
    -- "From separator i−1 (included)": the key 4 is the separator, and belongs to the right leaf.
    record {
      pages = 4;
      stages =
          record {
            does = map put_big (from 1 5) ++ (put (key 32 4) (value 10) ∷ []);
            answers = all_done 6;
            sees =
                keys ((1 ∷ 2 ∷ 3 ∷ []) ∷ (4 ∷ 5 ∷ []) ∷ []) ∷ values (64 ∷ 64 ∷ 64 ∷ 10 ∷ 64 ∷ [])
                ∷ separators (key 32 4 ∷ []) ∷ costing (303 ∷ 148 ∷ []) ∷ [];
          } ∷ [];
    } ∷
    -- "Free the old chain, first page first": its last page is then the first that is taken.
    record {
      pages = 5;
      stages =
          record { does = put (0x41 ∷ []) (value 505) ∷ []; answers = all_done 1; sees = chains ((2 ∷ 3 ∷ []) ∷ []) ∷ free (4 ∷ []) ∷ [] }
          ∷ record { does = put (0x41 ∷ []) (value 505) ∷ []; answers = all_done 1; sees = chains ((3 ∷ 2 ∷ []) ∷ []) ∷ free (4 ∷ []) ∷ [] }
          ∷ record { does = delete (0x41 ∷ []) ∷ []; answers = all_done 1; sees = free (2 ∷ 3 ∷ 4 ∷ []) ∷ [] } ∷ [];
    } ∷
    -- "If both together cost at most 500, all cells go packed to the left page": 399 and 101 are just 500. The left leaf is the partner
    -- of the last.
    record {
      pages = 4;
      stages =
          record {
            does = map put_big (from 1 5) ++ (put (key 32 0) (value 59) ∷ delete_big 5 ∷ []);
            answers = all_done 7;
            sees = keys (from 0 5 ∷ []) ∷ costing (500 ∷ []) ∷ free (3 ∷ 2 ∷ []) ∷ height 1 ∷ [];
          } ∷ [];
    } ∷
    -- "Partner: the right sibling under the same parent, else the left": a leaf between two others.
    record {
      pages = 6;
      stages =
          record {
            does = map put_big (from 1 8);
            answers = all_done 8;
            sees = keys ((1 ∷ 2 ∷ 3 ∷ []) ∷ (4 ∷ 5 ∷ 6 ∷ []) ∷ (7 ∷ 8 ∷ []) ∷ []) ∷ separators (key 32 4 ∷ key 32 7 ∷ []) ∷ free (5 ∷ []) ∷ [];
          }
          ∷ record {
            does = map delete_big (4 ∷ 5 ∷ []);
            answers = all_done 2;
            sees = keys ((1 ∷ 2 ∷ 3 ∷ []) ∷ (6 ∷ 7 ∷ 8 ∷ []) ∷ []) ∷ separators (key 32 4 ∷ []) ∷ free (4 ∷ 5 ∷ []) ∷ [];
          } ∷ [];
    } ∷
    -- "Of 15 records, 0 to 6 stay; key 7 goes up"; then "with a partner of 7 both merge", "a root with no record is freed last".
    record {
      pages = 22;
      stages =
          record {
            does = map (λ i. put_big (33 - i)) (from 0 33);
            answers = all_done 33;
            sees = height 3 ∷ root 19 ∷ separators (key 32 18 ∷ []) ∷ free (20 ∷ 21 ∷ []) ∷ [];
          }
          ∷ record {
            does = map delete_big (1 ∷ 2 ∷ []);
            answers = all_done 2;
            sees =
                height 2 ∷ root 3 ∷ separators (map (key 32) (6 ∷ 8 ∷ 10 ∷ 12 ∷ 14 ∷ 16 ∷ 18 ∷ 20 ∷ 22 ∷ 24 ∷ 26 ∷ 28 ∷ 30 ∷ 32 ∷ []))
                ∷ free (19 ∷ 18 ∷ 17 ∷ 20 ∷ 21 ∷ []) ∷ [];
          } ∷ [];
    } ∷
    []

-- damaged images, each with one thing wrong
unfoldable pub damaged_table : List Damaged
damaged_table =
    -- "A check that bounds a chain's length but accepts two cells sharing it": the cell of key 2 refers to the page of key 1's value, which
    -- is the same bytes, and its own page is in the free list.
    record {
      pages = 4;
      does = put (key 1 1) (value 70) ∷ put (key 1 2) (value 70) ∷ [];
      damages =
          (record { page = 1; at = 504; bytes = 2 ∷ 0 ∷ [] }
          ∷ record { page = 3; at = 0; bytes = zeros 512 }
          ∷ record { page = 0; at = 6; bytes = 3 ∷ 0 ∷ [] } ∷ [])
          ∷ [];
    } ∷
    -- A byte that should be zero: in the header, between the slots and the cells, in a hole, in a free page.
    record {
      pages = 3;
      does = put (key 1 1) (value 2) ∷ put (key 1 2) (value 2) ∷ delete (key 1 1) ∷ [];
      damages =
          (record { page = 0; at = 14; bytes = 1 ∷ [] } ∷ [])
          ∷ (record { page = 1; at = 499; bytes = 1 ∷ [] } ∷ [])
          ∷ (record { page = 1; at = 506; bytes = 1 ∷ [] } ∷ [])
          ∷ (record { page = 2; at = 511; bytes = 1 ∷ [] } ∷ []) ∷ [];
    } ∷
    []

pub edges : every passes edge_table ≡ true
unfolding computing_rows edge_table
edges = refl

pub damages : every refused_with damaged_table ≡ true
unfolding computing_rows damaged_table
damages = refl
