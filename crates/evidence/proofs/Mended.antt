-- Stores that are mended: a put that mends or compacts, and above the leaves a merge, a rotation from either side, and the root that goes
-- (at both heights: the merge by a put takes the root of height 2). The deletes go through the stores of 200 cells to the step that is
-- looked at.
use mathlib.Core.Path.{◌≡◌, refl}
use mathlib.Core.Bool.{true}
use mathlib.Core.List.{List, [], ◌∷◌, ◌++◌, map}
use Rattle.model.specs.Lists.{every, from}
use Rattle.model.proofs.Rows.{put, digest, height, root, separators, keys, costing, starting, free, free_pages, Row, passes, key, value, put_big, all_done, computing_rows}
use Rattle.evidence.proofs.Deep.{counted, delete_counted, rising, scattered, computing_deep}

-- Leaves -------------------------------------------------------------------------------------------------------------------

unfoldable pub by_puts : List Row
by_puts =
    -- "(v) if a leaf that isn't the root now costs under 125, mend as for delete": merged
    record {
      pages = 8;
      stages =
          record {
            does = map put_big (from 1 5) ++ (put (key 32 4) (value 0) ∷ []);
            answers = all_done 6;
            sees = costing (303 ∷ 138 ∷ []) ∷ starting (215 ∷ 279 ∷ []) ∷ free (4 ∷ 5 ∷ 6 ∷ 7 ∷ []) ∷ digest 301370 ∷ [];
          }
          ∷ record {
            does = put (key 32 5) (value 0) ∷ [];
            answers = all_done 1;
            sees = height 1 ∷ costing (377 ∷ []) ∷ starting (145 ∷ []) ∷ free (3 ∷ 2 ∷ 4 ∷ 5 ∷ 6 ∷ 7 ∷ []) ∷ digest 237093 ∷ [];
          } ∷ [];
    } ∷
    -- the same, shared with the left partner
    record {
      pages = 8;
      stages =
          record {
            does = map put_big (1 ∷ 2 ∷ 3 ∷ 5 ∷ 6 ∷ 4 ∷ []) ++ (put (key 32 5) (value 50) ∷ []);
            answers = all_done 7;
            sees = costing (404 ∷ 188 ∷ []) ∷ starting (116 ∷ 229 ∷ []) ∷ separators (key 32 5 ∷ []) ∷ digest 454015 ∷ [];
          }
          ∷ record {
            does = put (key 32 6) (value 0) ∷ [];
            answers = all_done 1;
            sees =
                keys ((1 ∷ 2 ∷ 3 ∷ []) ∷ (4 ∷ 5 ∷ 6 ∷ []) ∷ []) ∷ costing (303 ∷ 225 ∷ []) ∷ starting (215 ∷ 293 ∷ []) ∷ separators (key 32 4 ∷ [])
                ∷ free (4 ∷ 5 ∷ 6 ∷ 7 ∷ []) ∷ digest 371205 ∷ [];
          } ∷ [];
    } ∷
    -- a put over an equal value, which compacts
    record {
      pages = 3;
      stages =
          record { does = map put_big (from 1 4); answers = all_done 4; sees = costing (404 ∷ []) ∷ starting (116 ∷ []) ∷ digest 315930 ∷ [] }
          ∷ record { does = put_big 1 ∷ []; answers = all_done 1; sees = costing (404 ∷ []) ∷ starting (116 ∷ []) ∷ digest 316190 ∷ [] } ∷ [];
    } ∷
    []

pub mended_by_puts : every passes by_puts ≡ true
unfolding computing_rows by_puts
mended_by_puts = refl

-- Inner nodes --------------------------------------------------------------------------------------------------------------

-- built rising, deleted from the front
unfoldable pub from_the_front : Row
from_the_front =
    record {
      pages = 128;
      stages =
          -- a merge of inner nodes
          record {
            does = rising ++ map delete_counted (from 0 2);
            answers = all_done 202;
            sees = height 3 ∷ root 19 ∷ separators (map counted (48 ∷ 72 ∷ 96 ∷ 120 ∷ 144 ∷ 168 ∷ [])) ∷ free_pages 53 ∷ digest 20920469 ∷ [];
          }
          -- a rotation: the right partner gives its first record
          ∷ record {
            does = map delete_counted (from 2 144);
            answers = all_done 144;
            sees = height 3 ∷ root 19 ∷ separators (counted 171 ∷ []) ∷ free_pages 106 ∷ digest 6883015 ∷ [];
          }
          -- a merge that leaves the root without a record
          ∷ record {
            does = map delete_counted (from 146 9);
            answers = all_done 9;
            sees =
                height 2 ∷ root 3
                ∷ separators (map counted (159 ∷ 162 ∷ 165 ∷ 168 ∷ 171 ∷ 174 ∷ 177 ∷ 180 ∷ 183 ∷ 186 ∷ 189 ∷ 192 ∷ 195 ∷ 198 ∷ []))
                ∷ free_pages 111 ∷ digest 6022985 ∷ [];
          } ∷ [];
    }

-- built scattered, deleted from the back: a rotation, in which the left partner gives its last record
unfoldable pub from_the_back : Row
from_the_back =
    record {
      pages = 128;
      stages =
          record {
            does = scattered ++ (delete_counted 199 ∷ []);
            answers = all_done 201;
            sees = height 3 ∷ root 19 ∷ separators (map counted (27 ∷ 51 ∷ 74 ∷ 103 ∷ 131 ∷ 155 ∷ 177 ∷ [])) ∷ free_pages 38 ∷ digest 19328867 ∷ [];
          } ∷ [];
    }

pub mended_from_the_front : passes from_the_front ≡ true
unfolding computing_deep from_the_front
mended_from_the_front = refl

pub mended_from_the_back : passes from_the_back ≡ true
unfolding computing_deep from_the_back
mended_from_the_back = refl
