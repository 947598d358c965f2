-- The starred rows of the paper's bench sheet, proved on the definitions by one statement over a table. Above each row or stage stands
-- the sheet's sentence. A stage says besides that check accepts the image (`Rows`).
use mathlib.Core.Path.{◌≡◌, refl}
use mathlib.Core.Bool.{true}
use mathlib.Core.List.{List, [], ◌∷◌, ◌++◌, map}
use Rattle.model.specs.Lists.{every, from}
use Rattle.model.proofs.Rows.{Operation, put, delete, starts, height, separators, keys, costing, values, chains, free, Row, passes, key, value, put_big, delete_big, all_done, computing_rows}

-- 61 puts of cells of cost 8
unfoldable pub small_cells : List Operation
small_cells = map (λ b. put (key 1 b) (value 2)) (from 1 61)

unfoldable pub table : List Row
table =
    record {
      pages = 4;
      stages =
          -- "Format, n = 4: header starts 04 00 01 00 01 00 02 00 00 00 00 00 01 00; page 1 starts 01 00 00 00 00 02."
          record {
            does = [];
            answers = [];
            sees =
                starts 0 (0x04 ∷ 0x00 ∷ 0x01 ∷ 0x00 ∷ 0x01 ∷ 0x00 ∷ 0x02 ∷ 0x00 ∷ 0x00 ∷ 0x00 ∷ 0x00 ∷ 0x00 ∷ 0x01 ∷ 0x00 ∷ [])
                ∷ starts 1 (0x01 ∷ 0x00 ∷ 0x00 ∷ 0x00 ∷ 0x00 ∷ 0x02 ∷ []) ∷ [];
          }
          -- "Then put 41 → 01 02: page 1 starts 01 00 01 00 FA 01 00 00 00 00 00 00 FA 01."
          ∷ record {
            does = put (0x41 ∷ []) (0x01 ∷ 0x02 ∷ []) ∷ [];
            answers = 0 ∷ [];
            sees = starts 1 (0x01 ∷ 0x00 ∷ 0x01 ∷ 0x00 ∷ 0xFA ∷ 0x01 ∷ 0x00 ∷ 0x00 ∷ 0x00 ∷ 0x00 ∷ 0x00 ∷ 0x00 ∷ 0xFA ∷ 0x01 ∷ []) ∷ [];
          }
          -- "Then put 42 → 03 04, delete 41: 01 00 01 00 F4 01 06 00 00 00 00 00 F4 01."
          ∷ record {
            does = put (0x42 ∷ []) (0x03 ∷ 0x04 ∷ []) ∷ delete (0x41 ∷ []) ∷ [];
            answers = 0 ∷ 0 ∷ [];
            sees = starts 1 (0x01 ∷ 0x00 ∷ 0x01 ∷ 0x00 ∷ 0xF4 ∷ 0x01 ∷ 0x06 ∷ 0x00 ∷ 0x00 ∷ 0x00 ∷ 0x00 ∷ 0x00 ∷ 0xF4 ∷ 0x01 ∷ []) ∷ [];
          } ∷ [];
    } ∷
    -- "Values of 0 and 64 inline; 65 and 504: one page; 505: two; 4,032: eight; 4,033: answer 4." Inline are 0 and 64 bytes of the cost:
    -- 6 + 70 + 4 · 8.
    record {
      pages = 16;
      stages =
          record {
            does =
                put (key 1 1) (value 0) ∷ put (key 1 2) (value 64) ∷ put (key 1 3) (value 65) ∷ put (key 1 4) (value 504) ∷ put (key 1 5) (value 505)
                ∷ put (key 1 6) (value 4032) ∷ put (key 1 7) (value 4033) ∷ [];
            answers = all_done 6 ++ (4 ∷ []);
            sees =
                values (0 ∷ 64 ∷ 65 ∷ 504 ∷ 505 ∷ 4032 ∷ [])
                ∷ chains ([] ∷ [] ∷ (2 ∷ []) ∷ (3 ∷ []) ∷ (4 ∷ 5 ∷ []) ∷ from 6 8 ∷ []) ∷ costing (108 ∷ []) ∷ [];
          } ∷ [];
    } ∷
    -- "Keys of 1 and 32 pass; 0 and 33 give 3."
    record {
      pages = 4;
      stages =
          record {
            does = put (key 1 1) (value 0) ∷ put (key 32 1) (value 0) ∷ put [] (value 0) ∷ put (key 33 1) (value 0) ∷ [];
            answers = 0 ∷ 0 ∷ 3 ∷ 3 ∷ [];
            sees = keys ((1 ∷ 1 ∷ []) ∷ []) ∷ [];
          } ∷ [];
    } ∷
    -- "Five cells of cost 101: T = 505, three left, two right; n = 4 has room"
    record {
      pages = 4;
      stages =
          record {
            does = map put_big (from 1 5);
            answers = all_done 5;
            sees = keys ((1 ∷ 2 ∷ 3 ∷ []) ∷ (4 ∷ 5 ∷ []) ∷ []) ∷ costing (303 ∷ 202 ∷ []) ∷ height 2 ∷ free [] ∷ [];
          }
          -- "Then delete the first (202 stays)"
          ∷ record { does = delete_big 1 ∷ []; answers = 0 ∷ []; sees = costing (202 ∷ 202 ∷ []) ∷ height 2 ∷ free [] ∷ [] }
          -- "the second (101): merged, 303; free list 3, 2; height 1."
          ∷ record { does = delete_big 2 ∷ []; answers = 0 ∷ []; sees = costing (303 ∷ []) ∷ free (3 ∷ 2 ∷ []) ∷ height 1 ∷ [] } ∷ [];
    } ∷
    -- "n = 3 gives 6 at the fifth."
    record {
      pages = 3;
      stages =
          record {
            does = map put_big (from 1 5);
            answers = all_done 4 ++ (6 ∷ []);
            sees = keys ((1 ∷ 2 ∷ 3 ∷ 4 ∷ []) ∷ []) ∷ costing (404 ∷ []) ∷ height 1 ∷ free (2 ∷ []) ∷ [];
          } ∷ [];
    } ∷
    -- "Keys 1 to 7 of cost 101 in order, delete 1 and 2: leaves 3, 4, 5 and 6, 7; separator 6."
    record {
      pages = 8;
      stages =
          record {
            does = map put_big (from 1 7) ++ map delete_big (1 ∷ 2 ∷ []);
            answers = all_done 9;
            sees = keys ((3 ∷ 4 ∷ 5 ∷ []) ∷ (6 ∷ 7 ∷ []) ∷ []) ∷ separators (key 32 6 ∷ []) ∷ [];
          } ∷ [];
    } ∷
    -- "61 cells of cost 8 and one of 12: 500, one leaf"
    record {
      pages = 8;
      stages = record { does = small_cells ++ (put (key 1 62) (value 6) ∷ []); answers = all_done 62; sees = costing (500 ∷ []) ∷ height 1 ∷ [] } ∷ [];
    } ∷
    -- "one of 13 instead: split." T = 501: 32 cells are 256, and 31 are 248, which doubled is less than T.
    record {
      pages = 8;
      stages =
          record { does = small_cells ++ (put (key 1 62) (value 7) ∷ []); answers = all_done 62; sees = costing (256 ∷ 245 ∷ []) ∷ height 2 ∷ [] } ∷ [];
    } ∷
    -- "n = 3, 41 with 65 bytes; 100 bytes over it passes; 505 over it gives 6; 42 with 65 gives 6." The value of 100 bytes stays.
    record {
      pages = 3;
      stages =
          record {
            does = put (0x41 ∷ []) (value 65) ∷ put (0x41 ∷ []) (value 100) ∷ put (0x41 ∷ []) (value 505) ∷ put (0x42 ∷ []) (value 65) ∷ [];
            answers = 0 ∷ 0 ∷ 6 ∷ 6 ∷ [];
            sees = keys ((0x41 ∷ []) ∷ []) ∷ values (100 ∷ []) ∷ chains ((2 ∷ []) ∷ []) ∷ free [] ∷ [];
          } ∷ [];
    } ∷
    []

-- every row of the table
pub bench : every passes table ≡ true
unfolding computing_rows small_cells table
bench = refl
