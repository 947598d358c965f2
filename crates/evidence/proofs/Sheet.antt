-- The bench sheet's stores once more, by digests of their images.
use mathlib.Core.Path.{◌≡◌, refl}
use mathlib.Core.Bool.{true}
use mathlib.Core.List.{List, [], ◌∷◌, ◌++◌, map}
use Rattle.model.specs.Lists.{every, from}
use Rattle.model.proofs.Rows.{digest, starting, costing, Row, passes, put_big, delete_big, all_done, computing_rows}

unfoldable pub sheet : List Row
sheet =
    -- format
    record { pages = 4; stages = record { does = []; answers = []; sees = digest 151 ∷ [] } ∷ [] } ∷
    -- five cells of cost 101, then two deleted
    record {
      pages = 4;
      stages =
          record { does = map put_big (from 1 5); answers = all_done 5; sees = digest 378654 ∷ starting (215 ∷ 314 ∷ []) ∷ [] }
          ∷ record { does = delete_big 1 ∷ []; answers = all_done 1; sees = digest 287128 ∷ starting (215 ∷ 314 ∷ []) ∷ [] }
          ∷ record { does = delete_big 2 ∷ []; answers = all_done 1; sees = digest 215603 ∷ starting (215 ∷ []) ∷ [] } ∷ [];
    } ∷
    -- five in three pages
    record {
      pages = 3;
      stages = record { does = map put_big (from 1 5); answers = all_done 4 ++ (6 ∷ []); sees = digest 315930 ∷ starting (116 ∷ []) ∷ [] } ∷ [];
    } ∷
    -- seven, then two deleted
    record {
      pages = 8;
      stages =
          record { does = map put_big (from 1 7); answers = all_done 7; sees = digest 546217 ∷ costing (303 ∷ 404 ∷ []) ∷ [] }
          ∷ record { does = delete_big 1 ∷ []; answers = all_done 1; sees = digest 454691 ∷ costing (202 ∷ 404 ∷ []) ∷ [] }
          ∷ record { does = delete_big 2 ∷ []; answers = all_done 1; sees = digest 381262 ∷ costing (303 ∷ 202 ∷ []) ∷ [] } ∷ [];
    } ∷
    []

pub sheet_digests : every passes sheet ≡ true
unfolding computing_rows sheet
sheet_digests = refl
