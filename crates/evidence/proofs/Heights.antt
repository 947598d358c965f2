-- Stores of height 3: 200 cells put in rising, in falling and in scattered order into 128 pages.
use mathlib.Core.Path.{◌≡◌, refl}
use mathlib.Core.Bool.{true}
use mathlib.Core.List.{[], ◌∷◌, map}
use Rattle.model.proofs.Rows.{digest, height, root, separators, free_pages, Row, passes, all_done}
use Rattle.evidence.proofs.Deep.{counted, rising, falling, scattered, computing_deep}

unfoldable pub built_rising : Row
built_rising =
    record {
      pages = 128;
      stages =
          record {
            does = rising;
            answers = all_done 200;
            sees =
                height 3 ∷ root 19 ∷ separators (map counted (24 ∷ 48 ∷ 72 ∷ 96 ∷ 120 ∷ 144 ∷ 168 ∷ [])) ∷ free_pages 51 ∷ digest 21042675 ∷ [];
          } ∷ [];
    }

unfoldable pub built_falling : Row
built_falling =
    record {
      pages = 128;
      stages =
          record {
            does = falling;
            answers = all_done 200;
            sees =
                height 3 ∷ root 19 ∷ separators (map counted (24 ∷ 40 ∷ 56 ∷ 72 ∷ 88 ∷ 104 ∷ 120 ∷ 136 ∷ 152 ∷ 168 ∷ 184 ∷ []))
                ∷ free_pages 15 ∷ digest 19669001 ∷ [];
          } ∷ [];
    }

unfoldable pub built_scattered : Row
built_scattered =
    record {
      pages = 128;
      stages =
          record {
            does = scattered;
            answers = all_done 200;
            sees =
                height 3 ∷ root 19 ∷ separators (map counted (27 ∷ 51 ∷ 74 ∷ 103 ∷ 131 ∷ 155 ∷ 181 ∷ [])) ∷ free_pages 37 ∷ digest 19398680 ∷ [];
          } ∷ [];
    }

pub heights_rising : passes built_rising ≡ true
unfolding computing_deep built_rising
heights_rising = refl

pub heights_falling : passes built_falling ≡ true
unfolding computing_deep built_falling
heights_falling = refl

pub heights_scattered : passes built_scattered ≡ true
unfolding computing_deep built_scattered
heights_scattered = refl
