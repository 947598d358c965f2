-- Chains taken, replaced, refused and freed, in 12 pages: which pages each value has, and the free list.
use mathlib.Core.Path.{◌≡◌, refl}
use mathlib.Core.Bool.{true}
use mathlib.Core.List.{[], ◌∷◌}
use Prim.Native.Nat.{ℕ}
use Rattle.model.proofs.Rows.{Operation, put, delete, digest, costing, starting, values, chains, free, Row, passes, key, value, computing_rows}

-- a put of a value of so many bytes, and a delete, at a key of 4 bytes
unfoldable pub put_long : ℕ → ℕ → Operation
put_long b n = put (key 4 b) (value n)

unfoldable pub delete_long : ℕ → Operation
delete_long b = delete (key 4 b)

unfoldable pub long_values : Row
long_values =
    record {
      pages = 12;
      stages =
          -- three chains
          record {
            does = put_long 1 65 ∷ put_long 2 505 ∷ put_long 3 1009 ∷ [];
            answers = 0 ∷ 0 ∷ 0 ∷ [];
            sees =
                chains ((2 ∷ []) ∷ (3 ∷ 4 ∷ []) ∷ (5 ∷ 6 ∷ 7 ∷ []) ∷ []) ∷ free (8 ∷ 9 ∷ 10 ∷ 11 ∷ []) ∷ costing (33 ∷ []) ∷ starting (485 ∷ [])
                ∷ digest 1489440 ∷ [];
          }
          -- a longer value over a chain of two: its pages are taken again, the last first
          ∷ record {
            does = put_long 2 1009 ∷ [];
            answers = 0 ∷ [];
            sees =
                chains ((2 ∷ []) ∷ (4 ∷ 3 ∷ 8 ∷ []) ∷ (5 ∷ 6 ∷ 7 ∷ []) ∷ []) ∷ free (9 ∷ 10 ∷ 11 ∷ []) ∷ costing (33 ∷ []) ∷ starting (476 ∷ [])
                ∷ digest 2002925 ∷ [];
          }
          -- eight pages are too many for three free ones and the old three; then a chain goes
          ∷ record {
            does = put_long 3 4032 ∷ put_long 1 64 ∷ [];
            answers = 6 ∷ 0 ∷ [];
            sees =
                values (64 ∷ 1009 ∷ 1009 ∷ []) ∷ chains ([] ∷ (4 ∷ 3 ∷ 8 ∷ []) ∷ (5 ∷ 6 ∷ 7 ∷ []) ∷ []) ∷ free (2 ∷ 9 ∷ 10 ∷ 11 ∷ []) ∷ costing (95 ∷ [])
                ∷ starting (405 ∷ []) ∷ digest 2072148 ∷ [];
          }
          -- five pages are too many for four, three are not; then a chain of three is freed
          ∷ record {
            does = put_long 4 2520 ∷ put_long 4 1512 ∷ delete_long 3 ∷ [];
            answers = 6 ∷ 0 ∷ 0 ∷ [];
            sees =
                chains ([] ∷ (4 ∷ 3 ∷ 8 ∷ []) ∷ (2 ∷ 9 ∷ 10 ∷ []) ∷ []) ∷ free (7 ∷ 6 ∷ 5 ∷ 11 ∷ []) ∷ costing (95 ∷ []) ∷ starting (396 ∷ [])
                ∷ digest 2516191 ∷ [];
          }
          -- a key that is not there, and the other chains freed
          ∷ record {
            does = delete_long 9 ∷ delete_long 2 ∷ delete_long 4 ∷ [];
            answers = 5 ∷ 0 ∷ 0 ∷ [];
            sees =
                chains ([] ∷ []) ∷ free (10 ∷ 9 ∷ 2 ∷ 8 ∷ 3 ∷ 4 ∷ 7 ∷ 6 ∷ 5 ∷ 11 ∷ []) ∷ costing (73 ∷ []) ∷ starting (396 ∷ []) ∷ digest 112403 ∷ [];
          } ∷ [];
    }

pub long_values_pass : passes long_values ≡ true
unfolding computing_rows put_long delete_long long_values
long_values_pass = refl
