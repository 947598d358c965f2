-- The calls of the C host: "a work area of their own (1,024 entries)", "refusal × 65,536 + length, the length being that of get's
-- answer 0 or 7 and else 0".
use Rattle.std.specs.Prelude.{List, ℕ, ◌+◌, ◌*◌}
use Rattle.octets.specs.Runs.{zeros}
use Rattle.model.specs.Edition.{Edition}
use Rattle.model.specs.Calls.{check_outcome, get_outcome, put_outcome, delete_outcome}

-- the number that is returned, and the buffer that the call may write
pub record Returned : Type 0 where
  pub number : ℕ
  pub buffer : List ℕ

unfoldable pub packed_number : ℕ → ℕ → ℕ
packed_number refusal length = refusal * 65536 + length

module _ (E : Edition) where
  unfoldable pub own_work : List ℕ
  own_work = zeros E.most_pages

  unfoldable pub exported_put : List ℕ → List ℕ → List ℕ → Returned
  exported_put image key value = let o = put_outcome E image own_work key value in record { number = packed_number o.refusal 0; buffer = o.image }

  unfoldable pub exported_delete : List ℕ → List ℕ → Returned
  exported_delete image key = let o = delete_outcome E image own_work key in record { number = packed_number o.refusal 0; buffer = o.image }

  unfoldable pub exported_get : List ℕ → List ℕ → List ℕ → Returned
  exported_get image key out = let o = get_outcome E image own_work key out in record { number = packed_number o.refusal o.length; buffer = o.out }

  unfoldable pub exported_check : List ℕ → ℕ
  exported_check image = packed_number (check_outcome E image own_work).refusal 0
