-- What the laws ask of an edition, and that document 01's has it. No law names a page's length or a limit: it asks for these instead.
use mathlib.Core.Path.{◌≡◌}
use mathlib.Core.List.{List}
use Prim.Native.Nat.{ℕ, ◌*◌, ◌-◌, ◌^◌, ◌≤◌}
use native.Mathlib.Omega.{arith}
use lib.ListN.{length, take}
use lib.Seq.{take_all}
use Rattle.model.specs.Edition.{Edition, edition1}

pub record Lawful (E : Edition) : Type 0 where
  -- long enough that both halves of a split leaf are full enough
  pub room : 508 ≤ E.usable
  pub wide : 1 ≤ E.width
  -- "a fifth needs 2 × 8 × 8 × 8 = 1,024 leaves", and the header is no leaf
  pub leveled : 1 ≤ E.most_levels
  pub levels : E.most_pages ≤ 2 * 8 ^ (E.most_levels - 1)
  -- a page is as wide as it should be, and its usable bytes are read back
  pub sealed : (bytes : List ℕ) → length bytes ≡ E.usable → (length (E.seal bytes) ≡ E.width) × (take E.usable (E.seal bytes) ≡ bytes)

pub lawful1 : Lawful edition1
lawful1 =
    record { room = omega arith; wide = omega arith; leveled = omega arith; levels = omega arith; sealed = λ bytes e. (e, take_all 512 bytes (omega arith)) }
