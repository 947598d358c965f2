-- The paper's batch listing, by computation: on a fresh store of 4 pages the whole input gives the whole output. The output buffer is
-- longer than the answers, and the work area longer than the store has pages: what lies beyond them stays.
use mathlib.Core.Path.{◌≡◌, refl}
use mathlib.Core.List.{List, [], ◌∷◌, ◌++◌}
use Prim.Native.Nat.{ℕ}
use lib.ListN.{replicate}
use Rattle.model.specs.Edition.{edition1}
use Rattle.model.specs.Types.{Store}
use Rattle.model.specs.Image.{encode}
use Rattle.model.specs.Change.{formatted}
use Rattle.model.specs.Batch.{batch_outcome}
use Rattle.model.specs.Computing.{computing}
use Rattle.model.proofs.Texts.{bytes_of, bytes_of_all}

unfoldable pub listing_input : List ℕ
listing_input =
    bytes_of_all (
    "P\t41\t0102\n" ∷
    "P\t42\t\n" ∷
    "G\t41\n" ∷
    "G\t43\n" ∷
    "S\t\t42\n" ∷
    "D\t42\n" ∷
    "D\t42\n" ∷
    "X\n" ∷
    []
    )

unfoldable pub listing_output : List ℕ
listing_output =
    bytes_of_all (
    "P\t0\n" ∷
    "P\t0\n" ∷
    "G\t0\t0102\n" ∷
    "G\t5\n" ∷
    "E\t41\t0102\n" ∷
    "S\t0\t1\n" ∷
    "D\t0\n" ∷
    "D\t5\n" ∷
    "?\t8\n" ∷
    []
    )

-- what the buffers hold before the batch, at each place
unfoldable pub filler : ℕ
filler = 0xA5

-- the store afterwards: the cell of 41 in its place, the four bytes of 42's cell holes below it
unfoldable pub listing_store : Store
listing_store =
    record {
      n = 4;
      depth = 0;
      root = record { page = 1; start = 502; cells = record { at = 506; key = 0x41 ∷ []; value = 0x01 ∷ 0x02 ∷ []; chain = [] } ∷ [] };
      free = 2 ∷ 3 ∷ [];
    }

-- "whole input and output": all 44 bytes consumed, 49 written, and of the work area the roles found at the start
pub listing :
    batch_outcome edition1 (encode edition1 (formatted 512 4)) (replicate 6 filler) listing_input (replicate 60 filler)
    ≡ record {
      refusal = 0;
      consumed = 44;
      written = 49;
      image = encode edition1 listing_store;
      work = 5 ∷ 1 ∷ 4 ∷ 4 ∷ filler ∷ filler ∷ [];
      out = listing_output ++ replicate 11 filler;
    }
unfolding computing bytes_of bytes_of_all listing_input listing_output filler listing_store
listing = refl
