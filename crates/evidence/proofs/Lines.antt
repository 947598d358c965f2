-- Batch lines: what is well formed, what is not, and what fits the output, on a fresh store of 3 pages.
use mathlib.Core.Path.{◌≡◌, refl}
use mathlib.Core.Bool.{Bool, true, ◌&&◌}
use mathlib.Core.List.{List, [], ◌∷◌, ◌++◌}
use Prim.Native.Nat.{ℕ, ◌-◌}
use Prim.Native.String.{String}
use lib.ListN.{length}
use lib.Dec.{eqb}
use Rattle.model.specs.Lists.{every, same}
use Rattle.model.specs.Edition.{edition1}
use Rattle.model.specs.Image.{encode}
use Rattle.model.specs.Accept.{accepts}
use Rattle.model.specs.Change.{formatted}
use Rattle.model.specs.Batch.{batch_outcome}
use Rattle.model.proofs.Texts.{bytes_of, bytes_of_all}
use Rattle.evidence.proofs.Stocked.{filled, computing_stocked}

-- an input, the room for the output, and what the batch gives
pub record Exchange : Type 0 where
  pub input : List String
  pub room : ℕ
  pub refusal : ℕ
  pub consumed : ℕ
  pub output : List String

-- the output is as said and stays past that; check accepts the image afterwards
unfoldable pub exchanged : Exchange → Bool
exchanged x =
    let b = batch_outcome edition1 (encode edition1 (formatted 512 3)) (filled 3) (bytes_of_all x.input) (filled x.room) in
    let text = bytes_of_all x.output in
    eqb x.refusal b.refusal && eqb x.consumed b.consumed && eqb (length text) b.written
    && same (text ++ filled (x.room - length text)) b.out && accepts edition1 b.image

-- a whole input, answered
unfoldable pub answered : List String → List String → Exchange
answered input output = record { input = input; room = 40; refusal = 0; consumed = length (bytes_of_all input); output = output }

-- one malformed line
unfoldable pub malformed : String → Exchange
malformed line = answered (line ∷ []) ("?\t8\n" ∷ [])

unfoldable pub exchanges : List Exchange
exchanges =
    -- an empty input; an empty line
    answered [] [] ∷
    malformed "\n" ∷
    -- "another letter"
    malformed "PP\n" ∷
    malformed "PP\t41\t\n" ∷
    malformed "p\n" ∷
    malformed "p\t41\t\n" ∷
    malformed " \n" ∷
    malformed " P\t41\t\n" ∷
    malformed "X\t41\n" ∷
    malformed "\t41\n" ∷
    -- "another number of fields"
    malformed "G\n" ∷
    malformed "S\t\n" ∷
    malformed "P\t41\n" ∷
    malformed "G\t41\t\n" ∷
    malformed "D\t41\t\n" ∷
    malformed "S\t\t\t\n" ∷
    malformed "P\t41\t\t\n" ∷
    -- "an odd digit count"
    malformed "G\t4\n" ∷
    malformed "P\t41\t010\n" ∷
    -- "another character": a capital digit, a blank, a carriage return
    malformed "G\t4A\n" ∷
    malformed "G\t4g\n" ∷
    malformed "G\t4 \n" ∷
    malformed "G\t41\r\n" ∷
    -- "a last line without line feed"
    malformed "G\t41" ∷
    malformed "P\t41\t01" ∷
    -- a key of no bytes; "this is tested before 3 and 4", so that a line with such a key may be malformed
    answered ("G\t\n" ∷ "D\t\n" ∷ "P\t\t\n" ∷ []) ("G\t3\n" ∷ "D\t3\n" ∷ "P\t3\n" ∷ []) ∷
    malformed "P\t\t0\n" ∷
    -- keys and bounds of 33 bytes
    answered
    ("G\t010203040506070809101112131415161718192021222324252627282930313233\n" ∷ "S\t\t010203040506070809101112131415161718192021222324252627282930313233\n" ∷ [])
    ("G\t3\n" ∷ "S\t3\n" ∷ []) ∷
    -- "an empty field is no bytes and keeps its tab": the whole map, and a value of no bytes
    answered ("S\t\t\n" ∷ []) ("S\t0\t0\n" ∷ []) ∷
    answered ("P\t41\t\n" ∷ "G\t41\n" ∷ "S\t\t\n" ∷ []) ("P\t0\n" ∷ "G\t0\t\n" ∷ "E\t41\t\n" ∷ "S\t0\t1\n" ∷ []) ∷
    -- bounds, and crossed ones
    answered ("P\t41\tff\n" ∷ "P\t42\t0a\n" ∷ "S\t42\t\n" ∷ "S\t42\t41\n" ∷ []) ("P\t0\n" ∷ "P\t0\n" ∷ "E\t42\t0a\n" ∷ "S\t0\t1\n" ∷ "S\t0\t0\n" ∷ []) ∷
    -- "A line whose whole answer doesn't fit isn't begun"; just full is no refusal
    record { input = "P\t41\t\n" ∷ []; room = 4; refusal = 0; consumed = 6; output = "P\t0\n" ∷ [] } ∷
    record { input = "P\t41\t\n" ∷ []; room = 3; refusal = 7; consumed = 0; output = [] } ∷
    record { input = "P\t41\t\n" ∷ "G\t41\n" ∷ []; room = 9; refusal = 0; consumed = 11; output = "P\t0\n" ∷ "G\t0\t\n" ∷ [] } ∷
    record { input = "P\t41\t\n" ∷ "G\t41\n" ∷ []; room = 8; refusal = 7; consumed = 6; output = "P\t0\n" ∷ [] } ∷
    -- of a scan all lines must fit
    record { input = "P\t41\t\n" ∷ "S\t\t\n" ∷ []; room = 16; refusal = 0; consumed = 10; output = "P\t0\n" ∷ "E\t41\t\n" ∷ "S\t0\t1\n" ∷ [] } ∷
    record { input = "P\t41\t\n" ∷ "S\t\t\n" ∷ []; room = 15; refusal = 7; consumed = 6; output = "P\t0\n" ∷ [] } ∷
    -- a malformed line that does not fit
    record { input = "X" ∷ []; room = 3; refusal = 7; consumed = 0; output = [] } ∷
    []

pub lines : every exchanged exchanges ≡ true
unfolding computing_stocked bytes_of bytes_of_all exchanged answered malformed exchanges
lines = refl
