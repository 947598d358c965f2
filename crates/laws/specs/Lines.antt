-- A batch as single calls: the answer of a line and the image after it are the single call's, with a work area of an entry for each page and
-- an output that is long enough.
use Rattle.std.specs.Prelude.{◌≡◌, true, List, [], ◌∷◌, ◌++◌, ℕ, zero, suc, ◌-◌, ◌/◌, length, take, drop, leb, eqb}
use Rattle.octets.specs.Choice.{choose}
use Rattle.octets.specs.Runs.{zeros}
use Rattle.model.specs.Lists.{gather, total}
use Rattle.model.specs.Edition.{Edition}
use Rattle.model.specs.Types.{Entry}
use Rattle.model.specs.Map.{insert, erase, range}
use Rattle.model.specs.Sizes.{value_most}
use Rattle.model.specs.Image.{encode}
use Rattle.model.specs.Accept.{valid}
use Rattle.model.specs.Refusals.{done, malformed}
use Rattle.model.specs.Calls.{Got, Scanned, entry_size, get_outcome, put_outcome, delete_outcome, scan_outcome}
use Rattle.model.specs.Batch.{Said, Command, putting, getting, deleting, scanning, unreadable, Line, first_line, letter_p, letter_g, letter_d, letter_s, question_mark, decimal, hex, answer_line, entry_line}
use Rattle.laws.specs.Ready.{map_of}

-- The answers -------------------------------------------------------------------------------------------------------------

-- "P n", "D n"
unfoldable pub number_text : ℕ → ℕ → List ℕ
number_text letter refusal = answer_line letter (decimal refusal ∷ [])

-- "G 0 value", "G n": the value is what get wrote
unfoldable pub got_text : Got → List ℕ
got_text o = choose (eqb o.refusal done) (answer_line letter_g (decimal done ∷ hex (take o.length o.out) ∷ [])) (number_text letter_g o.refusal)

-- "for S an E key value line each, then S 0 count, or S n": the entries are those that scan wrote
unfoldable pub scan_text : List Entry → Scanned → List ℕ
scan_text es o =
    choose (eqb o.refusal done) (gather entry_line es ++ answer_line letter_s (decimal done ∷ decimal o.entries ∷ [])) (number_text letter_s o.refusal)

-- the lines of an input. (No input has more lines than bytes.)
unfoldable pub lines_of : ℕ → List ℕ → List Line
lines_of zero input = []
lines_of (suc most) [] = []
lines_of (suc most) (x ∷ input) = let l = first_line [] (x ∷ input) in l ∷ lines_of most (drop l.size (x ∷ input))

module _ (E : Edition) where
  -- a work area for an image
  unfoldable pub area : List ℕ → List ℕ
  area image = zeros (length image / E.width)

  -- an output that holds any value, and one that holds some entries
  unfoldable pub value_room : List ℕ
  value_room = zeros (value_most E.usable)

  unfoldable pub entries_room : List Entry → List ℕ
  entries_room es = zeros (total entry_size es)

  -- "Each line does what the single call does"
  unfoldable pub line_text : List ℕ → Command → List ℕ
  line_text image (putting k v) = number_text letter_p (put_outcome E image (area image) k v).refusal
  line_text image (getting k) = got_text (get_outcome E image (area image) k value_room)
  line_text image (deleting k) = number_text letter_d (delete_outcome E image (area image) k).refusal
  line_text image (scanning low high) =
      let es = range low high (map_of E image) in
      scan_text es (scan_outcome E image (area image) low high (entries_room es))
  line_text image unreadable = number_text question_mark malformed

  unfoldable pub line_image : List ℕ → Command → List ℕ
  line_image image (putting k v) = (put_outcome E image (area image) k v).image
  line_image image (getting k) = image
  line_image image (deleting k) = (delete_outcome E image (area image) k).image
  line_image image (scanning low high) = image
  line_image image unreadable = image

  -- what a batch makes of a line: a valid store, written as the single call writes it, and the single call's answer
  pub record Does (image : List ℕ) (c : Command) (a : Said) : Type 0 where
    pub right : valid E a.store ≡ true
    pub written : encode E a.store ≡ line_image image c
    pub said : a.text ≡ line_text image c

  -- Lines one after another ---------------------------------------------------------------------------------------------------

  -- "A line whose whole answer doesn't fit isn't begun": the lines that are, with so much room for their answers
  unfoldable pub begun : ℕ → List ℕ → List Line → List Line
  begun room image [] = []
  begun room image (l ∷ ls) =
      let text = line_text image l.says in
      let further = l ∷ begun (room - length text) (line_image image l.says) ls in
      choose (leb (length text) room) further []

  -- the image after some lines, and their answers
  unfoldable pub lines_image : List ℕ → List Line → List ℕ
  lines_image image [] = image
  lines_image image (l ∷ ls) = lines_image (line_image image l.says) ls

  unfoldable pub lines_text : List ℕ → List Line → List ℕ
  lines_text image [] = []
  lines_text image (l ∷ ls) = line_text image l.says ++ lines_text (line_image image l.says) ls

  -- The map -----------------------------------------------------------------------------------------------------------------

  -- the map after a line: put inserts and delete erases, where they are done
  unfoldable pub line_map : List ℕ → Command → List Entry → List Entry
  line_map image (putting k v) m = choose (eqb (put_outcome E image (area image) k v).refusal done) (insert (record { key = k; value = v }) m) m
  line_map image (getting k) m = m
  line_map image (deleting k) m = choose (eqb (delete_outcome E image (area image) k).refusal done) (erase k m) m
  line_map image (scanning low high) m = m
  line_map image unreadable m = m

  unfoldable pub lines_map : List ℕ → List Line → List Entry → List Entry
  lines_map image [] m = m
  lines_map image (l ∷ ls) m = lines_map (line_image image l.says) ls (line_map image l.says m)
