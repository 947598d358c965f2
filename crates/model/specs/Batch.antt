-- Batch lines: what a line says, what it answers, and a batch as a run through its lines.
use Rattle.std.specs.Prelude.{true, List, [], ◌∷◌, ◌++◌, map, ℕ, zero, suc, ◌+◌, ◌*◌, ◌-◌, ◌/◌, ◌%◌, length, drop, leb, ltb, eqb}
use Rattle.std.proofs.Math.Option.{Option, none, some}
use Rattle.octets.specs.Choice.{choose}
use Rattle.octets.specs.Runs.{over}
use Rattle.model.specs.Lists.{gather}
use Rattle.model.specs.Edition.{Edition}
use Rattle.model.specs.Types.{Store, Entry, to_map}
use Rattle.model.specs.Map.{lookup, range}
use Rattle.model.specs.Image.{encode}
use Rattle.model.specs.Accept.{between}
use Rattle.model.specs.Refusals.{done, missing, too_short, malformed, good_key, good_bounds, good_value, by_arguments, guarded}
use Rattle.model.specs.Calls.{Answer, put_in, delete_in}

-- Characters ---------------------------------------------------------------------------------------------------------------

abbrev pub tab : ℕ
tab = 9

abbrev pub line_feed : ℕ
line_feed = 10

abbrev pub letter_d : ℕ
letter_d = 68

abbrev pub letter_e : ℕ
letter_e = 69

abbrev pub letter_g : ℕ
letter_g = 71

abbrev pub letter_p : ℕ
letter_p = 80

abbrev pub letter_s : ℕ
letter_s = 83

abbrev pub question_mark : ℕ
question_mark = 63

-- What a line says -----------------------------------------------------------------------------------------------------------

pub data Command : Type 0 where
  putting : List ℕ → List ℕ → Command
  getting : List ℕ → Command
  deleting : List ℕ → Command
  scanning : List ℕ → List ℕ → Command
  unreadable : Command

-- a digit's value: 0-9a-f
unfoldable pub digit : ℕ → Option ℕ
digit x = choose (between 48 57 x) (some (x - 48)) (choose (between 97 102 x) (some (x - 87)) none)

unfoldable pub paired : Option ℕ → Option ℕ → Option (List ℕ) → Option (List ℕ)
paired none y bytes = none
paired (some x) none bytes = none
paired (some x) (some y) none = none
paired (some x) (some y) (some bytes) = some ((16 * x + y) ∷ bytes)

-- "bytes as pairs of 0-9a-f"; "an odd digit count, another character" is malformed
unfoldable pub field_bytes : List ℕ → Option (List ℕ)
field_bytes [] = some []
field_bytes (x ∷ []) = none
field_bytes (x ∷ y ∷ text) = paired (digit x) (digit y) (field_bytes text)

unfoldable pub prepended : ℕ → List (List ℕ) → List (List ℕ)
prepended x [] = (x ∷ []) ∷ []
prepended x (field ∷ fields) = (x ∷ field) ∷ fields

-- "fields parted by tabs"; "an empty field is no bytes and keeps its tab"
unfoldable pub fields_of : List ℕ → List (List ℕ)
fields_of [] = [] ∷ []
fields_of (x ∷ text) = let further = fields_of text in choose (eqb x tab) ([] ∷ further) (prepended x further)

-- "P key value, G key, D key, S low high"; "another letter, another number of fields" is malformed
unfoldable pub command_of : ℕ → List (Option (List ℕ)) → Command
command_of letter (some a ∷ []) = choose (eqb letter letter_g) (getting a) (choose (eqb letter letter_d) (deleting a) unreadable)
command_of letter (some a ∷ some b ∷ []) = choose (eqb letter letter_p) (putting a b) (choose (eqb letter letter_s) (scanning a b) unreadable)
command_of letter [] = unreadable
command_of letter (none ∷ fields) = unreadable
command_of letter (some a ∷ none ∷ fields) = unreadable
command_of letter (some a ∷ some b ∷ f ∷ fields) = unreadable

unfoldable pub line_says : List (List ℕ) → Command
line_says [] = unreadable
line_says ([] ∷ fields) = unreadable
line_says ((letter ∷ []) ∷ fields) = command_of letter (map field_bytes fields)
line_says ((letter ∷ x ∷ text) ∷ fields) = unreadable

-- a line, and how many bytes of the input it has
pub record Line : Type 0 where
  pub says : Command
  pub size : ℕ

-- "ended by a line feed"; "a last line without line feed" is malformed. `text` is the line so far
unfoldable pub first_line : List ℕ → List ℕ → Line
first_line text [] = record { says = unreadable; size = length text }
first_line text (x ∷ rest) =
    let ended : Line = record { says = line_says (fields_of text); size = suc (length text) } in
    let further = first_line (text ++ (x ∷ [])) rest in
    choose (eqb x line_feed) ended further

-- What a line answers ----------------------------------------------------------------------------------------------------------

unfoldable pub digits_of : ℕ → ℕ → List ℕ → List ℕ
digits_of zero x text = text
digits_of (suc most) x text =
    let further = digits_of most (x / 10) ((48 + x % 10) ∷ text) in
    choose (ltb x 10) ((48 + x) ∷ text) further

-- "numbers in decimal"
unfoldable pub decimal : ℕ → List ℕ
decimal x = digits_of (suc x) x []

unfoldable pub hex_digit : ℕ → ℕ
hex_digit x = choose (ltb x 10) (48 + x) (87 + x)

unfoldable pub hex : List ℕ → List ℕ
hex bytes = gather (λ x. hex_digit (x / 16) ∷ hex_digit (x % 16) ∷ []) bytes

-- a letter and fields: "tabs between"
unfoldable pub answer_line : ℕ → List (List ℕ) → List ℕ
answer_line letter fields = letter ∷ gather (λ field. tab ∷ field) fields ++ (line_feed ∷ [])

unfoldable pub entry_line : Entry → List ℕ
entry_line e = answer_line letter_e (hex e.key ∷ hex e.value ∷ [])

-- the store after a line, and its whole answer
pub record Said : Type 0 where
  pub store : Store
  pub text : List ℕ

unfoldable pub said_number : ℕ → Answer → Said
said_number letter a = record { store = a.store; text = answer_line letter (decimal a.refusal ∷ []) }

unfoldable pub refused : ℕ → Store → Answer
refused r s = record { refusal = r; store = s }

-- "G 0 value", "G n"
unfoldable pub said_value : Store → Option (List ℕ) → Said
said_value s none = said_number letter_g (refused missing s)
said_value s (some v) = record { store = s; text = answer_line letter_g (decimal done ∷ hex v ∷ []) }

-- "for S an E key value line each, then S 0 count": "S gives the whole range"
unfoldable pub said_range : Store → List Entry → Said
said_range s es = record { store = s; text = gather entry_line es ++ answer_line letter_s (decimal done ∷ decimal (length es) ∷ []) }

-- an answer if the arguments' lengths refuse nothing, else the refusal's
unfoldable pub unless : ℕ → ℕ → Store → Said → Said
unless r letter s said = choose (eqb r done) said (said_number letter (refused r s))

-- "Each line does what the single call does"
unfoldable pub line_done : Edition → Store → Command → Said
line_done E s (putting k v) =
    let put = said_number letter_p (put_in E s k v) in
    unless (by_arguments (good_key (length k)) (good_value E.usable (length v))) letter_p s put
line_done E s (getting k) = unless (by_arguments (good_key (length k)) true) letter_g s (said_value s (lookup k (to_map s)))
line_done E s (deleting k) = unless (by_arguments (good_key (length k)) true) letter_d s (said_number letter_d (delete_in E s k))
line_done E s (scanning low high) = unless (by_arguments (good_bounds (length low) (length high)) true) letter_s s (said_range s (range low high (to_map s)))
line_done E s unreadable = said_number question_mark (refused malformed s)

-- The batch --------------------------------------------------------------------------------------------------------------------

-- how far a batch is: its answer, the input consumed, the output written, the store
pub record Progress : Type 0 where
  pub refusal : ℕ
  pub consumed : ℕ
  pub text : List ℕ
  pub store : Store

unfoldable pub stopped : ℕ → Progress → Progress
stopped r p = record { refusal = r; consumed = p.consumed; text = p.text; store = p.store }

unfoldable pub advanced : Progress → Line → Said → Progress
advanced p l a = record { refusal = p.refusal; consumed = p.consumed + l.size; text = p.text ++ a.text; store = a.store }

-- "A line whose whole answer doesn't fit isn't begun: the batch stops with 7". (No input has more lines than bytes.)
unfoldable pub run_lines : Edition → ℕ → ℕ → List ℕ → Progress → Progress
run_lines E room zero input p = p
run_lines E room (suc most) [] p = p
run_lines E room (suc most) (x ∷ input) p =
    let l = first_line [] (x ∷ input) in
    let a = line_done E p.store l.says in
    let further = run_lines E room most (drop l.size (x ∷ input)) (advanced p l a) in
    choose (leb (length p.text + length a.text) room) further (stopped too_short p)

pub record Batched : Type 0 where
  pub refusal : ℕ
  pub consumed : ℕ
  pub written : ℕ
  pub image : List ℕ
  pub work : List ℕ
  pub out : List ℕ

unfoldable pub batch_done : Edition → List ℕ → List ℕ → Progress → Batched
batch_done E work out p =
    record { refusal = p.refusal; consumed = p.consumed; written = length p.text; image = encode E p.store; work = work; out = over out 0 p.text }

-- "Images are checked once, at the start; 1, 9 and 2 refuse the batch, output unchanged"
unfoldable pub batch_outcome : Edition → List ℕ → List ℕ → List ℕ → List ℕ → Batched
batch_outcome E image work input out =
    guarded E image work true true (λ r w. record { refusal = r; consumed = 0; written = 0; image = image; work = w; out = out })
    (λ s w. batch_done E w out (run_lines E (length out) (length input) input (record { refusal = done; consumed = 0; text = []; store = s })))
