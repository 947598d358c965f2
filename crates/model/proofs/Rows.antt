-- The form of a row: a fresh store, then stages of operations with their answers, and what is seen of the store after each stage.
-- That check accepts the image is part of every stage. The bench sheet's table and those of the crate `evidence` have this form.
use mathlib.Core.Bool.{Bool, true, false, not, ◌&&◌}
use mathlib.Core.List.{List, [], ◌∷◌, ◌++◌, map}
use Prim.Native.Nat.{ℕ, zero, suc, ◌+◌, ◌*◌, ◌-◌, ◌%◌}
use lib.ListN.{length, replicate}
use lib.Dec.{eqb}
use Rattle.octets.specs.Choice.{choose}
use Rattle.octets.specs.Runs.{over, part}
use Rattle.model.specs.Lists.{gather, every, head_or, same}
use Rattle.model.specs.Edition.{edition1}
use Rattle.model.specs.Types.{Cell, Leaf, Tree, Store, leaves, page_of}
use Rattle.model.specs.Sizes.{costs}
use Rattle.model.specs.Image.{encode}
use Rattle.model.specs.Accept.{accepts}
use Rattle.model.specs.Change.{formatted}
use Rattle.model.specs.Refusals.{done, good_key, good_value, by_arguments}
use Rattle.model.specs.Calls.{Answer, put_in, delete_in}
use Rattle.model.specs.Batch.{refused}
use Rattle.model.specs.Computing.{computing}

-- The form -----------------------------------------------------------------------------------------------------------------

pub data Operation : Type 0 where
  put : List ℕ → List ℕ → Operation
  delete : List ℕ → Operation

-- something that is seen of a store
pub data Look : Type 0 where
  -- a page starts with these bytes
  starts : ℕ → List ℕ → Look
  -- the sum of (i modulo 251 + 1) · byte i over the image
  digest : ℕ → Look
  height : ℕ → Look
  -- the root's page, and its separators
  root : ℕ → Look
  separators : List (List ℕ) → Look
  -- of each leaf in tree order: the first bytes of its keys; its cost; its cell start s
  keys : List (List ℕ) → Look
  costing : List ℕ → Look
  starting : List ℕ → Look
  -- of each entry in key order: the length of its value; the pages of its chain
  values : List ℕ → Look
  chains : List (List ℕ) → Look
  -- the free list, or only how long it is
  free : List ℕ → Look
  free_pages : ℕ → Look

-- some operations, what they answer, and what is seen then
pub record Stage : Type 0 where
  pub does : List Operation
  pub answers : List ℕ
  pub sees : List Look

-- the stages of a store that has just been formatted
pub record Row : Type 0 where
  pub pages : ℕ
  pub stages : List Stage

-- What is done -------------------------------------------------------------------------------------------------------------

-- the answer, unless the arguments' lengths refuse with r
unfoldable pub answering : ℕ → Store → Answer → Answer
answering r s a = choose (eqb r done) a (refused r s)

-- an operation as its call does it, on a store instead of an image
unfoldable pub step : Store → Operation → Answer
step s (put k v) = answering (by_arguments (good_key (length k)) (good_value 512 (length v))) s (put_in edition1 s k v)
step s (delete k) = answering (by_arguments (good_key (length k)) true) s (delete_in edition1 s k)

-- the store afterwards, and the answers
pub record Run : Type 0 where
  pub store : Store
  pub answers : List ℕ

-- `answers` are those so far
unfoldable pub run : Store → List ℕ → List Operation → Run
run s answers [] = record { store = s; answers = answers }
run s answers (o ∷ os) = let a = step s o in run a.store (answers ++ (a.refusal ∷ [])) os

-- What is seen -------------------------------------------------------------------------------------------------------------

unfoldable pub same_lists : List (List ℕ) → List (List ℕ) → Bool
same_lists [] [] = true
same_lists [] (y ∷ ys) = false
same_lists (x ∷ xs) [] = false
same_lists (x ∷ xs) (y ∷ ys) = same x y && same_lists xs ys

-- the sum so far, and the bytes from index i on
unfoldable pub digest_from : ℕ → ℕ → List ℕ → ℕ
digest_from sum i [] = sum
digest_from sum i (x ∷ xs) = digest_from (sum + (i % 251 + 1) * x) (suc i) xs

unfoldable pub root_keys : (h : ℕ) → Tree h → List (List ℕ)
root_keys zero t = []
root_keys (suc h) t = map (λ s. s.key) t.rest

unfoldable pub leaves_of : Store → List Leaf
leaves_of s = leaves s.depth s.root

unfoldable pub cells_of : Store → List Cell
cells_of s = gather (λ (l : Leaf). l.cells) (leaves_of s)

-- whether a store and its image look so
unfoldable pub seen : Store → List ℕ → Look → Bool
seen s image (starts p bytes) = same bytes (part image (512 * p) (length bytes))
seen s image (digest x) = eqb x (digest_from 0 0 image)
seen s image (height h) = eqb h (suc s.depth)
seen s image (root p) = eqb p (page_of s.depth s.root)
seen s image (separators ks) = same_lists ks (root_keys s.depth s.root)
seen s image (keys kss) = same_lists kss (map (λ (l : Leaf). map (λ (c : Cell). head_or 0 c.key) l.cells) (leaves_of s))
seen s image (costing xs) = same xs (map (λ (l : Leaf). costs l.cells) (leaves_of s))
seen s image (starting xs) = same xs (map (λ (l : Leaf). l.start) (leaves_of s))
seen s image (values vs) = same vs (map (λ (c : Cell). length c.value) (cells_of s))
seen s image (chains pss) = same_lists pss (map (λ (c : Cell). c.chain) (cells_of s))
seen s image (free ps) = same ps s.free
seen s image (free_pages x) = eqb x (length s.free)

unfoldable pub stage_passes : Run → Stage → Bool
stage_passes r g =
    let image = encode edition1 r.store in
    same g.answers r.answers && every (seen r.store image) g.sees && accepts edition1 image

unfoldable pub stages_pass : Store → List Stage → Bool
stages_pass s [] = true
stages_pass s (g ∷ gs) = let r = run s [] g.does in stage_passes r g && stages_pass r.store gs

unfoldable pub passes : Row → Bool
passes row = stages_pass (formatted 512 row.pages) row.stages

-- Damage -------------------------------------------------------------------------------------------------------------------

-- bytes that are written over those of a page, from an offset on
pub record Patch : Type 0 where
  pub page : ℕ
  pub at : ℕ
  pub bytes : List ℕ

unfoldable pub patched : List ℕ → List Patch → List ℕ
patched image [] = image
patched image (p ∷ ps) = patched (over image (512 * p.page + p.at) p.bytes) ps

-- a fresh store after some operations, and the damages that are done to its image, each by itself
pub record Damaged : Type 0 where
  pub pages : ℕ
  pub does : List Operation
  pub damages : List (List Patch)

-- check accepts the image, and refuses it with each of the damages
unfoldable pub refused_with : Damaged → Bool
refused_with d =
    let image = encode edition1 (run (formatted 512 d.pages) [] d.does).store in
    accepts edition1 image && every (λ ps. not (accepts edition1 (patched image ps))) d.damages

-- Keys, values and answers ---------------------------------------------------------------------------------------------------

-- a key of n bytes that starts with b, and a value of n bytes
unfoldable pub key : ℕ → ℕ → List ℕ
key n b = b ∷ replicate (n - 1) 0

unfoldable pub value : ℕ → List ℕ
value n = replicate n 7

-- the put and the delete of a cell of cost 101
unfoldable pub put_big : ℕ → Operation
put_big b = put (key 32 b) (value 64)

unfoldable pub delete_big : ℕ → Operation
delete_big b = delete (key 32 b)

-- n answers 0
unfoldable pub all_done : ℕ → List ℕ
all_done n = replicate n done

-- One name for all of this and for the definitions of the store: to unfold it is to unfold what its line names.
unfoldable pub computing_rows : Unit {0}
unfolding computing answering step run same_lists digest_from root_keys leaves_of cells_of seen stage_passes stages_pass passes patched refused_with key value put_big delete_big all_done
computing_rows = tt
