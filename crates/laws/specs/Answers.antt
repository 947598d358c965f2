-- What the calls answer with, in words of the map and of the walk: a field for each phrase.
use Rattle.std.specs.Prelude.{◌≡◌, ◌↔◌, true, List, ◌∷◌, ◌++◌, ℕ, suc, ◌+◌, ◌≤◌, ◌<◌, length, drop}
use Rattle.octets.specs.Runs.{part}
use Rattle.model.specs.Lists.{gather, total}
use Rattle.model.specs.Edition.{Edition}
use Rattle.model.specs.Types.{Store, Entry, leaves, to_map, walked}
use Rattle.model.specs.Accept.{accepts}
use Rattle.model.specs.Refusals.{done}
use Rattle.model.specs.Calls.{Checked, Viewed, Scanned, entry_bytes, entry_size}
use Rattle.laws_image.specs.Marks.{chains}
use Rattle.model.proofs.Sums.{is}
use Rattle.laws.specs.Ready.{map_of}

-- Check -------------------------------------------------------------------------------------------------------------------

-- how many pages the walk meets in a role
unfoldable pub in_role : ℕ → Store → ℕ
in_role r s = total (λ m. is r m.role) (walked s)

-- "Check returns the count of pages in each role, the height and the entry count"
pub record Counted (s : Store) (c : Checked) : Type 0 where
  pub refusal : c.refusal ≡ done
  -- "check's counts, which are the walk's"
  pub leaf-role : c.leaf_pages ≡ in_role 1 s
  pub inner-role : c.inner_pages ≡ in_role 2 s
  pub overflow-role : c.overflow_pages ≡ in_role 3 s
  pub free-role : c.free_pages ≡ in_role 4 s
  pub header_role : c.header_pages ≡ 1
  pub all-roles : c.leaf_pages + c.inner_pages + c.overflow_pages + c.free_pages + c.header_pages ≡ s.n
  -- of the leaves, the values' chains and the free list
  pub leaf-pages : c.leaf_pages ≡ length (leaves s.depth s.root)
  pub overflow-pages : c.overflow_pages ≡ length (chains s.depth s.root)
  pub free-pages : c.free_pages ≡ length s.free
  pub height : c.height ≡ suc s.depth
  pub entries : c.entries ≡ length (to_map s)

-- View --------------------------------------------------------------------------------------------------------------------

-- "a part of the image": it holds exactly the value's bytes
pub record Shows (image v : List ℕ) (c : Viewed) : Type 0 where
  pub size : c.length ≡ length v
  pub within : c.at + c.length ≤ length image
  pub there : part image c.at c.length ≡ v

-- Scan --------------------------------------------------------------------------------------------------------------------

-- the longest prefix of the entries that fits into so many bytes, and the entries that remain: "stops before the first that doesn't fit"
pub record Longest (room : ℕ) (es written rest : List Entry) : Type 0 where
  pub prefix : es ≡ written ++ rest
  pub fits : total entry_size written ≤ room
  pub stops : (e : Entry) (further : List Entry) → rest ≡ e ∷ further → room < total entry_size written + entry_size e

-- "gives entries written, bytes written, and whether entries of the range remain. Output past the bytes written stays"
pub record Scans (es : List Entry) (out : List ℕ) (c : Scanned) : Type 0 where
  pub written : List Entry
  pub rest : List Entry
  pub longest : Longest (length out) es written rest
  pub refusal : c.refusal ≡ done
  pub entries : c.entries ≡ length written
  pub bytes : c.bytes ≡ length (gather entry_bytes written)
  pub remain : (c.more ≡ true) ↔ (1 ≤ length rest)
  pub output : c.out ≡ gather entry_bytes written ++ drop c.bytes out

-- Put and delete ----------------------------------------------------------------------------------------------------------

-- an accepted image whose map is what a change makes of the map before
pub record Becomes (E : Edition) (change : List Entry → List Entry) (image after : List ℕ) : Type 0 where
  pub accepted : accepts E after ≡ true
  pub mapped : map_of E after ≡ change (map_of E image)
