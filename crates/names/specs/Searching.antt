-- W11's search: a file by its folder's number and its 16 name bytes, along the chain of its bucket.
use Rattle.std.specs.Prelude.{ℕ, zero, suc, ◌+◌, ◌*◌, ◌/◌, ◌%◌, ◌^◌, Bool, cond, ◌&&◌, List, [], ◌∷◌, eqb, get_or, Result, Ok, Err, Option, Some, None}
use Rattle.std.specs.Int.Bits.{bit_xor, bit_or}
use Rattle.names.specs.declared.EntryError.{EntryError}
use Rattle.names.specs.declared.EntryError.TheVariants as entry
use Rattle.number.specs.Fields.{le32}
use Rattle.number.specs.Bytes.{same_bytes}
use Rattle.names.specs.declared.Save.{Save}
use Rattle.names.specs.Entries.{admit, read_at, place, name}
use Rattle.names.specs.Listing.{Entry, file, seen_file}

-- ---- document 004's GetBucket, for 32-bit words

-- one round: a turn to the right by one bit, then four bytes of the name
unfoldable pub round : (h a b c d : ℕ) → ℕ
round h a b c d =
    bit_xor (bit_xor (bit_xor (bit_xor (bit_or (h / 2 ^ 1) (h * 2 ^ 31 % 2 ^ 32)) a) (b * 2 ^ 8 % 2 ^ 32)) (c * 2 ^ 16 % 2 ^ 32)) (d * 2 ^ 24 % 2 ^ 32)

unfoldable pub rounds : (h : ℕ) → List ℕ → (n : ℕ) → ℕ
rounds h n zero = h
rounds h n (suc i) = round (rounds h n i) (get_or n (4 * i) 0) (get_or n (4 * i + 1) 0) (get_or n (4 * i + 2) 0) (get_or n (4 * i + 3) 0)

-- the folder's number goes in as a word of 32 bits
unfoldable pub bucket : (name : List ℕ) → (parent count : ℕ) → ℕ
bucket n parent count = rounds (bit_xor (parent % 2 ^ 32) 0x091A2B3C) n 4 % count

-- ---- the chain

-- the entry is the file that is looked for
unfoldable pub named : Save → (level4 : List ℕ) → (parent : ℕ) → (wanted : List ℕ) → ℕ → Bool
named s level4 parent wanted f = eqb (le32 level4 (place s.files f)) parent && same_bytes (name s.files level4 f) wanted

abbrev pub next_in_bucket : Save → (level4 : List ℕ) → ℕ → ℕ
next_in_bucket s level4 f = le32 level4 (place s.files f + 0x2C)

-- one entry of a chain: the next one's number, or the search's answer, the file's entry number or none
pub data Link : Type 0 where
  goes : ℕ → Link
  ends : Result (Option ℕ) EntryError → Link

abbrev pub along : Link → (ℕ → Result (Option ℕ) EntryError) → Result (Option ℕ) EntryError
along (goes f) on = on f
along (ends a) on = a

module _ (s : Save) (level4 : List ℕ) (stands : List Bool) (parent : ℕ) (wanted : List ℕ) where
  -- an entry that may be met is the answer, or the chain goes on
  abbrev pub linked : Result ℕ EntryError → ℕ → Link
  linked (Ok at) f = cond (named s level4 parent wanted f) (ends (Ok (Some f))) (goes (next_in_bucket s level4 f))
  linked (Err e) f = ends (Err e)

  -- entry f, where `again` says that it was met before; 0 ends the chain
  unfoldable pub link_at : (again : Bool) → ℕ → Link
  link_at again f = cond (eqb f 0) (ends (Ok None)) (linked (admit stands s.log s.files again f) f)

  -- the chain from f on, with the entries met so far. The first argument bounds the steps; it never decides (Laws.antt).
  unfoldable pub chain_in : (steps : ℕ) → (f : ℕ) → List Entry → Result (Option ℕ) EntryError
  chain_in zero f met = Err entry.Invalid
  chain_in (suc n) f met = along (link_at (seen_file met f) f) (λ g. chain_in n g (file f ∷ met))

  unfoldable pub chain : (f : ℕ) → List Entry → Result (Option ℕ) EntryError
  chain f met = chain_in (suc s.files.max) f met

  -- the bucket's word is read whole, then its chain is followed
  abbrev pub chain_at : Result ℕ EntryError → Result (Option ℕ) EntryError
  chain_at (Ok at) = chain (le32 level4 at) []
  chain_at (Err e) = Err e

  unfoldable pub found : Result (Option ℕ) EntryError
  found = chain_at (read_at stands s.log (s.hash + 4 * bucket wanted parent s.buckets) 4)
