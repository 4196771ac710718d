-- A session: what it remembers, what begin leaves, when its image is the one that it began on, what a write answers, and when a revert may be.
use Rattle.std.specs.Result.{is_ok}
use Rattle.std.specs.Prelude.{ℕ, zero, suc, ◌+◌, ◌-◌, Bool, true, false, ◌&&◌, ◌||◌, cond, List, get_or, set, replicate, eqb, Result}
use Rattle.layout.specs.declared.Refusal.{Refusal}
use Rattle.std.proofs.lemmas.List.Edits.{sets}
use Rattle.number.specs.Ranges.{part}
use Rattle.number.specs.Bytes.{within, same_bytes}
use Rattle.layout.specs.declared.Slot.{Slot}
use Rattle.layout.specs.declared.Container.{Container}
use Rattle.layout.specs.Descriptors.{selector_offset}
use Rattle.layout.specs.Headers.{header_bytes}
use Rattle.layout.specs.Tables.{active, inactive}
use Rattle.layout.specs.Opening.{opened}
use Rattle.dpfs.specs.Staging.{begun}
use Rattle.ivfc.specs.declared.View.{View}
use Rattle.ivfc.specs.Views.{verified}
use Rattle.update.specs.Covering.{covered}
use Rattle.commits.specs.Committing.{stored_header}
use Rattle.views.specs.Places.{partitions, slot_of, partition_of, tree_of}
use Rattle.steps.specs.declared.Session.{Session}
use Rattle.steps.specs.Reading.{refuse_outside, refuse_lowest}

-- nothing remembered: 256 zero bytes, which are no header of an image that opens
unfoldable pub nothing : List ℕ
nothing = replicate 256 0

-- an idle session that remembers nothing
unfoldable pub idle : Session
idle = record { begun = false; header = nothing; later = nothing }

-- a begun one remembers the header
abbrev pub begun_with : (header : List ℕ) → Session
begun_with header = record { begun = true; header = header; later = nothing }

-- an idle one remembers the headers before and after the last commit in it
abbrev pub remembering : (former later : List ℕ) → Session
remembering former later = record { begun = false; header = former; later = later }

-- ---- begin

-- where a partition's selector stands in a table
abbrev pub selector_place : Slot → ℕ
selector_place slot = slot.descriptor.offset + selector_offset

-- a table with partition q's selector flipped
unfoldable pub selector_flipped : Container → (q : ℕ) → (table : List ℕ) → List ℕ
selector_flipped c q table = set table (selector_place (slot_of c q)) (1 - (partition_of c q).difi.selector)

-- something done for partition A and then, where there are two, for B
abbrev pub for_each : Container → (ℕ → List ℕ → List ℕ) → List ℕ → List ℕ
for_each c f x = cond (eqb (partitions c) 2) (f 1 (f 0 x)) (f 0 x)

-- the active table with each partition's selector flipped
unfoldable pub staged_table : Container → List ℕ → List ℕ
staged_table c image = for_each c (selector_flipped c) (part image (active c.header))

-- the inactive table becomes the active one with each partition's selector flipped
unfoldable pub table_begun : Container → List ℕ → List ℕ
table_begun c image = sets image (inactive c.header).offset (staged_table c image)

-- and each partition's other level 1 half becomes a copy of the live half
unfoldable pub begun_image : Container → List ℕ → List ℕ
begun_image c image = for_each c (λ (q : ℕ). begun (tree_of c q)) (table_begun c image)

-- ---- is the session's image the one that it began on

-- a place of a table lies in the master hash of partition q
unfoldable pub in_master : Container → (q i : ℕ) → Bool
in_master c q i =
    within ((slot_of c q).descriptor.offset + (partition_of c q).difi.master.offset) (partition_of c q).difi.master.size i

-- it lies in some master hash
abbrev pub in_some_master : Container → (i : ℕ) → Bool
in_some_master c i = in_master c 0 i || (eqb (partitions c) 2 && in_master c 1 i)

-- P holds at each number below n
unfoldable pub all_below : (n : ℕ) → (ℕ → Bool) → Bool
all_below zero P = true
all_below (suc n) P = all_below n P && P n

-- the inactive table is the active one with selectors flipped and any master hashes
unfoldable pub table_staged : Container → List ℕ → Bool
table_staged c image =
    all_below (inactive c.header).size
    (λ (i : ℕ). in_some_master c i || eqb (get_or image ((inactive c.header).offset + i) 0) (get_or (staged_table c image) i 0))

-- the header is the remembered one, and the inactive table is staged; else the session is refused with 14
unfoldable pub current : Container → List ℕ → Session → Bool
current c image session = same_bytes (header_bytes image) session.header && table_staged c image

-- ---- write

-- 10: a touched block that the write covers only in part is not verified
unfoldable pub ends_outcome : View → List ℕ → (place n : ℕ) → Result (Unit {0}) Refusal
ends_outcome view image place n =
    refuse_lowest (λ (b : ℕ). covered view.level4 place n b || verified view image 4 b) view place n

-- 9, 10: the last with the lowest block to which it applies
unfoldable pub write_outcome : View → List ℕ → (place n : ℕ) → Result (Unit {0}) Refusal
write_outcome view image place n = refuse_outside view place n (ends_outcome view image place n)

-- ---- revert (02: back, one step back)

-- the present header is as remembered, and the image opens under the former one; else the call is refused with 21
unfoldable pub revertible : List ℕ → (former later : List ℕ) → Bool
revertible image former later = same_bytes (header_bytes image) later && is_ok (opened (stored_header image former))
