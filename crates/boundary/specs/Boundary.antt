-- How answers, sessions and descriptions pass the C boundary: as numbers and bytes.
use Rattle.std.specs.Prelude.{ℕ, ◌+◌, ◌*◌, ◌%◌, ◌^◌, ◌≡◌, not, cond, List, [], ◌∷◌, ◌++◌, get_or, take, drop, replicate, eqb, Result, Ok, Err, Option, Some, None}
use Rattle.layout.specs.declared.Refusal.{Refusal}
use Rattle.number.specs.declared.Range.{Range}
use Rattle.number.specs.declared.Level.{Level}
use Rattle.layout.specs.declared.Kind.{Kind}
use Rattle.layout.specs.declared.Kind.TheVariants.{Disa, Diff}
use Rattle.layout.specs.declared.Slot.{Slot}
use Rattle.layout.specs.declared.Header.{Header}
use Rattle.layout.specs.declared.Difi.{Difi}
use Rattle.layout.specs.declared.Ivfc.{Ivfc}
use Rattle.layout.specs.declared.Dpfs.{Dpfs}
use Rattle.layout.specs.declared.Partition.{Partition}
use Rattle.layout.specs.declared.Container.{Container}
use Rattle.layout.specs.Refusals.{Said}
use Rattle.steps.specs.declared.Ending.{Ending}
use Rattle.steps.specs.declared.Ending.TheVariants as ending
use Rattle.steps.specs.declared.Session.{Session}
use Rattle.steps.specs.Answers.{ending_says}
use Rattle.steps.specs.Calls.{After}

-- ---- an answer is one number of 64 bits

-- the low 8 bits are the number that the answer says; the bits above carry its value. By 01's limits on an image (this is not proved) a
-- number of blocks, faults or names, an entry's number and a length are all below 2^56, so that the remainder changes nothing; it makes the rule total
unfoldable pub packed : Said → ℕ
packed said = said.number % 2 ^ 8 + 2 ^ 8 * (said.value % 2 ^ 56)

-- ---- a session is 513 bytes: 0 for idle and anything else for begun, then the two headers that it remembers

unfoldable pub session_of : List ℕ → Session
session_of bytes = record { begun = not (eqb (get_or bytes 0 0) 0); header = take 256 (drop 1 bytes); later = take 256 (drop 257 bytes) }

unfoldable pub session_bytes : Session → List ℕ
session_bytes session = cond session.begun 1 0 ∷ (session.header ++ session.later)

-- a call that is accepted stores the session after it; one that is refused leaves the bytes alone
abbrev pub session_left : Ending → (before : List ℕ) → Session → List ℕ
session_left ending.Accepted before session = session_bytes session
session_left (ending.Refused r) before session = before
session_left ending.Dropped before session = session_bytes session

-- a write leaves them alone, unless it is dropped
abbrev pub write_left : Ending → (before : List ℕ) → Session → List ℕ
write_left ending.Accepted before session = before
write_left (ending.Refused r) before session = before
write_left ending.Dropped before session = session_bytes session

-- what a call on a session answers, and the image and the session's bytes that it leaves
pub record Called (left : Ending → (before : List ℕ) → Session → List ℕ) (answer : ℕ) (image : List ℕ) (before bytes : List ℕ) (after : After) : Type 0 where
  pub outcome : answer ≡ packed (ending_says after.outcome)
  pub stored : image ≡ after.image
  pub session : bytes ≡ left after.outcome before after.session

-- ---- a description is 80 numbers

abbrev pub range_numbers : Range → List ℕ
range_numbers r = r.offset ∷ r.size ∷ []

abbrev pub level_numbers : Level → List ℕ
level_numbers l = l.offset ∷ l.size ∷ l.log ∷ []

abbrev pub kind_number : Kind → ℕ
kind_number Disa = 0
kind_number Diff = 1

-- the other way, a kind's number counts modulo 2
abbrev pub kind_of : ℕ → Kind
kind_of number = cond (eqb (number % 2) 0) Disa Diff

-- 8 for the header
unfoldable pub header_numbers : Header → List ℕ
header_numbers h = kind_number h.kind ∷ h.count ∷ h.flag ∷ range_numbers h.secondary ++ range_numbers h.primary ++ 0 ∷ []

-- 13 for where a descriptor and its partition are, and what DIFI says
unfoldable pub piece_numbers : Slot → Difi → List ℕ
piece_numbers slot difi =
    range_numbers slot.descriptor ++ range_numbers slot.partition
    ++ range_numbers difi.ivfc ++ range_numbers difi.dpfs ++ range_numbers difi.master
    ++ cond difi.external 1 0 ∷ difi.selector ∷ difi.outside ∷ []

-- 23 for the levels, the last three unused
unfoldable pub levels_numbers : Ivfc → Dpfs → List ℕ
levels_numbers ivfc dpfs =
    level_numbers ivfc.level1 ++ level_numbers ivfc.level2 ++ level_numbers ivfc.level3 ++ level_numbers ivfc.level4
    ++ range_numbers dpfs.level1 ++ level_numbers dpfs.level2 ++ level_numbers dpfs.level3
    ++ replicate 3 0

-- 36 for each partition
unfoldable pub partition_numbers : Slot → Partition → List ℕ
partition_numbers slot p = piece_numbers slot p.difi ++ levels_numbers p.ivfc p.dpfs

-- B's are 0 where there is no B
abbrev pub second_numbers : Slot → Option Partition → List ℕ
second_numbers slot None = replicate 36 0
second_numbers slot (Some b) = partition_numbers slot b

unfoldable pub description : Container → List ℕ
description c = header_numbers c.header ++ partition_numbers c.header.a c.a ++ second_numbers c.header.b c.b

-- an image that does not open leaves the numbers alone
abbrev pub description_left : Result Container Refusal → (before : List ℕ) → List ℕ
description_left (Ok c) before = description c
description_left (Err r) before = before
