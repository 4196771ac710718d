-- What opening an image answers, of its length, its header's bytes and its active table's bytes. The checks come in the order 1 to 5,
-- A's 6 then 7, B's 6 then 7; the first that fails decides the answer.
use Rattle.std.specs.Prelude.{ℕ, cond, List, length, eqb, Result, Ok, Err, Some, None}
use Rattle.layout.specs.declared.Container.{Container}
use Rattle.layout.specs.declared.Refusal.{Refusal}
use Rattle.number.specs.Ranges.{part}
use Rattle.limits.specs.Limits.{length_allowed}
use Rattle.layout.specs.Headers.{header_bytes, judged_header}
use Rattle.layout.specs.Tables.{active, table_matches}
use Rattle.layout.specs.Descriptors.{judged_partition}
use Rattle.layout.specs.declared.Header.{Header}
use Rattle.layout.specs.declared.Slot.{Slot}
use Rattle.layout.specs.declared.Partition.{Partition}
use Rattle.layout.specs.declared.Refusal.TheVariants.{Length, TableHash}

-- a partition, judged by its descriptor in the active table
abbrev pub judged_slot : (table : List ℕ) → Slot → Result Partition Refusal
judged_slot table slot = judged_partition slot.partition.size (part table slot.descriptor)

-- B judged: the last check
abbrev pub after_b : Header → (a : Partition) → Result Partition Refusal → Result Container Refusal
after_b h a (Err r) = Err r
after_b h a (Ok b) = Ok (record { header = h; a = a; b = Some b })

-- A judged: B is next, where there is a B
abbrev pub after_a : Header → (table : List ℕ) → Result Partition Refusal → Result Container Refusal
after_a h table (Err r) = Err r
after_a h table (Ok a) =
    cond (eqb h.count 2) (after_b h a (judged_slot table h.b)) (Ok (record { header = h; a = a; b = None }))

-- 5: the active table's SHA-256; A is next
unfoldable pub after_table : Header → (header table : List ℕ) → Result Container Refusal
after_table h header table =
    cond (table_matches h.kind header table) (after_a h table (judged_slot table h.a)) (Err TableHash)

-- 2 to 4 judged: the active table is next
abbrev pub after_header : (header image : List ℕ) → Result Header Refusal → Result Container Refusal
after_header header image (Err r) = Err r
after_header header image (Ok h) = after_table h header (part image (active h))

-- 1, then 2 to 4, of a header that is handed in. The code of a revert (02, W13) asks this: what the image with that header in its place opens as
-- (proofs/UnderLaws.antt)
unfoldable pub opened_under : (header image : List ℕ) → Result Container Refusal
opened_under header image =
    cond (length_allowed (length image)) (after_header header image (judged_header (length image) header)) (Err Length)

-- an image opens under its own
unfoldable pub opened : (image : List ℕ) → Result Container Refusal
opened image = opened_under (header_bytes image) image
