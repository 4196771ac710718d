-- The two tables.
use Rattle.std.specs.Prelude.{ℕ, Bool, cond, List, eqb}
use Rattle.number.specs.declared.Range.{Range}
use Rattle.number.specs.Ranges.{part}
use Rattle.number.specs.Bytes.{same_bytes}
use Rattle.sha256.specs.Sha256.{sha256}
use Rattle.layout.specs.Headers.{hash_range}
use Rattle.layout.specs.declared.Kind.{Kind}
use Rattle.layout.specs.declared.Header.{Header}

-- flag 0 is the primary table, 1 the secondary
unfoldable pub active : Header → Range
active h = cond (eqb h.flag 0) h.primary h.secondary

-- the other one, whose contents are not judged on opening
unfoldable pub inactive : Header → Range
inactive h = cond (eqb h.flag 0) h.secondary h.primary

-- the header's 32 hash bytes are the SHA-256 of the active table
unfoldable pub table_matches : Kind → (header table : List ℕ) → Bool
table_matches kind header table = same_bytes (part header (hash_range kind)) (sha256 table)
