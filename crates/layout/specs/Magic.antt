-- The eight bytes that open a header and each piece of a descriptor: four letters, 00 00, a version, 00.
use Rattle.std.specs.Prelude.{ℕ, Bool, List, [], ◌∷◌}
use Rattle.number.specs.Ranges.{part}
use Rattle.number.specs.Bytes.{same_bytes}

-- the first eight bytes are those of the magic
unfoldable pub opens_with : List ℕ → (magic : List ℕ) → Bool
opens_with s magic = same_bytes (part s (record { offset = 0; size = 8 })) magic

-- "DISA", 00 00 04 00
abbrev pub disa_magic : List ℕ
disa_magic = 0x44 ∷ 0x49 ∷ 0x53 ∷ 0x41 ∷ 0 ∷ 0 ∷ 4 ∷ 0 ∷ []

-- "DIFF", 00 00 03 00
abbrev pub diff_magic : List ℕ
diff_magic = 0x44 ∷ 0x49 ∷ 0x46 ∷ 0x46 ∷ 0 ∷ 0 ∷ 3 ∷ 0 ∷ []

-- "DIFI", 00 00 01 00
abbrev pub difi_magic : List ℕ
difi_magic = 0x44 ∷ 0x49 ∷ 0x46 ∷ 0x49 ∷ 0 ∷ 0 ∷ 1 ∷ 0 ∷ []

-- "IVFC", 00 00 02 00
abbrev pub ivfc_magic : List ℕ
ivfc_magic = 0x49 ∷ 0x56 ∷ 0x46 ∷ 0x43 ∷ 0 ∷ 0 ∷ 2 ∷ 0 ∷ []

-- "DPFS", 00 00 01 00
abbrev pub dpfs_magic : List ℕ
dpfs_magic = 0x44 ∷ 0x50 ∷ 0x46 ∷ 0x53 ∷ 0 ∷ 0 ∷ 1 ∷ 0 ∷ []
