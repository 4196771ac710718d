-- The numbers of a blank image for n blocks of 0x1000 bytes, in the order of the request.
use Rattle.std.specs.Prelude.{ℕ, ◌+◌, ◌-◌, ◌*◌, ◌/◌, Bool, ◌&&◌, leb}
use Rattle.number.specs.declared.Level.{Level}

-- n is from 1 to 4096
unfoldable pub blocks_allowed : (n : ℕ) → Bool
blocks_allowed n = leb 1 n && leb n 4096

-- x / unit, rounded up
unfoldable pub up : (x unit : ℕ) → ℕ
up x unit = (x + (unit - 1)) / unit

-- the next multiple of the unit at or after x
unfoldable pub next : (x unit : ℕ) → ℕ
next x unit = unit * up x unit

-- the least multiple of the unit, in bytes, that has a bit for each of so many blocks
unfoldable pub bits_for : (count unit : ℕ) → ℕ
bits_for count unit = unit * up count (8 * unit)

-- ---- IVFC: the hash sizes, then levels 1 to 4 within DPFS level 3

unfoldable pub h3 : ℕ → ℕ
h3 n = 32 * n

unfoldable pub h2 : ℕ → ℕ
h2 n = 32 * up (h3 n) 0x1000

unfoldable pub h1 : ℕ → ℕ
h1 n = 32 * up (h2 n) 0x200

-- level 4's place
unfoldable pub place4 : ℕ → ℕ
place4 n = next (h1 n + h2 n + h3 n) 0x1000

abbrev pub ivfc1 : ℕ → Level
ivfc1 n = record { offset = 0; size = h1 n; log = 9 }

abbrev pub ivfc2 : ℕ → Level
ivfc2 n = record { offset = h1 n; size = h2 n; log = 9 }

abbrev pub ivfc3 : ℕ → Level
ivfc3 n = record { offset = h1 n + h2 n; size = h3 n; log = 12 }

abbrev pub ivfc4 : ℕ → Level
ivfc4 n = record { offset = place4 n; size = 0x1000 * n; log = 12 }

-- ---- DPFS: the size of one half of each level, and levels 1 to 3 within the partition

-- level 3's size is level 4's place plus its size
unfoldable pub size3 : ℕ → ℕ
size3 n = place4 n + 0x1000 * n

-- a bit for each block of level 3, in multiples of 0x80
unfoldable pub size2 : ℕ → ℕ
size2 n = bits_for (up (size3 n) 0x1000) 0x80

-- a bit for each block of level 2, in multiples of 4
unfoldable pub size1 : ℕ → ℕ
size1 n = bits_for (up (size2 n) 0x80) 4

-- level 2 directly after the first pair, level 3 at the next multiple of 0x1000 at or after the second
unfoldable pub place2 : ℕ → ℕ
place2 n = 2 * size1 n

unfoldable pub place3 : ℕ → ℕ
place3 n = next (place2 n + 2 * size2 n) 0x1000

abbrev pub dpfs1 : ℕ → Level
dpfs1 n = record { offset = 0; size = size1 n; log = 0 }

abbrev pub dpfs2 : ℕ → Level
dpfs2 n = record { offset = place2 n; size = size2 n; log = 7 }

abbrev pub dpfs3 : ℕ → Level
dpfs3 n = record { offset = place3 n; size = size3 n; log = 12 }

-- ---- the partition, at 0x1000, ends with level 3's pair, as the image does

abbrev pub partition_place : ℕ
partition_place = 0x1000

unfoldable pub partition_size : ℕ → ℕ
partition_size n = place3 n + 2 * size3 n

unfoldable pub image_size : ℕ → ℕ
image_size n = partition_place + partition_size n
