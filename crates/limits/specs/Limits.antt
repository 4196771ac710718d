-- Numbers an image must keep to, and the rules on them.
use Rattle.std.specs.Prelude.{ℕ, ◌*◌, ◌%◌, Bool, ◌&&◌, ◌||◌, List, leb, eqb}
use Rattle.number.specs.declared.Range.{Range}
use Rattle.number.specs.declared.Level.{Level}
use Rattle.number.specs.Fields.{le32}

-- ---- the image and its header

-- an image has 0x200 to 0x4000000 bytes
abbrev pub shortest_image : ℕ
shortest_image = 0x200

abbrev pub longest_image : ℕ
longest_image = 0x4000000

-- 1: the length
unfoldable pub length_allowed : ℕ → Bool
length_allowed n = leb shortest_image n && leb n longest_image

-- 3: there are 1 or 2 partitions, and the active flag is 0 or 1
abbrev pub count_allowed : (count : ℕ) → Bool
count_allowed count = eqb count 1 || eqb count 2

abbrev pub flag_allowed : (flag : ℕ) → Bool
flag_allowed flag = leb flag 1

-- 3: two ranges of which no field is set
abbrev pub zeros : Range → Range → Bool
zeros a b = eqb a.offset 0 && eqb a.size 0 && eqb b.offset 0 && eqb b.size 0

-- 4: a partition table has at most 0x2000 bytes (02, W2)
abbrev pub table_limit : ℕ
table_limit = 0x2000

abbrev pub table_allowed : (size : ℕ) → Bool
table_allowed size = leb size table_limit

-- ---- descriptors

-- descriptor pieces: DIFI 0x44 bytes, IVFC 0x78, DPFS 0x50
abbrev pub difi_size : ℕ
difi_size = 0x44

abbrev pub ivfc_size : ℕ
ivfc_size = 0x78

abbrev pub dpfs_size : ℕ
dpfs_size = 0x50

-- every size is at least 1; DPFS level 1 and 2 sizes are multiples of 4, IVFC level 1 to 3 sizes multiples of 32
abbrev pub word_size : ℕ
word_size = 4

abbrev pub entry_size : ℕ
entry_size = 32

-- 6: a level's size is at least 1 and a multiple of the unit
unfoldable pub size_allowed : (unit size : ℕ) → Bool
size_allowed unit size = leb 1 size && eqb (size % unit) 0

-- 6: the master hash has 1 to 64 entries of 32 bytes (02, W2)
abbrev pub most_entries : ℕ
most_entries = 64

abbrev pub master_allowed : ℕ → Bool
master_allowed size = size_allowed entry_size size && leb size (most_entries * entry_size)

-- the logarithms of IVFC levels 1 to 4 and DPFS level 3 are from 5 to 16, that of DPFS level 2 from 2 to 16
abbrev pub least_log : ℕ
least_log = 5

abbrev pub least_bits_log : ℕ
least_bits_log = 2

abbrev pub most_log : ℕ
most_log = 16

-- each block-size logarithm has four bytes; the four after it are padding (02, W4)
abbrev pub log_at : List ℕ → ℕ → ℕ
log_at s at = le32 s at

-- 6: a level's size, and its logarithm from the least allowed to 16
unfoldable pub level_allowed : (unit least : ℕ) → Level → Bool
level_allowed unit least l = size_allowed unit l.size && leb least l.log && leb l.log most_log
