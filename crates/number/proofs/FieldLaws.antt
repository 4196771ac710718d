-- Fields read byte by byte. Assumes nothing.
use Prim.Native.Nat.{ℕ, ◌+◌, ◌-◌, ◌*◌, ◌≤◌, ◌<◌}
use mathlib.Core.List.{List}
use mathlib.Core.Path.{◌≡◌, ◌∙◌, refl, ap}
use native.Mathlib.Omega.{arith}
use lib.ListN.{get_or, take, drop}
use mir.Syntax.{w32, w64}
use Rattle.std.specs.Int.{from_le_bytes}
use Rattle.number.specs.Fields.{le16, le32, le64}
use Rattle.number.proofs.ListLaws.{get_d_part}

module _ (s bytes : List ℕ) (at size : ℕ) (f : (k : ℕ) → k < size → get_or bytes k 0 ≡ get_or s (at + k) 0) where
  read : (k x : ℕ) → k < size → at + k ≡ x → get_or bytes k 0 ≡ get_or s x 0
  read k x h e = f k h ∙ ap (λ (y : ℕ). get_or s y 0) e

  four_sum : from_le_bytes w32 bytes ≡ get_or bytes 0 0 + get_or bytes 1 0 * 0x100 + get_or bytes 2 0 * 0x10000 + get_or bytes 3 0 * 0x1000000
  four_sum = refl

  pub four_read : 4 ≤ size → from_le_bytes w32 bytes ≡ le32 s at
  unfolding le32 le16
  four_read h =
      four_sum
      ∙ omega (
        arith,
        read 0 at (omega arith) (omega arith),
        read 1 (at + 1) (omega arith) refl,
        read 2 (at + 2) (omega arith) refl,
        read 3 (at + 2 + 1) (omega arith) (omega arith),
      )

  eight_sum : from_le_bytes w64 bytes
      ≡ get_or bytes 0 0 + get_or bytes 1 0 * 0x100 + get_or bytes 2 0 * 0x10000 + get_or bytes 3 0 * 0x1000000 + get_or bytes 4 0 * 0x100000000
      + get_or bytes 5 0 * 0x10000000000 + get_or bytes 6 0 * 0x1000000000000 + get_or bytes 7 0 * 0x100000000000000
  eight_sum = refl

  pub eight_read : 8 ≤ size → from_le_bytes w64 bytes ≡ le64 s at
  unfolding le64 le32 le16
  eight_read h =
      eight_sum
      ∙ omega (
        arith,
        read 0 at (omega arith) (omega arith),
        read 1 (at + 1) (omega arith) refl,
        read 2 (at + 2) (omega arith) refl,
        read 3 (at + 2 + 1) (omega arith) (omega arith),
        read 4 (at + 4) (omega arith) refl,
        read 5 (at + 4 + 1) (omega arith) (omega arith),
        read 6 (at + 4 + 2) (omega arith) (omega arith),
        read 7 (at + 4 + 2 + 1) (omega arith) (omega arith),
      )

-- the bytes of a part that starts at the place
pub part_read : (s bytes : List ℕ) (at end size : ℕ) → end ≡ at + size → ((k : ℕ) → k < size → get_or bytes k 0 ≡ get_or (take (end - at) (drop at s)) (0 + k) 0)
    → (k : ℕ) → k < size → get_or bytes k 0 ≡ get_or s (at + k) 0
part_read s bytes at end size e f k h =
    let z : 0 + k ≡ k = omega arith in
    f k h ∙ ap (λ (j : ℕ). get_or (take (end - at) (drop at s)) j 0) z ∙ get_d_part s at (end - at) k (omega arith)
