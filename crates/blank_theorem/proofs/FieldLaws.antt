-- A number written fieldBytes-endian is read back. Assumes nothing.
use Prim.Native.Nat.{ℕ, ◌+◌, ◌*◌, ◌/◌, ◌%◌, ◌^◌, ◌<◌}
use mathlib.Core.Path.{◌≡◌}
use native.Mathlib.Omega.{arith}
use native.Mathlib.Nat.{div-add-mod, mod-eq_of_lt}
use Rattle.number.specs.Fields.{le16, le32, le64, field_bytes}
use Rattle.blank.specs.Fields.{eight}

-- the digits of a number
digits : (x q0 q1 q2 q3 q4 q5 q6 r0 r1 r2 r3 r4 r5 r6 r7 : ℕ) → 256 * q0 + r0 ≡ x → 256 * q1 + r1 ≡ q0 → 256 * q2 + r2 ≡ q1 → 256 * q3 + r3 ≡ q2
    → 256 * q4 + r4 ≡ q3 → 256 * q5 + r5 ≡ q4 → 256 * q6 + r6 ≡ q5 → r7 ≡ q6
    → (r0 + 0x100 * r1 + 0x10000 * (r2 + 0x100 * r3)) + 0x100000000 * (r4 + 0x100 * r5 + 0x10000 * (r6 + 0x100 * r7)) ≡ x
digits x q0 q1 q2 q3 q4 q5 q6 r0 r1 r2 r3 r4 r5 r6 r7 e0 e1 e2 e3 e4 e5 e6 e7 = omega arith

small : (x q0 q1 q2 q3 q4 q5 q6 r0 r1 r2 r3 r4 r5 r6 : ℕ) → 256 * q0 + r0 ≡ x → 256 * q1 + r1 ≡ q0 → 256 * q2 + r2 ≡ q1 → 256 * q3 + r3 ≡ q2
    → 256 * q4 + r4 ≡ q3 → 256 * q5 + r5 ≡ q4 → 256 * q6 + r6 ≡ q5 → x < 0x10000000000000000 → q6 < 256
small x q0 q1 q2 q3 q4 q5 q6 r0 r1 r2 r3 r4 r5 r6 e0 e1 e2 e3 e4 e5 e6 h = omega arith

pub eight_read : (x : ℕ) → x < 2 ^ 64 → le64 (eight x) 0 ≡ x
unfolding le16 le32 le64 field_bytes
eight_read x h =
    let q0 : ℕ = x / 256 in
    let q1 : ℕ = q0 / 256 in
    let q2 : ℕ = q1 / 256 in
    let q3 : ℕ = q2 / 256 in
    let q4 : ℕ = q3 / 256 in
    let q5 : ℕ = q4 / 256 in
    let q6 : ℕ = q5 / 256 in
    let s : q6 < 256 = small x q0 q1 q2 q3 q4 q5 q6 _ _ _ _ _ _ _ (div-add-mod x 256) (div-add-mod q0 256) (div-add-mod q1 256) (div-add-mod q2 256)
    (div-add-mod q3 256) (div-add-mod q4 256) (div-add-mod q5 256) h in
    digits x q0 q1 q2 q3 q4 q5 q6 _ _ _ _ _ _ _ (q6 % 256) (div-add-mod x 256) (div-add-mod q0 256) (div-add-mod q1 256) (div-add-mod q2 256)
    (div-add-mod q3 256) (div-add-mod q4 256) (div-add-mod q5 256) (mod-eq_of_lt s)
