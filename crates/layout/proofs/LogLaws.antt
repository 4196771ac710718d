-- A logarithm read as four bytes, and as the eight that were read before 02, W4: where the padding is zero they agree, so an image that was accepted has the
-- same logarithms. Assumes nothing.
use mathlib.Core.Path.{◌≡◌}
use mathlib.Core.List.{List}
use Prim.Native.Nat.{ℕ, ◌+◌, ◌≤◌}
use native.Mathlib.Omega.{arith}
use Rattle.number.specs.Fields.{le32, le64}
use Rattle.limits.specs.Limits.{most_log, log_at}

-- padding that is zero
pub widths_agree : (s : List ℕ) (at : ℕ) → le32 s (at + 4) ≡ 0 → log_at s at ≡ le64 s at
unfolding le64
widths_agree s at e = omega arith

-- what eight bytes said where they said an allowed logarithm: the padding was zero, and four bytes say the same
pub accepted_alike : (s : List ℕ) (at : ℕ) → le64 s at ≤ most_log → log_at s at ≡ le64 s at
unfolding le64
accepted_alike s at h = omega arith
