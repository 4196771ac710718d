-- `names::hashing::bucket_of` meets its contract. Assumes nothing.
use Prim.Native.Nat.{◌%◌, ◌^◌}
use mathlib.Core.Path.{◌≡◌}
use lib.Bits.{bit_xor}
use Rattle.names.specs.Searching.{rounds}
use Rattle.names.proofs.hashing.bucket_of.Given as goal

abbrev pub invariant-loop-i : goal.invariant-loop-i
invariant-loop-i l = l.h ≡ rounds (bit_xor (l.parent % 2 ^ 32) 0x091A2B3C) l.name l.i
