-- `hash_blocks`: after i turns the hash value is that of the first i blocks.
use mathlib.Core.Path.{◌≡◌}
use Prim.Native.Nat.{◌/◌, ◌≤◌}
use lib.ListN.{length}
use Rattle.sha256.specs.Sha256.{hashed}
use Rattle.sha256.proofs.block.hash_blocks.Given as goal

abbrev pub invariant-loop-i : goal.invariant-loop-i
invariant-loop-i l = (l.i ≤ length l.bytes / 64) × (l.h ≡ hashed l.initial.h l.bytes l.i)
