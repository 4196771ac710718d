-- `bytes_of`: after i turns the first 4 i bytes are those of the first i words.
use mathlib.Core.Path.{◌≡◌}
use Prim.Native.Nat.{◌*◌}
use lib.ListN.{length, take}
use Rattle.sha256.specs.Sha256.{digest_bytes}
use Rattle.sha256.proofs.message.bytes_of.Given as goal

abbrev pub invariant-loop-i : goal.invariant-loop-i
invariant-loop-i l = (length l.out ≡ 32) × (take (l.i * 4) l.out ≡ digest_bytes (take l.i l.fn.hash))
