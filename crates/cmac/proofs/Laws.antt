-- What other crates may cite: a code has 16 elements. Assumes nothing.
use mathlib.Core.Path.{◌≡◌}
use mathlib.Core.List.{List}
use Prim.Native.Nat.{ℕ}
use lib.ListN.{length}
use Rattle.aes.proofs.Laws.{length_aes128}
use Rattle.cmac.specs.Cmac.{cmac}

pub length_cmac : (key m : List ℕ) → length (cmac key m) ≡ 16
unfolding cmac
length_cmac key m = length_aes128 key _
