-- What other crates may cite: an encryption has 16 elements. Assumes nothing.
use mathlib.Core.Path.{◌≡◌, refl}
use mathlib.Core.List.{List}
use Prim.Native.Nat.{ℕ}
use lib.ListN.{length}
use Rattle.aes.specs.Aes.{Cipher, aes128}

pub length_aes128 : (key input : List ℕ) → length (aes128 key input) ≡ 16
unfolding aes128 Cipher
length_aes128 key input = refl
