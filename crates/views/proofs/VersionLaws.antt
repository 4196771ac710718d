-- The version that a view shows: its bytes and its flags, one by one, and how many there are. Assumes nothing.
use mathlib.Core.Path.{◌≡◌, ap, ◌∙◌}
use mathlib.Core.Bool.{false}
use mathlib.Core.List.{List}
use Prim.Native.Nat.{ℕ, ◌+◌, ◌<◌}
use native.Mathlib.Omega.{arith}
use lib.ListN.{length, get_or}
use Rattle.number.specs.Blocks.{blocks}
use Rattle.number.proofs.ListLaws.{length_bytes, get_d_bytes}
use Rattle.ivfc.specs.declared.View.{View}
use Rattle.ivfc.specs.Views.{content_of, verified}
use Rattle.views.specs.Versions.{version_of}
use Rattle.views.proofs.FlagLaws.{length_flags, get_d_flags}

pub version_byte : (view : View) (image : List ℕ) (i : ℕ) → i < view.level4.size → get_or (version_of view image).bytes i 0 ≡ content_of view image 4 i
unfolding version_of
version_byte view image i h =
    let z : 0 + i ≡ i = omega arith in
    get_d_bytes (content_of view image 4) 0 view.level4.size i h ∙ ap (content_of view image 4) z

pub version_flag : (view : View) (image : List ℕ) (b : ℕ) → b < blocks view.level4 → get_or (version_of view image).verified b false ≡ verified view image 4 b
unfolding version_of
version_flag view image b h =
    let z : 0 + b ≡ b = omega arith in
    get_d_flags (verified view image 4) 0 (blocks view.level4) b h ∙ ap (verified view image 4) z

pub version_size : (view : View) (image : List ℕ) → length (version_of view image).bytes ≡ view.level4.size
unfolding version_of
version_size view image = length_bytes (content_of view image 4) 0 view.level4.size

pub version_count : (view : View) (image : List ℕ) → length (version_of view image).verified ≡ blocks view.level4
unfolding version_of
version_count view image = length_flags (verified view image 4) 0 (blocks view.level4)
