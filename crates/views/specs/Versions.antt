-- A version: level 4's bytes, and which of its blocks are verified.
use Rattle.std.specs.Prelude.{ℕ, zero, suc, Bool, List, [], ◌∷◌}
use Rattle.number.specs.declared.Level.{Level}
use Rattle.number.specs.Blocks.{blocks}
use Rattle.number.specs.Bytes as number
use Rattle.ivfc.specs.declared.View.{View}
use Rattle.ivfc.specs.Views.{content_of}
use Rattle.ivfc.specs.Views as ivfc

-- `level` is level 4: its size and the logarithm of its blocks tell which bytes are a block's
pub record Version : Type 0 where
  pub level : Level
  pub bytes : List ℕ
  pub verified : List Bool

-- whether P holds at each of n numbers from b on
unfoldable pub flags : (P : ℕ → Bool) → (b n : ℕ) → List Bool
flags P b zero = []
flags P b (suc n) = P b ∷ flags P (suc b) n

-- the version that a view of an image shows
unfoldable pub version_of : View → List ℕ → Version
version_of view image = record {
  level = view.level4;
  bytes = number.bytes (content_of view image 4) 0 view.level4.size;
  verified = flags (ivfc.verified view image 4) 0 (blocks view.level4);
}
