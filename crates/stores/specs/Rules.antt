-- What the stores of this crate ask. A space that is handed in is the image's own, so that its free bytes are those that 01 lets a session
-- store to, and every copy goes to free bytes.
use Rattle.std.specs.Prelude.{◌≡◌, List, Bool, not, ◌⊎◌, ℕ, ◌+◌, ◌*◌, ◌≤◌, ◌<◌, length, Ok}
use Rattle.number.specs.declared.Level.{Level}
use Rattle.number.specs.Blocks.{blocks, block_of}
use Rattle.dpfs.specs.declared.Space.{Space}
use Rattle.dpfs.specs.Free.{Free}
use Rattle.dpfs.specs.Tree.{place}
use Rattle.layout.specs.declared.Container.{Container}
use Rattle.layout.specs.Opening.{opened}
use Rattle.views.specs.Places.{space_of}

-- the image opens, and the space is that of the container that it opens as
pub record OwnSpace (space : Space) (image : List ℕ) : Type 0 where
  pub container : Container
  pub opens : opened image ≡ Ok container
  pub same : space ≡ space_of container

-- what a copy of n bytes asks: both places lie in the image and apart, and the target is free
pub record CopyRules (space : Space) (image : List ℕ) (source target n : ℕ) : Type 0 where
  pub own : OwnSpace space image
  pub from : source + n ≤ length image
  pub to : target + n ≤ length image
  pub apart : (source + n ≤ target) ⊎ (target + n ≤ source)
  pub free : (m : ℕ) → m < n → Free space image (target + m)

-- what the copy of block b of a level from one half to the other asks: the level lies in the image and has the block, and the other half's
-- copy of it is free
pub record BlockRules (space : Space) (image : List ℕ) (l : Level) (second : Bool) (b : ℕ) : Type 0 where
  pub own : OwnSpace space image
  pub log : l.log ≤ 16
  pub inside : l.offset + 2 * l.size ≤ length image
  pub exists : b < blocks l
  pub free : (y : ℕ) → y < l.size → block_of l y ≡ b → Free space image (place l (not second) y)
