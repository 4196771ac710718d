-- What a write asks: the space and the staged view are those of the image itself, and the rules that these keep to.
use Rattle.std.specs.Prelude.{◌≡◌, List, true, false, not, ℕ, ◌+◌, ◌≤◌, ◌<◌, length, Ok, Some}
use Rattle.number.specs.Blocks.{block_of, last_block, touches}
use Rattle.number.specs.declared.Range.{Range}
use Rattle.number.specs.Ranges.{Apart}
use Rattle.layout.specs.declared.Container.{Container}
use Rattle.layout.specs.Opening.{opened}
use Rattle.dpfs.specs.declared.Tree.{Tree}
use Rattle.dpfs.specs.declared.Space.{Space}
use Rattle.dpfs.specs.Free.{InRange}
use Rattle.dpfs.specs.Rules.{SpaceRules, Among, BeyondAll}
use Rattle.ivfc.specs.declared.View.{View}
use Rattle.ivfc.specs.Rules.{ViewRules, LevelsApart}
use Rattle.ivfc.specs.Views.{verified}
use Rattle.views.specs.Places.{partitions, staged_view}
use Rattle.stores.specs.Rules.{OwnSpace}
use Rattle.update.specs.Covering.{covered}

-- where an external level 4 stands
abbrev pub outer_range : View → Range
outer_range view = record { offset = view.outside; size = view.level4.size }

-- it stands apart from the inactive table and from the trees
pub record OuterRules (space : Space) (view : View) : Type 0 where
  pub table : Apart space.table (outer_range view)
  pub a : BeyondAll (outer_range view) space.a
  pub b : (b : Tree) → space.b ≡ Some b → BeyondAll (outer_range view) b

-- the bytes of an external level 4 in a written range; of an internal one there are none
unfoldable pub InPlace : View → (x n : ℕ) → (i : ℕ) → Type 0
InPlace view x n i = (view.external ≡ true) × InRange (record { offset = view.outside + x; size = n }) i

-- the staged view of a partition, in an image of n bytes: its master hash stands in the inactive table
pub record StagedRules (space : Space) (view : View) (n : ℕ) : Type 0 where
  pub places : SpaceRules space n
  pub among : Among view.tree space
  pub rules : ViewRules view n
  pub outer : view.external ≡ true → OuterRules space view
  pub staged : view.half ≡ not view.tree.live
  pub separate : LevelsApart view
  pub master_from : space.table.offset ≤ view.master.offset
  pub master_to : view.master.offset + view.master.size ≤ space.table.offset + space.table.size

-- the image opens, and the view is the staged one of a partition of the container that it opens as
pub record OwnView (view : View) (image : List ℕ) : Type 0 where
  pub container : Container
  pub partition : ℕ
  pub there : partition < partitions container
  pub opens : opened image ≡ Ok container
  pub same : view ≡ staged_view container partition

-- and the space is that container's; both then keep to StagedRules
pub record StagedIn (space : Space) (view : View) (image : List ℕ) : Type 0 where
  pub places : OwnSpace space image
  pub seen : OwnView view image

-- bytes written to its level 4 from x on: each block that they touch is covered in full, or verified
pub record WriteRules (space : Space) (view : View) (image : List ℕ) (x : ℕ) (values : List ℕ) : Type 0 where
  pub own : StagedIn space view image
  pub fits : x + length values ≤ view.level4.size
  pub judged : (b : ℕ) → touches view.level4 x (length values) b ≡ true → covered view.level4 x (length values) b ≡ false
      → verified view image 4 b ≡ true

-- n bytes, at least one, of which `first` and `last` are the blocks of the first and the last: each of the two is covered in full, or verified
pub record EndsRules (space : Space) (view : View) (image : List ℕ) (x n first last : ℕ) : Type 0 where
  pub own : StagedIn space view image
  pub some : 0 < n
  pub fits : x + n ≤ view.level4.size
  pub start : first ≡ block_of view.level4 x
  pub stop : last ≡ last_block view.level4 x n
  pub judged_first : covered view.level4 x n first ≡ false → verified view image 4 first ≡ true
  pub judged_last : covered view.level4 x n last ≡ false → verified view image 4 last ≡ true
