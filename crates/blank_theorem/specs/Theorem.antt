-- What a blank image opens as, and what holds of its blocks.
use Rattle.std.specs.Prelude.{ℕ, ◌*◌, ◌≤◌, ◌<◌, true, false, ◌≡◌, Ok, None}
use Rattle.number.specs.Blocks.{blocks}
use Rattle.layout.specs.declared.Kind.{Kind}
use Rattle.layout.specs.declared.Slot.{Slot}
use Rattle.layout.specs.declared.Header.{Header}
use Rattle.layout.specs.declared.Partition.{Partition}
use Rattle.layout.specs.declared.Container.{Container}
use Rattle.layout.specs.Headers.{no_slot}
use Rattle.layout.specs.Opening.{opened}
use Rattle.ivfc.specs.Views.{level_of, verified, content_of}
use Rattle.views.specs.Places.{committed_view}
use Rattle.blank.specs.Sizes.{ivfc1, ivfc2, ivfc3, ivfc4, dpfs2, dpfs3, size1, partition_place, partition_size}
use Rattle.blank.specs.Image.{secondary_place, primary_place, table_size, image}

-- ---- every field that opening reads

abbrev pub slot : ℕ → Slot
slot n = record {
  descriptor = record { offset = 0; size = table_size };
  partition = record { offset = partition_place; size = partition_size n };
}

unfoldable pub header_of : Kind → ℕ → Header
header_of kind n = record {
  kind = kind;
  count = 1;
  flag = 0;
  secondary = record { offset = secondary_place; size = table_size };
  primary = record { offset = primary_place; size = table_size };
  a = slot n;
  b = no_slot;
}

unfoldable pub partition : ℕ → Partition
partition n = record {
  difi = record {
    ivfc = record { offset = 0x44; size = 0x78 };
    dpfs = record { offset = 0xBC; size = 0x50 };
    master = record { offset = 0x10C; size = 0x20 };
    external = false;
    selector = 0;
    outside = 0;
  };
  ivfc = record { level1 = ivfc1 n; level2 = ivfc2 n; level3 = ivfc3 n; level4 = ivfc4 n };
  dpfs = record { level1 = record { offset = 0; size = size1 n }; level2 = dpfs2 n; level3 = dpfs3 n };
}

abbrev pub container : Kind → ℕ → Container
container kind n = record { header = header_of kind n; a = partition n; b = None }

-- ---- what holds of a blank image

pub record Blank (kind : Kind) (n : ℕ) : Type 0 where
  -- it opens, with exactly these fields
  pub opens : opened (image kind n) ≡ Ok (container kind n)
  -- level 4 has n blocks, and all its bytes are zero
  pub count : blocks (committed_view (container kind n) 0).level4 ≡ n
  pub zero : (y : ℕ) → y < 0x1000 * n → content_of (committed_view (container kind n) 0) (image kind n) 4 y ≡ 0
  -- every block of every level is verified
  pub verifies : (i b : ℕ) → i ≤ 4 → b < blocks (level_of (committed_view (container kind n) 0) i)
      → verified (committed_view (container kind n) 0) (image kind n) i b ≡ true
