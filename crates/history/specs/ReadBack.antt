-- A write on any image that opens, with any session value: the same rules read it back, staged and, once it is committed, committed. The closed
-- statement; proofs/ReadBack.antt proves it.
use Rattle.std.specs.Prelude.{◌≡◌, ℕ, ◌≤◌, ◌<◌, true, false, ◌||◌, List, length, Ok}
use Rattle.number.specs.Blocks.{blocks, block_of, last_block, touches}
use Rattle.number.specs.Bytes.{overlay}
use Rattle.layout.specs.declared.Container.{Container}
use Rattle.layout.specs.Opening.{opened}
use Rattle.ivfc.specs.Blocks.{parent}
use Rattle.ivfc.specs.Views.{level_of, content_of, verified}
use Rattle.update.specs.Writing.{Held}
use Rattle.update.specs.Staged.{plainly_written, holds_zero}
use Rattle.views.specs.Places.{partitions, partition_of, committed_view, staged_view}
use Rattle.views.specs.Protected.{AgreesBut, Agrees}
use Rattle.steps.specs.declared.Session.{Session}
use Rattle.steps.specs.Sessions.{idle}
use Rattle.steps.specs.Calls.{read_committed, read_staged, write}
use Rattle.history.specs.Model.{Form, Commit, Accepted, Dropped, ending_of}
use Rattle.history.specs.Run.{State, ruled, next}
use Rattle.views.specs.Versions.{version_of}
use Rattle.history.specs.External.{InPlace, AlikeIn}

-- what a write leaves of the committed views, where its level 4 is internal: all of them, whole
pub record Spares (c : Container) (image after : List ℕ) : Type 0 where
  pub stores : Agrees c image after
  pub committed : (p : ℕ) → p < partitions c → version_of (committed_view c p) after ≡ version_of (committed_view c p) image

-- where it is external, it is written in place: the committed view has the bytes at once, under its old entries
pub record WritesInPlace (c : Container) (q place : ℕ) (bytes image after : List ℕ) : Type 0 where
  pub stores : AgreesBut (InPlace c q place (length bytes)) c image after
  pub laid : (y : ℕ) → y < (committed_view c q).level4.size
      → content_of (committed_view c q) after 4 y ≡ overlay (content_of (committed_view c q) image 4) place bytes y
  pub entries : (i y : ℕ) → i ≤ 3 → y < (level_of (committed_view c q) i).size
      → content_of (committed_view c q) after i y ≡ content_of (committed_view c q) image i y
  -- so each block that the bytes don't touch stays, and so does the other partition, whole
  pub untouched : (b : ℕ) → b < blocks (committed_view c q).level4 → touches (committed_view c q).level4 place (length bytes) b ≡ false
      → AlikeIn b (version_of (committed_view c q) after) (version_of (committed_view c q) image)
  pub others : (p : ℕ) → p < partitions c → (q ≡ p → ⊥) → version_of (committed_view c p) after ≡ version_of (committed_view c p) image

-- what a write to partition q that was not refused leaves of an image, whatever its digests are
pub record Leaves (c : Container) (q place : ℕ) (bytes image after : List ℕ) : Type 0 where
  -- level 4's bytes are laid over what was staged
  pub laid : (y : ℕ) → y < (staged_view c q).level4.size
      → content_of (staged_view c q) after 4 y ≡ overlay (content_of (staged_view c q) image 4) place bytes y
  -- the entries of the written blocks, and of the hash blocks above them, are their digests
  pub digests : 0 < length bytes
      → Held (level_of (staged_view c q)) (content_of (staged_view c q) after) 4 (block_of (staged_view c q).level4 place) (last_block (staged_view c q).level4 place (length bytes))
  -- where the hash block above each written block was verified, none is rebuilt
  pub plain : 0 < length bytes
      → ((b : ℕ) → touches (staged_view c q).level4 place (length bytes) b ≡ true → verified (staged_view c q) image 3 (parent (staged_view c q).level3 b) ≡ true)
      → after ≡ plainly_written (staged_view c q) place bytes image
  -- what is staged of the other partition stays
  pub others : (p : ℕ) → p < partitions c → (q ≡ p → ⊥) → version_of (staged_view c p) after ≡ version_of (staged_view c p) image
  -- and what is committed
  pub internal : (partition_of c q).difi.external ≡ false → Spares c image after
  pub external : (partition_of c q).difi.external ≡ true → WritesInPlace c q place bytes image after

-- accepted: none of these digests is all zero, a block of level 4 is verified exactly if it was written or was verified before, and the session stays
pub record Accepts (c : Container) (q place : ℕ) (bytes image after : List ℕ) (before left : Session) : Type 0 where
  pub leaves : Leaves c q place bytes image after
  pub sound : holds_zero (staged_view c q) place bytes after ≡ false
  pub vouched : (b : ℕ) → b < blocks (staged_view c q).level4
      → verified (staged_view c q) after 4 b ≡ (touches (staged_view c q).level4 place (length bytes) b || verified (staged_view c q) image 4 b)
  pub session : left ≡ before

-- dropped, with 17: one of them is all zero, and the session is idle and remembers nothing
pub record Drops (c : Container) (q place : ℕ) (bytes image after : List ℕ) (left : Session) : Type 0 where
  pub leaves : Leaves c q place bytes image after
  pub zero : holds_zero (staged_view c q) place bytes after ≡ true
  pub session : left ≡ idle

pub record ReadBack : Type 0 where
  pub accepted : (image : List ℕ) (session : Session) (c : Container) → opened image ≡ Ok c → (q place : ℕ) (bytes : List ℕ)
      → ending_of (write image session q place bytes).outcome ≡ Accepted
      → Accepts c q place bytes image (write image session q place bytes).image session (write image session q place bytes).session
  pub dropped : (image : List ℕ) (session : Session) (c : Container) → opened image ≡ Ok c → (q place : ℕ) (bytes : List ℕ)
      → ending_of (write image session q place bytes).outcome ≡ Dropped
      → Drops c q place bytes image (write image session q place bytes).image (write image session q place bytes).session
  -- "What would be read if the inactive table were active" (01): what was read of the staged view is read of the committed one once it is committed
  pub commits : (form : Form) (st : State) → ruled (Commit form) st ≡ Accepted → (q place : ℕ) (buffer : List ℕ)
      → read_committed (next (Commit form) st).image q place buffer ≡ read_staged st.image st.session q place buffer
