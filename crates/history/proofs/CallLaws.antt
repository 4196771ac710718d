-- What the theorem needs to know of the calls' definitions, of an image that opens.
use Rattle.std.specs.Prelude.{Ok}
use mathlib.Core.Path.{◌≡◌}
use mathlib.Core.Bool.{true, false}
use mathlib.Core.List.{List}
use Prim.Native.Nat.{ℕ, ◌≤◌, ◌<◌}
use lib.ListN.{length, get_or}
use Rattle.layout.specs.declared.Container.{Container}
use Rattle.layout.specs.Headers.{header_bytes}
use Rattle.layout.specs.Opening.{opened}
use Rattle.update.specs.Staged.{written_to, holds_zero}
use Rattle.views.specs.Places.{partitions, partition_of, committed_view, staged_view}
use Rattle.steps.specs.Sessions.{begun_image, table_staged, write_outcome}
use Rattle.commits.specs.Committing.{header_committed}
use Rattle.history.specs.Model.{laid_over, Form}
use Rattle.views.specs.Versions.{version_of}
use Rattle.history.specs.External.{InPlace}
use Rattle.history.proofs.Agreeing.{LeftBut, None}
use Rattle.history.proofs.CallCases.{landed_image}

-- begin stores to free bytes, stages the table, and what it stages is what is committed
pub record BeginLaws (c : Container) (image : List ℕ) : Type 0 where
  pub stores : LeftBut None c image (begun_image c image)
  pub table : table_staged c (begun_image c image) ≡ true
  pub version : (q : ℕ) → q < partitions c → version_of (staged_view c q) (begun_image c image) ≡ version_of (committed_view c q) image

-- a write to partition q, left as `after`, stores to free bytes and, in place, to its own, leaves a staged table staged, lays its bytes over q's
-- staged version and leaves the other partition's alone
pub record WriteLaws (c : Container) (q place : ℕ) (bytes image after : List ℕ) : Type 0 where
  pub stores : LeftBut (InPlace c q place (length bytes)) c image after
  pub table : table_staged c image ≡ true → table_staged c after ≡ true
  pub version : holds_zero (staged_view c q) place bytes after ≡ false → version_of (staged_view c q) after ≡ laid_over place bytes (version_of (staged_view c q) image)
  pub others : (p : ℕ) → p < partitions c → (q ≡ p → ⊥) → version_of (staged_view c p) after ≡ version_of (staged_view c p) image

-- what a commit of either form leaves: the new header, and past the first 0x200 bytes every byte as it was
pub record Headed (c : Container) (image after : List ℕ) : Type 0 where
  pub size : length after ≡ length image
  pub header : header_bytes after ≡ header_committed c image
  pub rest : (i : ℕ) → 0x200 ≤ i → get_or after i 0 ≡ get_or image i 0

-- such an image opens with the same partitions, and commits what was staged
pub record CommitLaws (c : Container) (image after : List ℕ) : Type 0 where
  pub container : Container
  pub opens : opened after ≡ Ok container
  pub kind : container.header.kind ≡ c.header.kind
  pub count : partitions container ≡ partitions c
  pub internal : (q : ℕ) → q < partitions c → (partition_of container q).difi.external ≡ (partition_of c q).difi.external
  pub version : (q : ℕ) → q < partitions c → version_of (committed_view container q) after ≡ version_of (staged_view c q) image

pub record CallLaws : Type 0 where
  pub begin : (image : List ℕ) (c : Container) → opened image ≡ Ok c → BeginLaws c image
  pub write : (image : List ℕ) (c : Container) → opened image ≡ Ok c → (q place : ℕ) (bytes : List ℕ) → q < partitions c
      → write_outcome (staged_view c q) image place (length bytes) ≡ Ok tt
      → WriteLaws c q place bytes image (written_to (staged_view c q) place bytes image)
  pub commit : (image : List ℕ) (c : Container) → opened image ≡ Ok c → table_staged c image ≡ true
      → (after : List ℕ) → Headed c image after → CommitLaws c image after
  -- a commit of either form leaves such an image
  pub units : (image : List ℕ) (c : Container) → opened image ≡ Ok c → (form : Form) → Headed c image (landed_image form c image)
