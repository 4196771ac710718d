-- `walks::listing::list_files` meets its contract. Assumes nothing.
use Prim.Native.Nat.{◌+◌, ◌≤◌}
use mathlib.Core.Path.{◌≡◌}
use lib.ListN.{length}
use Rattle.views.specs.Versions.{version_of}
use Rattle.names.specs.Listing.{files}
use Rattle.names.specs.Walks.{unvisited}
use Rattle.entries.specs.Known.{Knows}
use Rattle.walks.proofs.FolderLaws.{Reaches}
use Rattle.walks.proofs.listing.list_files.Given as goal

abbrev pub invariant-loop-f : goal.invariant-loop-f
invariant-loop-f l =
    (length l.known ≡ length l.initial.known) × (length l.file_marks ≡ length l.initial.file_marks) × (length l.row ≡ length l.initial.row) × Knows l.reader.view l.reader.image.now l.known
    × (l.n + unvisited l.s.files l.file_marks ≡ l.met + unvisited l.s.files l.initial.file_marks) × (unvisited l.s.files l.file_marks ≤ unvisited l.s.files l.initial.file_marks)
    × Reaches l.s (version_of l.reader.view l.reader.image.now).bytes l.met l.folder_marks l.initial.file_marks l.initial.row (files l.s (version_of l.reader.view l.reader.image.now).bytes (version_of l.reader.view l.reader.image.now).verified) l.first l.folder_marks l.file_marks l.row l.f l.n

abbrev pub decreases-loop-f : goal.decreases-loop-f
decreases-loop-f l = unvisited l.s.files l.file_marks
