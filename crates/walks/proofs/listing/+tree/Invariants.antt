-- `walks::listing::list_folder` and `walks::listing::list_folders` meet their contracts. Assumes nothing.
use Prim.Native.Nat.{◌+◌, ◌≤◌}
use mathlib.Core.Path.{◌≡◌}
use lib.ListN.{length}
use Rattle.views.specs.Versions.{version_of}
use Rattle.names.specs.Listing.{folders}
use Rattle.names.specs.Walks.{unvisited}
use Rattle.entries.specs.Known.{Knows}
use Rattle.walks.proofs.FolderLaws.{Reaches}
use Rattle.walks.proofs.listing.+tree.Given as goal

abbrev pub decreases-list_folder : goal.decreases-list_folder
decreases-list_folder l = unvisited l.s.folders l.folder_marks.now + unvisited l.s.folders l.folder_marks.now

abbrev pub decreases-list_folders : goal.decreases-list_folders
decreases-list_folders l = unvisited l.s.folders l.folder_marks.now + unvisited l.s.folders l.folder_marks.now + 1

abbrev pub invariant-list_folders-loop-e : goal.invariant-list_folders-loop-e
invariant-list_folders-loop-e l =
    (length l.known ≡ length l.initial.known) × (length l.folder_marks ≡ length l.initial.folder_marks) × (length l.file_marks ≡ length l.initial.file_marks) × (length l.row ≡ length l.initial.row) × Knows l.reader.view l.reader.image.now l.known
    × (l.n + unvisited l.s.folders l.folder_marks + unvisited l.s.files l.file_marks ≡ l.met + unvisited l.s.folders l.initial.folder_marks + unvisited l.s.files l.initial.file_marks)
    × (unvisited l.s.folders l.folder_marks ≤ unvisited l.s.folders l.initial.folder_marks) × (unvisited l.s.files l.file_marks ≤ unvisited l.s.files l.initial.file_marks)
    × Reaches l.s (version_of l.reader.view l.reader.image.now).bytes l.met l.initial.folder_marks l.initial.file_marks l.initial.row (folders l.s (version_of l.reader.view l.reader.image.now).bytes (version_of l.reader.view l.reader.image.now).verified l.depth) l.first l.folder_marks l.file_marks l.row l.e l.n

abbrev pub decreases-list_folders-loop-e : goal.decreases-list_folders-loop-e
decreases-list_folders-loop-e l = unvisited l.s.folders l.folder_marks
