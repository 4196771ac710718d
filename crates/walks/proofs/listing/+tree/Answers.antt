-- `walks::listing::list_folder` and `walks::listing::list_folders` meet their contracts. Assumes nothing.
use Prim.Native.Nat.{ℕ}
use mathlib.Core.List.{List}
use mathlib.Core.Path.{◌≡◌, refl, sym, ◌∙◌}
use native.Mathlib.Omega.{arith}
use Rattle.std.specs.Prelude.{Result, Ok}
use Rattle.names.specs.declared.EntryError.{EntryError}
use Rattle.std.proofs.lemmas.Result.{err_from_is_err_and}
use Rattle.ivfc.specs.declared.View.{View}
use Rattle.number.specs.Marks.{marked}
use Rattle.views.specs.Versions.{version_of}
use Rattle.names.specs.declared.Save.{Save}
use Rattle.names.specs.Entries.{admit}
use Rattle.names.specs.Walks.{met_by, leaves, unvisited}
use Rattle.names.proofs.EntryLaws.{place_ends}
use Rattle.names.proofs.WalkLaws.{onward_start, goes_on_lem, fewer_on, goes_met, fewer_met, ready_on, Gained, gained, met_own, folder_deep, folder_stops, folders_stop, folders_end}
use Rattle.walks.proofs.FolderLaws.{folder_ends, folder_goes, reaches_on}
use Rattle.walks.proofs.listing.+tree.Goals as goal

-- ---- a folder

pub list_folder-returns-then-depth-gt-DEEPEST : goal.list_folder-returns-then-depth-gt-DEEPEST
list_folder-returns-then-depth-gt-DEEPEST t c =
    let a = c.args in
    record {
      walks = λ base m q h. folder_deep a.s (version_of a.reader.view a.reader.image.now).bytes (version_of a.reader.view a.reader.image.now).verified base a.folder_marks.now a.file_marks.now a.row.now a.depth a.e m _ _ _ (omega (arith, c.if-depth-gt-DEEPEST.true));
      goes = tt;
      fewer = tt;
      knows = c.requires.0;
    }

pub list_folder-meet-requires : goal.list_folder-meet-requires
list_folder-meet-requires t c =
    let r = c.requires.1 in
    (c.requires.0, r.folder, r.folders, r.folder_room, omega (arith, r.count))

pub list_folder-returns-in_err-n : goal.list_folder-returns-in_err-n
list_folder-returns-in_err-n t c =
    let a = c.args in
    let p = err_from_is_err_and c.from_residual.result c.from_residual.ensures.1 in
    rw (p.1, p.2)
    (record {
      walks = λ base m q h. folder_stops a.s (version_of a.reader.view a.reader.image.now).bytes (version_of a.reader.view a.reader.image.now).verified base a.folder_marks.now a.file_marks.now a.row.now a.depth a.e a.met m _ _ _ _ c.if-depth-gt-DEEPEST.false (met_own (version_of a.reader.view a.reader.image.now).verified _ _ a.s.folders _ a.e a.met _ _ c.requires.1.logs c.meet.ensures.answer c.in_err-n.was) h;
      goes = tt;
      fewer = tt;
      knows = c.meet.ensures.knows;
    })

-- its own entry is met
own_met : (view : View) (image : List ℕ) (s : Save) (e met n : ℕ) (marks row marks₁ row₁ : List ℕ) (own : Result ℕ EntryError) → s.log ≡ view.level4.log → own ≡ Ok n
    → own ≡ met_by (admit (version_of view image).verified view.level4.log s.folders (marked marks e) e) met
    → leaves (admit (version_of view image).verified view.level4.log s.folders (marked marks e) e) s.folders 0 e met (version_of view image).bytes marks row marks₁ row₁
    → Gained (version_of view image).verified s.log s.folders 0 e met n (version_of view image).bytes marks row marks₁ row₁
own_met view image s e met n marks row marks₁ row₁ own l is answer state = gained _ _ _ _ _ _ _ _ _ _ _ _ _ l (sym is ∙ answer) state

pub list_folder-field_of-f-requires : goal.list_folder-field_of-f-requires
list_folder-field_of-f-requires t c =
    let a = c.args in
    let p = c.requires in
    let g = own_met a.reader.view a.reader.image.now a.s a.e a.met c.in_ok-n.n a.folder_marks.now a.row.now c.meet.new.marks c.meet.new.row c.meet.result c.requires.1.logs c.in_ok-n.was c.meet.ensures.answer c.meet.ensures.state in
    omega (arith, p.1.folders, p.1.folder, place_ends a.s.folders a.e g.inside)

pub list_folder-list_files-requires : goal.list_folder-list_files-requires
list_folder-list_files-requires t c =
    let a = c.args in
    let p = c.requires in
    let g = own_met a.reader.view a.reader.image.now a.s a.e a.met c.in_ok-n.n a.folder_marks.now a.row.now c.meet.new.marks c.meet.new.row c.meet.result c.requires.1.logs c.in_ok-n.was c.meet.ensures.answer c.meet.ensures.state in
    (c.meet.ensures.knows, ready_on a.s a.reader.view.level4.log a.reader.view.level4.size a.folder_marks.now a.file_marks.now c.meet.new.marks a.file_marks.now a.met c.in_ok-n.n p.1 c.meet.auto.marks refl (omega (arith, g.fewer, g.count)))

pub list_folder-returns-in_err-m : goal.list_folder-returns-in_err-m
list_folder-returns-in_err-m t c =
    let a = c.args in
    let g = own_met a.reader.view a.reader.image.now a.s a.e a.met c.in_ok-n.n a.folder_marks.now a.row.now c.meet.new.marks c.meet.new.row c.meet.result c.requires.1.logs c.in_ok-n.was c.meet.ensures.answer c.meet.ensures.state in
    let p = err_from_is_err_and c.from_residual-in_err-m.result c.from_residual-in_err-m.ensures.1 in
    rw (p.1, p.2)
    (record {
      walks = folder_ends a.s (version_of a.reader.view a.reader.image.now).bytes (version_of a.reader.view a.reader.image.now).verified a.folder_marks.now a.file_marks.now a.row.now c.meet.new.marks c.meet.new.row _ _ a.depth a.e a.met _ _ c.list_files.result c.if-depth-gt-DEEPEST.false g c.field_of-f.ensures c.list_files.ensures.walks _ c.in_err-m.was;
      goes = tt;
      fewer = tt;
      knows = c.list_files.ensures.knows;
    })

pub list_folder-field_of-below-requires : goal.list_folder-field_of-below-requires
list_folder-field_of-below-requires t c =
    let a = c.args in
    let p = c.requires in
    let g = own_met a.reader.view a.reader.image.now a.s a.e a.met c.in_ok-n.n a.folder_marks.now a.row.now c.meet.new.marks c.meet.new.row c.meet.result c.requires.1.logs c.in_ok-n.was c.meet.ensures.answer c.meet.ensures.state in
    omega (arith, p.1.folders, p.1.folder, place_ends a.s.folders a.e g.inside)

pub list_folder-overflow_add-depth : goal.list_folder-overflow_add-depth
list_folder-overflow_add-depth t c = omega (arith, c.if-depth-gt-DEEPEST.false)

pub list_folder-list_folders-requires : goal.list_folder-list_folders-requires
list_folder-list_folders-requires t c =
    let a = c.args in
    let p = c.requires in
    let g = own_met a.reader.view a.reader.image.now a.s a.e a.met c.in_ok-n.n a.folder_marks.now a.row.now c.meet.new.marks c.meet.new.row c.meet.result c.requires.1.logs c.in_ok-n.was c.meet.ensures.answer c.meet.ensures.state in
    let w = goes_met c.list_files.result c.in_ok-m.m c.in_ok-n.n (unvisited a.s.folders c.meet.new.marks) (unvisited a.s.files a.file_marks.now) (unvisited a.s.folders c.meet.new.marks) (unvisited a.s.files c.list_files.new.file_marks) c.in_ok-m.was c.list_files.ensures.goes in (
      omega (arith, c.decreases, g.fewer),
      (c.list_files.ensures.knows, ready_on a.s a.reader.view.level4.log a.reader.view.level4.size a.folder_marks.now a.file_marks.now c.meet.new.marks c.list_files.new.file_marks a.met c.in_ok-m.m p.1 c.meet.auto.marks c.list_files.auto.file_marks (omega (arith, g.fewer, g.count, w.0))),
    )

pub list_folder-returns : goal.list_folder-returns
list_folder-returns t c =
    let a = c.args in
    let own = c.meet.new in
    let listed = c.list_files.new in
    let end = c.list_folders.new in
    let r = c.list_folders.result in
    let g = own_met a.reader.view a.reader.image.now a.s a.e a.met c.in_ok-n.n a.folder_marks.now a.row.now c.meet.new.marks c.meet.new.row c.meet.result c.requires.1.logs c.in_ok-n.was c.meet.ensures.answer c.meet.ensures.state in
    let w = goes_met c.list_files.result c.in_ok-m.m c.in_ok-n.n (unvisited a.s.folders c.meet.new.marks) (unvisited a.s.files a.file_marks.now) (unvisited a.s.folders c.meet.new.marks) (unvisited a.s.files c.list_files.new.file_marks) c.in_ok-m.was c.list_files.ensures.goes in
    record {
      walks = folder_goes a.s (version_of a.reader.view a.reader.image.now).bytes (version_of a.reader.view a.reader.image.now).verified a.folder_marks.now a.file_marks.now a.row.now own.marks own.row listed.file_marks listed.row a.depth a.e a.met _ _ c.list_files.result c.if-depth-gt-DEEPEST.false g c.field_of-f.ensures c.list_files.ensures.walks _ _ r end.folder_marks end.file_marks end.row c.in_ok-m.was c.field_of-below.ensures c.list_folders.ensures.walks;
      goes = goes_on_lem r a.met (unvisited a.s.folders a.folder_marks.now) (unvisited a.s.files a.file_marks.now) c.in_ok-m.m (unvisited a.s.folders own.marks) (unvisited a.s.files listed.file_marks) (unvisited a.s.folders end.folder_marks) (unvisited a.s.files end.file_marks) (omega (arith, g.fewer, g.count, w.0)) (omega (arith, g.fewer)) w.2 c.list_folders.ensures.goes;
      fewer = fewer_on r a.s.folders a.e (unvisited a.s.folders a.folder_marks.now) c.in_ok-m.m (unvisited a.s.folders own.marks) (unvisited a.s.files listed.file_marks) (unvisited a.s.folders end.folder_marks) (unvisited a.s.files end.file_marks) (omega (arith, g.fewer)) g.inside c.list_folders.ensures.goes;
      knows = c.list_folders.ensures.knows;
    }

-- ---- the folders from one on

pub list_folders-loop-e-init : goal.list_folders-loop-e-init
list_folders-loop-e-init t c = (refl, refl, refl, refl, c.requires.0, refl, omega arith, omega arith, λ base m q h. onward_start _ _ _ _ _ _ _ _ _ _ q h)

pub list_folders-list_folder-requires : goal.list_folders-list_folder-requires
list_folders-list_folder-requires t c =
    let i = c.loop-e.invariant in
    (omega (arith, c.decreases, i.6), (i.4, ready_on c.args.s _ _ _ _ _ _ _ _ c.requires.1 i.1 i.2 i.5))

pub list_folders-returns-in_err-n : goal.list_folders-returns-in_err-n
list_folders-returns-in_err-n t c =
    let a = c.args in
    let l = c.loop-e in
    let p = err_from_is_err_and c.from_residual.result c.from_residual.ensures.1 in
    rw (p.1, p.2)
    (record {
      walks = λ base m q h.
          let o = l.invariant.8 base m q h in
          folders_stop a.s (version_of a.reader.view a.reader.image.now).bytes (version_of a.reader.view a.reader.image.now).verified base a.depth l.folder_marks l.file_marks l.row a.first l.e l.n m o _ _ _ _ c.loop-e-test.true
          (rw c.in_err-n.was at (c.list_folder.ensures.walks base o.names o.count o.holds));
      goes = tt;
      knows = c.list_folder.ensures.knows;
    })

pub list_folders-field_of-e-requires : goal.list_folders-field_of-e-requires
list_folders-field_of-e-requires t c =
    let p = c.requires in
    let m = fewer_met c.list_folder.result c.args.s.folders _ c.loop-e.e _ _ c.in_ok-n.was c.list_folder.ensures.fewer in
    omega (arith, p.1.folders, p.1.folder, place_ends c.args.s.folders c.loop-e.e m.1)

pub list_folders-loop-e-smaller : goal.list_folders-loop-e-smaller
list_folders-loop-e-smaller t c =
    let m = fewer_met c.list_folder.result c.args.s.folders _ c.loop-e.e _ _ c.in_ok-n.was c.list_folder.ensures.fewer in
    omega (arith, m.0)

pub list_folders-loop-e-preserved : goal.list_folders-loop-e-preserved
list_folders-loop-e-preserved t c =
    let a = c.args in
    let l = c.loop-e in
    let after = c.list_folder.new in
    let w = goes_met c.list_folder.result c.in_ok-n.n l.n (unvisited a.s.folders l.folder_marks) (unvisited a.s.files l.file_marks) (unvisited a.s.folders after.folder_marks) (unvisited a.s.files after.file_marks) c.in_ok-n.was c.list_folder.ensures.goes in (
      c.list_folder.auto.known ∙ l.invariant.0,
      c.list_folder.auto.folder_marks ∙ l.invariant.1,
      c.list_folder.auto.file_marks ∙ l.invariant.2,
      c.list_folder.auto.row ∙ l.invariant.3,
      c.list_folder.ensures.knows,
      w.0 ∙ l.invariant.5,
      omega (arith, w.1, l.invariant.6),
      omega (arith, w.2, l.invariant.7),
      reaches_on a.s (version_of a.reader.view a.reader.image.now).bytes (version_of a.reader.view a.reader.image.now).verified a.folder_marks.now a.file_marks.now a.row.now l.folder_marks l.file_marks l.row _ _ _ a.depth a.first a.met l.e l.n _ _ c.list_folder.result l.invariant.8 c.loop-e-test.true c.in_ok-n.was c.field_of-e.ensures c.list_folder.ensures.walks,
    )

pub list_folders-returns : goal.list_folders-returns
list_folders-returns t c =
    let a = c.args in
    let l = c.loop-e in
    record {
      walks = λ base m q h. folders_end a.s (version_of a.reader.view a.reader.image.now).bytes (version_of a.reader.view a.reader.image.now).verified base a.depth l.folder_marks l.file_marks l.row a.first l.e l.n m c.loop-e-test.false (l.invariant.8 base m q h);
      goes = (l.invariant.5, l.invariant.6, l.invariant.7);
      knows = l.invariant.4;
    }
