use mathlib.Core.Path.{refl, sym, ◌∙◌}
use native.Mathlib.Omega.{arith}
use Rattle.views.specs.Versions.{version_of}
use Rattle.names.proofs.EntryLaws.{place_ends}
use Rattle.names.proofs.WalkLaws.{onward_start, Gained, gained, met_own, file_goes, file_stops, file_ends}
use Rattle.std.proofs.lemmas.Result.{err_from_is_err_and}
use Rattle.walks.proofs.listing.list_files.Goals as goal
use Rattle.walks.proofs.listing.list_files.Goals.{In_ok-n}

pub loop-f-init : goal.loop-f-init
loop-f-init c = (refl, refl, refl, c.requires.0, refl, omega arith, λ base m e h. onward_start _ _ _ _ _ _ _ _ _ _ e h)

pub meet-requires : goal.meet-requires
meet-requires c =
    (c.loop-f.invariant.3, omega (arith, c.requires.1.file), c.requires.1.files, omega (arith, c.requires.1.file_room, c.loop-f.invariant.1), omega (arith, c.requires.1.count, c.loop-f.invariant.4))

pub returns-in_err-n : goal.returns-in_err-n
returns-in_err-n c =
    let p = err_from_is_err_and c.from_residual.result c.from_residual.ensures.1 in
    rw (p.1, p.2)
    (record {
      walks = λ base m e h. file_stops c.args.s (version_of c.args.reader.view c.args.reader.image.now).bytes (version_of c.args.reader.view c.args.reader.image.now).verified base c.args.folder_marks.now c.loop-f.file_marks c.loop-f.row c.args.first c.loop-f.f c.loop-f.n m _ _ _ c.loop-f-test.true (met_own (version_of c.args.reader.view c.args.reader.image.now).verified _ _ c.args.s.files _ c.loop-f.f c.loop-f.n _ _ c.requires.1.logs c.meet.ensures.answer c.in_err-n.was) (c.loop-f.invariant.6 base m e h);
      goes = tt;
      knows = c.meet.ensures.knows;
    })

-- a file is met
file_met : (c : In_ok-n) → let a = c.args in let l = c.loop-f in
    Gained (version_of a.reader.view a.reader.image.now).verified a.s.log a.s.files 1 l.f l.n c.in_ok-n.n (version_of a.reader.view a.reader.image.now).bytes l.file_marks l.row c.meet.new.marks c.meet.new.row
file_met c = gained _ _ _ _ _ _ _ _ _ _ _ _ _ c.requires.1.logs (sym c.in_ok-n.was ∙ c.meet.ensures.answer) c.meet.ensures.state

pub field_of-f-requires : goal.field_of-f-requires
field_of-f-requires c =
    let g = file_met (goal.at.field_of-f-requires c).In_ok-n in
    omega (arith, c.requires.1.files, c.requires.1.file, place_ends c.args.s.files c.loop-f.f g.inside)

pub loop-f-smaller : goal.loop-f-smaller
loop-f-smaller c =
    let g = file_met (goal.at.loop-f-smaller c).In_ok-n in
    omega (arith, g.fewer)

pub loop-f-preserved : goal.loop-f-preserved
loop-f-preserved c =
    let g = file_met (goal.at.loop-f-preserved c).In_ok-n in (
      c.meet.auto.known ∙ c.loop-f.invariant.0,
      c.meet.auto.marks ∙ c.loop-f.invariant.1,
      c.meet.auto.row ∙ c.loop-f.invariant.2,
      c.meet.ensures.knows,
      omega (arith, g.fewer, g.count, c.loop-f.invariant.4),
      omega (arith, g.fewer, c.loop-f.invariant.5),
      λ base m e h. file_goes c.args.s (version_of c.args.reader.view c.args.reader.image.now).bytes (version_of c.args.reader.view c.args.reader.image.now).verified base c.args.folder_marks.now c.loop-f.file_marks c.loop-f.row c.args.first c.loop-f.f c.loop-f.n _ _ m _ _ c.loop-f-test.true c.field_of-f.ensures g (c.loop-f.invariant.6 base m e h),
    )

pub returns : goal.returns
returns c = record { walks = λ base m e h. file_ends c.args.s (version_of c.args.reader.view c.args.reader.image.now).bytes (version_of c.args.reader.view c.args.reader.image.now).verified base c.args.folder_marks.now c.loop-f.file_marks c.loop-f.row c.args.first c.loop-f.f c.loop-f.n m c.loop-f-test.false (c.loop-f.invariant.6 base m e h); goes = (omega (arith, c.loop-f.invariant.4), omega arith, c.loop-f.invariant.5); knows = c.loop-f.invariant.3 }
