-- `write_partition`: what `judge_write` answers, then the write, and how it ends. Assumes nothing.
use Rattle.steps.proofs.SessionLaws.{view_keeps, write_refused, write_asks, write_done}
use Rattle.layout.proofs.GuaranteeLaws.{guarantees}
use Rattle.views.proofs.FitLaws.{space_fits, places_fit}
use Rattle.steps.proofs.writing.write_partition.Goals as goal

pub staged_view-view-requires : goal.staged_view-view-requires
staged_view-view-requires c = places_fit c.args.image.now c.args.c (guarantees _ _ c.requires.0) c.args.q c.requires.1

pub invariant_of-judge_write : goal.invariant_of-judge_write
invariant_of-judge_write c =
    let a = c.args in
    record { rules = ∣ view_keeps a.image.now a.c c.requires.0 a.session a.q c.requires.1 a.place a.bytes.now c.staged_view-view.result c.staged_view-view.ensures ∣₁ }

pub space_of-requires : goal.space_of-requires
space_of-requires c = space_fits c.args.image.now c.args.c (guarantees _ _ c.requires.0)

pub write_level4-requires : goal.write_level4-requires
write_level4-requires c =
    let a = c.args in
    write_asks a.image.now a.c c.requires.0 a.session a.q c.requires.1 a.place a.bytes.now c.staged_view-view.result c.staged_view-view.ensures c.judge_write.result c.judge_write.ensures c.in-Ok.is c.space_of.result c.space_of.ensures

pub returns-in-Err : goal.returns-in-Err
returns-in-Err c =
    let a = c.args in
    write_refused a.image.now a.c c.requires.0 a.session a.q c.requires.1 a.place a.bytes.now c.staged_view-view.result c.staged_view-view.ensures c.judge_write.result c.judge_write.ensures _ c.in-Err.is c.refused.result c.refused.ensures

pub returns-in-Ok : goal.returns-in-Ok
returns-in-Ok c =
    let a = c.args in
    write_done a.image.now a.c c.requires.0 a.session a.q c.requires.1 a.place a.bytes.now c.staged_view-view.result c.staged_view-view.ensures c.judge_write.result c.judge_write.ensures c.in-Ok.is
    _ c.write_level4.result c.write_level4.ensures.0 c.write_level4.ensures.1 c.finish.result c.finish.ensures
