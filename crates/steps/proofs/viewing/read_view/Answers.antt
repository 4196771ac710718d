-- `container::reading::read_view` meets its contract. Assumes nothing.
use mathlib.Core.Path.{sym, ◌∙◌}
use Rattle.layout.proofs.PassedUp.{passed_up}
use Rattle.steps.proofs.ReadLaws.{view_refused, view_fits, view_accepted}
use native.Mathlib.Omega.{arith}
use Rattle.steps.proofs.viewing.read_view.Goals as goal

pub returns-in_err-judge_read : goal.returns-in_err-judge_read
returns-in_err-judge_read c =
    let (o, b) = view_refused c.args.reader.view c.args.reader.image.now c.args.place c.args.buffer.now c.judge_read.result c.judge_read.ensures _ c.in_err-judge_read.was in
    (passed_up _ _ c.from_residual.ensures.1 ∙ sym c.in_err-judge_read.was ∙ o, b)

pub gather-requires : goal.gather-requires
gather-requires c =
    (omega arith, view_fits c.args.reader.view c.args.reader.image.now c.args.place c.args.buffer.now c.judge_read.result c.judge_read.ensures c.in_ok-judge_read.was)

pub returns : goal.returns
returns c =
    view_accepted c.args.reader.view c.args.reader.image.now c.args.place c.args.buffer.now c.judge_read.result c.judge_read.ensures _ c.in_ok-judge_read.was c.gather.ensures
