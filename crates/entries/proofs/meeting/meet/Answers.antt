-- `entries::meeting::meet` meets its contract. Assumes nothing.
use mathlib.Core.Path.{sym, ap, ◌∙◌}
use mathlib.Core.Bool.{Bool}
use native.Mathlib.Omega.{arith}
use Rattle.views.specs.Versions.{version_of}
use Rattle.number.specs.Marks.{marked}
use Rattle.names.specs.Entries.{admit}
use Rattle.names.proofs.MeetLaws.{meets_at}
use Rattle.names.proofs.EntryLaws.{admit_at, place_ends}
use Rattle.number.proofs.MarkLaws.{left_pos}
use Rattle.ivfc.proofs.ViewLaws.{size4_small}
use Rattle.ivfc.proofs.ReaderLaws.{rules_of}
use Rattle.entries.proofs.meeting.meet.Goals as goal

pub set_mark-requires : goal.set_mark-requires
set_mark-requires c =
    let q = admit_at (version_of c.args.reader.view c.args.reader.image.now).verified c.args.reader.view.level4.log c.args.t _ c.args.e _ (sym c.reach.ensures.0 ∙ c.in_ok-at.was) in
    (omega (arith, q.1, c.requires.3), sym c.is_marked.ensures ∙ q.0)

pub overflow_add-at : goal.overflow_add-at
overflow_add-at c =
    let q = admit_at (version_of c.args.reader.view c.args.reader.image.now).verified c.args.reader.view.level4.log c.args.t _ c.args.e _ (sym c.reach.ensures.0 ∙ c.in_ok-at.was) in
    omega (arith, q.2, c.requires.2, c.requires.1, size4_small c.args.reader.view _ (rules_of c.args.reader), place_ends c.args.t c.args.e q.1)

pub store_name-requires : goal.store_name-requires
store_name-requires c =
    let q = admit_at (version_of c.args.reader.view c.args.reader.image.now).verified c.args.reader.view.level4.log c.args.t _ c.args.e _ (sym c.reach.ensures.0 ∙ c.in_ok-at.was) in
    omega (arith, q.2, c.requires.2, c.requires.1, place_ends c.args.t c.args.e q.1)

pub overflow_add-result : goal.overflow_add-result
overflow_add-result c =
    let q = admit_at (version_of c.args.reader.view c.args.reader.image.now).verified c.args.reader.view.level4.log c.args.t _ c.args.e _ (sym c.reach.ensures.0 ∙ c.in_ok-at.was) in
    omega (arith, c.requires.4, left_pos (marked c.args.marks.now) c.args.e c.args.t.max q.1 (sym c.is_marked.ensures ∙ q.0))

pub returns : goal.returns
returns c =
    let q = admit_at (version_of c.args.reader.view c.args.reader.image.now).verified c.args.reader.view.level4.log c.args.t _ c.args.e _ (sym c.reach.ensures.0 ∙ c.in_ok-at.was) in
    let m = meets_at c.args.t c.args.kind c.args.e c.args.n (version_of c.args.reader.view c.args.reader.image.now).bytes c.args.marks.now c.args.row.now _ _ _ _ (sym (c.reach.ensures.0 ∙ ap (λ (x : Bool). admit (version_of c.args.reader.view c.args.reader.image.now).verified c.args.reader.view.level4.log c.args.t x c.args.e) c.is_marked.ensures) ∙ c.in_ok-at.was) q.2 c.set_mark.ensures c.store_name.ensures in
    record { answer = m.0; state = m.1; knows = c.reach.ensures.1 }
