-- `entries::meeting::reach` meets its contract. Assumes nothing.
use Prim.Native.Nat.{ℕ}
use mathlib.Core.Path.{ap, ◌∙◌}
use native.Mathlib.Omega.{arith}
use Rattle.views.specs.Versions.{version_of}
use Rattle.names.specs.Entries.{read_at}
use Rattle.names.proofs.EntryLaws.{admit_no, admit_read, tests_passed, place_ends}
use Rattle.ivfc.proofs.ViewLaws.{size4_small}
use Rattle.ivfc.proofs.ReaderLaws.{rules_of}
use Rattle.entries.proofs.meeting.reach.Goals as goal

pub returns-then-again-t : goal.returns-then-again-t
returns-then-again-t c = (admit_no (version_of c.args.reader.view c.args.reader.image.now).verified c.args.reader.view.level4.log c.args.t c.args.again c.args.e c.if-again-t.true, c.requires.0)

pub place_of-requires : goal.place_of-requires
place_of-requires c =
    let q = tests_passed c.args.again c.args.t.count c.args.t.max c.args.e c.if-again-t.false in
    omega (arith, c.requires.1, c.requires.2, size4_small c.args.reader.view _ (rules_of c.args.reader), place_ends c.args.t c.args.e q.1)

pub read_at-requires : goal.read_at-requires
read_at-requires c =
    let q = tests_passed c.args.again c.args.t.count c.args.t.max c.args.e c.if-again-t.false in
    (c.requires.0, c.requires.1, omega (arith, c.requires.2, c.place_of.ensures, place_ends c.args.t c.args.e q.1))

pub returns : goal.returns
returns c = (
  c.read_at.ensures.0
      ∙ ap (λ (x : ℕ). read_at (version_of c.args.reader.view c.args.reader.image.now).verified c.args.reader.view.level4.log x c.args.t.size) c.place_of.ensures
      ∙ admit_read (version_of c.args.reader.view c.args.reader.image.now).verified c.args.reader.view.level4.log c.args.t c.args.again c.args.e c.if-again-t.false,
  c.read_at.ensures.1,
)
