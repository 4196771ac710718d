-- `zero_held` looks at the entries of an interval, then at those above it; the level falls. Assumes nothing.
use Prim.Native.Nat.{◌-◌, ◌≤◌}
use mathlib.Core.Path.{sym, ap, ◌∙◌}
use native.Mathlib.Omega.{arith}
use native.Mathlib.Nat.{pos_of_ne-zero}
use lib.ListN.{length}
use Rattle.number.specs.declared.Level.{Level}
use Rattle.ivfc.specs.Blocks.{parent}
use Rattle.ivfc.specs.Views.{level_of, content_of}
use Rattle.ivfc.proofs.EntryLaws.{parent_mono}
use Rattle.ivfc.proofs.VerifiedLaws.{parent_above}
use Rattle.ivfc.proofs.ReaderLaws.{rules_of}
use Rattle.update.proofs.CodeLaws.{below_exists, parent_asks}
use Rattle.update.proofs.ClearLaws.{held_none, held_here, held_above}
use Rattle.update.proofs.zeros.+zero_held.Goals as goal

pub returns-then-i-eq0 : goal.returns-then-i-eq0
returns-then-i-eq0 t c =
    let a = c.args in
    sym (held_none (level_of a.reader.view) (content_of a.reader.view a.reader.image.now) a.i a.first a.last c.if-i-eq0.true)

pub zero_among-requires : goal.zero_among-requires
zero_among-requires t c =
    let a = c.args in
    let p = c.requires in
    let some : 1 ≤ a.i = pos_of_ne-zero c.if-i-eq0.false in
    (omega (arith, p.0), p.1, below_exists a.reader.view (length a.reader.image.now) (rules_of c.args.reader) a.i a.last some p.0 p.2)

pub returns-then-zero_among : goal.returns-then-zero_among
returns-then-zero_among t c =
    let a = c.args in
    sym (held_here (level_of a.reader.view) (content_of a.reader.view a.reader.image.now) a.i a.first a.last (pos_of_ne-zero c.if-i-eq0.false)
    (sym c.zero_among.ensures ∙ c.if-zero_among.true))

pub parent_of-requires : goal.parent_of-requires
parent_of-requires t c =
    let a = c.args in
    let p = c.requires in
    parent_asks a.reader.view (length a.reader.image.now) (rules_of c.args.reader) a.i a.last (pos_of_ne-zero c.if-i-eq0.false) p.0 p.2 _ c.level_of-upper.ensures a.first p.1

pub parent_of-requires-2 : goal.parent_of-requires-2
parent_of-requires-2 t c =
    let a = c.args in
    let p = c.requires in
    parent_asks a.reader.view (length a.reader.image.now) (rules_of c.args.reader) a.i a.last (pos_of_ne-zero c.if-i-eq0.false) p.0 p.2 _ c.level_of-upper.ensures a.last (omega arith)

pub zero_held-requires : goal.zero_held-requires
zero_held-requires t c =
    let a = c.args in
    let p = c.requires in
    let l = c.level_of-upper.ensures in
    let some : 1 ≤ a.i = pos_of_ne-zero c.if-i-eq0.false in (
      omega (arith, c.decreases, some),
      (
        omega (arith, p.0),
        rw (c.parent_of.ensures, c.parent_of-2.ensures, l) (parent_mono (level_of a.reader.view (a.i - 1)) a.first a.last p.1),
        rw (c.parent_of-2.ensures, l) (parent_above (level_of a.reader.view) (rules_of c.args.reader).hash a.i a.last some p.0 p.2),
      ),
    )

pub returns : goal.returns
returns t c =
    let a = c.args in
    let l = c.level_of-upper.ensures in
    held_above (level_of a.reader.view) (content_of a.reader.view a.reader.image.now) a.i a.first a.last (pos_of_ne-zero c.if-i-eq0.false)
    (sym c.zero_among.ensures ∙ c.if-zero_among.false) c.zero_held.result _ _
    (c.parent_of.ensures ∙ ap (λ (m : Level). parent m a.first) l) (c.parent_of-2.ensures ∙ ap (λ (m : Level). parent m a.last) l)
    c.zero_held.ensures
