-- `rehash` brings the entries of an interval up to date level by level; the level falls. Assumes nothing.
use mathlib.Core.Path.{◌∙◌, sym}
use native.Mathlib.Omega.{arith}
use borrow.Author.Rules.{rules}
use lib.ListN.{length}
use Prim.Native.Nat.{◌≤◌, ◌-◌}
use Rattle.ivfc.specs.Views.{level_of}
use Rattle.ivfc.proofs.EntryLaws.{parent_mono}
use Rattle.ivfc.proofs.VerifiedLaws.{parent_above}
use Rattle.update.proofs.StagedLaws.{staged}
use Rattle.update.proofs.CodeLaws.{below_exists, parent_asks, entered_kept, rehash_step, rehash_none}
use Rattle.update.proofs.+rehash.Goals as goal

pub enter-requires : goal.enter-requires
enter-requires t c =
    let a = c.args in
    let p = c.requires in (
      p.0,
      omega arith,
      p.2,
      below_exists a.view (length a.image.now) (staged p.0).rules a.i a.last (omega (arith, c.if-i-gt0.true)) p.1 p.3,
    )

pub parent_of-requires : goal.parent_of-requires
parent_of-requires t c =
    let a = c.args in
    let p = c.requires in
    let asks = parent_asks a.view (length a.image.now) (staged p.0).rules a.i a.last (omega (arith, c.if-i-gt0.true)) p.1 p.3 _ c.level_of-upper.ensures in
    search (rules, arith, asks, p.2)

pub parent_of-requires-then-i-gt0 : goal.parent_of-requires-then-i-gt0
parent_of-requires-then-i-gt0 t c =
    let a = c.args in
    let p = c.requires in
    parent_asks a.view (length a.image.now) (staged p.0).rules a.i a.last (omega (arith, c.if-i-gt0.true)) p.1 p.3 _ c.level_of-upper.ensures a.last (omega arith)

pub rehash-requires : goal.rehash-requires
rehash-requires t c =
    let a = c.args in
    let p = c.requires in
    let some : 1 ≤ a.i = omega (arith, c.if-i-gt0.true) in
    let lower = below_exists a.view (length a.image.now) (staged p.0).rules a.i a.last some p.1 p.3 in (
      omega (arith, c.decreases, some),
      (
        entered_kept p.0 (a.i - 1) a.first a.last (omega arith) p.2 lower _ c.enter.ensures,
        omega (arith, p.1),
        rw (c.parent_of.ensures, c.parent_of-then-i-gt0.ensures) (parent_mono _ _ _ (omega (arith, p.2))),
        rw (c.parent_of-then-i-gt0.ensures, c.level_of-upper.ensures) (parent_above (level_of a.view) (staged p.0).rules.hash a.i a.last some p.1 p.3),
      ),
    )

pub returns-then-i-gt0 : goal.returns-then-i-gt0
returns-then-i-gt0 t c =
    let a = c.args in
    c.rehash.ensures
    ∙ rw (c.enter.ensures, c.parent_of-then-i-gt0.ensures, c.parent_of.ensures, c.level_of-upper.ensures)
    (sym (rehash_step a.view a.i a.first a.last a.image.now (omega (arith, c.if-i-gt0.true))))

pub returns-else-i-gt0 : goal.returns-else-i-gt0
returns-else-i-gt0 t c =
    let a = c.args in
    sym (rehash_none a.view a.i a.first a.last a.image.now (omega (arith, c.if-i-gt0.false)))
