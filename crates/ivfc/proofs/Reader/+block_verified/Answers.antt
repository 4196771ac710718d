-- `block_verified`, which calls itself for the block that holds the entry, meets its contract. Assumes nothing.
use Prim.Native.Nat.{◌-◌, ◌≤◌}
use mathlib.Core.Path.{sym, ap, ◌∙◌}
use native.Mathlib.Omega.{arith}
use native.Mathlib.Nat.{pos_of_ne-zero}
use Rattle.number.specs.declared.Level.{Level}
use Rattle.ivfc.specs.Blocks.{parent}
use Rattle.ivfc.specs.Views.{level_of, content_of, verified}
use Rattle.ivfc.proofs.ViewLaws.{level_small}
use Rattle.ivfc.proofs.VerifiedLaws.{entry_above, parent_above, verified_master, verified_unmatched, verified_matched}
use Rattle.ivfc.proofs.ReaderLaws.{rules_of}
use Rattle.ivfc.proofs.Reader.+block_verified.Goals as goal

pub returns-then-i-eq0 : goal.returns-then-i-eq0
returns-then-i-eq0 t c =
    let a = c.args in
    verified_master (level_of a.self.view) (content_of a.self.view a.self.image.now) a.i a.b c.if-i-eq0.true

pub block_matches-requires : goal.block_matches-requires
block_matches-requires t c =
    (pos_of_ne-zero c.if-i-eq0.false, c.requires.0, c.requires.1)

pub returns-then-not-block_matches : goal.returns-then-not-block_matches
returns-then-not-block_matches t c =
    let a = c.args in
    verified_unmatched (level_of a.self.view) (content_of a.self.view a.self.image.now) a.i a.b (pos_of_ne-zero c.if-i-eq0.false) (sym c.block_matches.ensures ∙ c.if-not-block_matches.true)

pub overflow_sub-i : goal.overflow_sub-i
overflow_sub-i t c = omega (arith, pos_of_ne-zero c.if-i-eq0.false)

pub overflow_sub-i-2 : goal.overflow_sub-i-2
overflow_sub-i-2 t c = omega (arith, pos_of_ne-zero c.if-i-eq0.false)

pub parent_of-requires : goal.parent_of-requires
parent_of-requires t c =
    let a = c.args in
    let some : 1 ≤ a.i = pos_of_ne-zero c.if-i-eq0.false in
    let l : c.level_of-upper.result.log ≤ 16 = rw c.level_of-upper.ensures ((rules_of c.args.self).hash.logs (a.i - 1) (omega (arith, c.requires.0))).1 in (
      omega arith,
      omega (
        arith,
        entry_above (level_of a.self.view) (rules_of c.args.self).hash a.i a.b some c.requires.0 c.requires.1,
        level_small a.self.view _ (rules_of c.args.self) (a.i - 1) (omega (arith, c.requires.0)),
      ),
    )

pub block_verified-requires : goal.block_verified-requires
block_verified-requires t c =
    let a = c.args in
    let some : 1 ≤ a.i = pos_of_ne-zero c.if-i-eq0.false in (
      omega (arith, c.decreases),
      (
        omega (arith, c.requires.0),
        rw (c.parent_of.ensures, c.level_of-upper.ensures) (parent_above (level_of a.self.view) (rules_of c.args.self).hash a.i a.b some c.requires.0 c.requires.1),
      ),
    )

pub returns : goal.returns
returns t c =
    let a = c.args in
    let above = c.parent_of.ensures ∙ ap (λ (l : Level). parent l a.b) c.level_of-upper.ensures in
    verified_matched (level_of a.self.view) (content_of a.self.view a.self.image.now) a.i a.b _ (pos_of_ne-zero c.if-i-eq0.false) (sym c.block_matches.ensures ∙ c.if-not-block_matches.false)
    (c.block_verified.ensures ∙ ap (verified a.self.view a.self.image.now (a.i - 1)) above)
