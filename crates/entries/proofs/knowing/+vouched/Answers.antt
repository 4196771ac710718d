-- `entries::knowing::vouched` meets its contract. Assumes nothing.
use mathlib.Core.Path.{sym, ap, ◌∙◌}
use Prim.Native.Nat.{◌-◌, ◌≤◌}
use native.Mathlib.Omega.{arith}
use native.Mathlib.Nat.{pos_of_ne-zero}
use Rattle.number.specs.declared.Level.{Level}
use Rattle.ivfc.specs.Blocks.{parent}
use Rattle.ivfc.specs.Views.{level_of, content_of, verified}
use Rattle.ivfc.proofs.ViewLaws.{level_small, block_small}
use Rattle.ivfc.proofs.VerifiedLaws.{entry_above, parent_above, verified_master, verified_unmatched, verified_matched}
use Rattle.entries.proofs.KnownLaws.{known_verified, knows_more}
use Rattle.ivfc.proofs.ReaderLaws.{rules_of}
use Rattle.entries.proofs.knowing.+vouched.Goals as goal

pub returns-then-i-eq0 : goal.returns-then-i-eq0
returns-then-i-eq0 t c =
    (verified_master (level_of c.args.reader.view) (content_of c.args.reader.view c.args.reader.image.now) c.args.i c.args.b c.if-i-eq0.true, c.requires.0)

pub mark_of-mark-requires : goal.mark_of-mark-requires
mark_of-mark-requires t c = (c.requires.1, block_small c.args.reader.view _ (rules_of c.args.reader) c.args.i c.args.b c.requires.1 c.requires.2)

pub returns-then-is_marked : goal.returns-then-is_marked
returns-then-is_marked t c =
    (known_verified c.args.reader.view c.args.reader.image.now c.args.known.now c.args.i c.args.b _ _ c.requires.0 (pos_of_ne-zero c.if-i-eq0.false) c.requires.1 c.mark_of-mark.ensures c.is_marked.ensures c.if-is_marked.true, c.requires.0)

pub block_matches-requires : goal.block_matches-requires
block_matches-requires t c = (pos_of_ne-zero c.if-i-eq0.false, c.requires.1, c.requires.2)

pub returns-then-not-block_matches : goal.returns-then-not-block_matches
returns-then-not-block_matches t c =
    (verified_unmatched (level_of c.args.reader.view) (content_of c.args.reader.view c.args.reader.image.now) c.args.i c.args.b (pos_of_ne-zero c.if-i-eq0.false) (sym c.block_matches.ensures ∙ c.if-not-block_matches.true), c.requires.0)

pub overflow_sub-i : goal.overflow_sub-i
overflow_sub-i t c = omega (arith, pos_of_ne-zero c.if-i-eq0.false)

pub parent_of-upper-requires : goal.parent_of-upper-requires
parent_of-upper-requires t c =
    let some : 1 ≤ c.args.i = pos_of_ne-zero c.if-i-eq0.false in
    let l : c.level_of.result.log ≤ 16 = rw c.level_of.ensures ((rules_of c.args.reader).hash.logs (c.args.i - 1) (omega (arith, c.requires.1))).1 in (
      omega arith,
      omega (
        arith,
        entry_above (level_of c.args.reader.view) (rules_of c.args.reader).hash c.args.i c.args.b some c.requires.1 c.requires.2,
        level_small c.args.reader.view _ (rules_of c.args.reader) (c.args.i - 1) (omega (arith, c.requires.1)),
      ),
    )

pub overflow_sub-i-2 : goal.overflow_sub-i-2
overflow_sub-i-2 t c = omega (arith, pos_of_ne-zero c.if-i-eq0.false)

pub vouched-requires : goal.vouched-requires
vouched-requires t c =
    let some : 1 ≤ c.args.i = pos_of_ne-zero c.if-i-eq0.false in (
      omega arith,
      (
        c.requires.0,
        omega (arith, c.requires.1),
        rw (c.parent_of-upper.ensures, c.level_of.ensures) (parent_above (level_of c.args.reader.view) (rules_of c.args.reader).hash c.args.i c.args.b some c.requires.1 c.requires.2),
      ),
    )

pub returns-then-not-vouched : goal.returns-then-not-vouched
returns-then-not-vouched t c =
    let above = c.parent_of-upper.ensures ∙ ap (λ (l : Level). parent l c.args.b) c.level_of.ensures in (
      sym c.if-not-vouched.true ∙ verified_matched (level_of c.args.reader.view) (content_of c.args.reader.view c.args.reader.image.now) c.args.i c.args.b _ (pos_of_ne-zero c.if-i-eq0.false) (sym c.block_matches.ensures ∙ c.if-not-block_matches.false)
          (c.vouched.ensures.0 ∙ ap (verified c.args.reader.view c.args.reader.image.now (c.args.i - 1)) above),
      c.vouched.ensures.1,
    )

pub returns : goal.returns
returns t c =
    let above = c.parent_of-upper.ensures ∙ ap (λ (l : Level). parent l c.args.b) c.level_of.ensures in
    let here = sym c.if-not-vouched.false ∙ verified_matched (level_of c.args.reader.view) (content_of c.args.reader.view c.args.reader.image.now) c.args.i c.args.b _ (pos_of_ne-zero c.if-i-eq0.false) (sym c.block_matches.ensures ∙ c.if-not-block_matches.false)
    (c.vouched.ensures.0 ∙ ap (verified c.args.reader.view c.args.reader.image.now (c.args.i - 1)) above) in
    (here, knows_more c.args.reader.view c.args.reader.image.now _ _ c.args.i c.args.b _ c.mark_of-mark.ensures (pos_of_ne-zero c.if-i-eq0.false) c.requires.1 here c.vouched.ensures.1 c.add_mark.ensures)
