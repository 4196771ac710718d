use mathlib.Core.Path.{sym, ◌∙◌}
use Prim.Native.Nat.{ℕ, suc, ◌≤◌, ◌<◌, ◌+◌, ◌*◌}
use native.Mathlib.Omega.{arith}
use borrow.Author.Rules.{rules}
use Rattle.number.specs.Blocks.{blocks}
use Rattle.ivfc.specs.declared.View.{View}
use Rattle.ivfc.specs.Rules.{ViewRules}
use Rattle.ivfc.specs.Views.{level_of, content_of}
use Rattle.ivfc.proofs.ViewLaws.{level_small}
use Rattle.ivfc.proofs.VerifiedLaws.{entry_inside}
use Rattle.ivfc.proofs.ReaderLaws.{rules_of}
use Rattle.update.proofs.ClearLaws.{among_here, among_next, among_end}
use Rattle.update.proofs.zeros.zero_among.Goals as goal

-- the entries are there
inside : (view : View) (n : ℕ) → ViewRules view n → (i last : ℕ) → i < 4 → last < blocks (level_of view (suc i))
    → (32 * last + 32 ≤ (level_of view i).size) × ((level_of view i).size ≤ 0x4000000)
inside view n rules i last h e = (
  entry_inside (level_of view) rules.hash i last h e,
  level_small view n rules i (omega arith),
)

pub overflow_mul-b : goal.overflow_mul-b
overflow_mul-b c = omega (arith, inside c.args.reader.view _ (rules_of c.args.reader) c.args.i c.args.last c.requires.0 c.requires.2)

pub returns-then-zero_entry : goal.returns-then-zero_entry
returns-then-zero_entry c =
    let l = c.loop-b in
    let g = c.gather in
    sym (l.invariant.1
    ∙ among_here (content_of c.args.reader.view c.args.reader.image.now c.args.i) c.args.last l.b g.new.buffer (g.ensures ∙ rw l.invariant.0) (omega arith)
    (sym c.zero_entry.ensures ∙ c.if-zero_entry.true))

pub overflow_add-b-end : goal.overflow_add-b-end
overflow_add-b-end c = omega (arith, inside c.args.reader.view _ (rules_of c.args.reader) c.args.i c.args.last c.requires.0 c.requires.2)

pub loop-b-preserved : goal.loop-b-preserved
loop-b-preserved c =
    let l = c.loop-b in
    let g = c.gather in (
      g.auto.buffer ∙ l.invariant.0,
      l.invariant.1
          ∙ among_next (content_of c.args.reader.view c.args.reader.image.now c.args.i) c.args.last l.b g.new.buffer (g.ensures ∙ rw l.invariant.0) (omega arith)
          (sym c.zero_entry.ensures ∙ c.if-zero_entry.false),
    )

pub returns : goal.returns
returns c =
    sym (c.loop-b.invariant.1 ∙ among_end (content_of c.args.reader.view c.args.reader.image.now c.args.i) c.args.last c.loop-b.b (omega (arith, c.loop-b-test.false)))
