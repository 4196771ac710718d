-- `clear_above` empties the hash blocks of one level after those above them; the level falls. Assumes nothing.
use Prim.Native.Nat.{ℕ, ◌-◌, ◌≤◌, ◌<◌}
use mathlib.Core.List.{List}
use mathlib.Core.Path.{◌≡◌, sym, ap, ◌∙◌}
use mathlib.Core.Bool.{Bool, true, false}
use native.Mathlib.Omega.{arith}
use mir.Val.{bool_byte}
use lib.ListN.{length}
use Rattle.number.specs.declared.Level.{Level}
use Rattle.number.specs.Blocks.{blocks}
use Rattle.dpfs.specs.declared.Space.{Space}
use Rattle.ivfc.specs.declared.View.{View}
use Rattle.ivfc.specs.Blocks.{parent}
use Rattle.ivfc.specs.Views.{level_of, verified}
use Rattle.ivfc.proofs.ViewLaws.{block_small}
use Rattle.ivfc.proofs.EntryLaws.{parent_mono}
use Rattle.ivfc.proofs.VerifiedLaws.{parent_above}
use Rattle.update.specs.Rules.{StagedIn}
use Rattle.update.proofs.CodeLaws.{parent_asks}
use Rattle.update.proofs.StagedLaws.{staged}
use Rattle.update.proofs.ClearLaws.{parent_verified, cleared_kept, clear_none, clear_step}
use Rattle.update.proofs.clearing.+clear_above.Goals as goal

bit_small : (b : Bool) → bool_byte b ≤ 1
bit_small true = omega arith
bit_small false = omega arith

pub parent_of-p-requires : goal.parent_of-p-requires
parent_of-p-requires t c =
    let a = c.args in
    let p = c.requires.staged_in in
    parent_asks a.view (length a.image.now) (staged p.0).rules a.i a.last (omega (arith, c.if-i-gt1.true)) p.1 p.3 _ c.level_of-upper.ensures a.first p.2

pub parent_of-q-requires : goal.parent_of-q-requires
parent_of-q-requires t c =
    let a = c.args in
    let p = c.requires.staged_in in
    parent_asks a.view (length a.image.now) (staged p.0).rules a.i a.last (omega (arith, c.if-i-gt1.true)) p.1 p.3 _ c.level_of-upper.ensures a.last (omega arith)

-- the blocks that hold the entries
module _ {space : Space} {view : View} {image : List ℕ} (own : StagedIn space view image) (i first last : ℕ) (more : 1 < i) (level : i ≤ 4) (o : first ≤ last)
    (e : last < blocks (level_of view i)) (upper : Level) (u : upper ≡ level_of view (i - 1)) (p q : ℕ) (pe : p ≡ parent upper first)
    (qe : q ≡ parent upper last) where
  p_is : p ≡ parent (level_of view (i - 1)) first
  p_is = pe ∙ ap (λ (m : Level). parent m first) u

  q_is : q ≡ parent (level_of view (i - 1)) last
  q_is = qe ∙ ap (λ (m : Level). parent m last) u

  q_there : q < blocks (level_of view (i - 1))
  q_there = rw q_is (parent_above (level_of view) (staged own).rules.hash i last (omega arith) level e)

  p≤q : p ≤ q
  p≤q = rw (p_is, q_is) (parent_mono (level_of view (i - 1)) first last o)

  q_small : q < 0x4000000
  q_small = block_small view (length image) (staged own).rules (i - 1) q (omega arith) q_there

pub clear_above-requires : goal.clear_above-requires
clear_above-requires t c =
    let a = c.args in
    let p = c.requires.staged_in in
    let more : 1 < a.i = omega (arith, c.if-i-gt1.true) in
    let u = c.level_of-upper.ensures in (
      omega (arith, c.decreases),
      (
        (
          p.0,
          omega (arith, p.1),
          p≤q p.0 a.i a.first a.last more p.1 p.2 p.3 _ u _ _ c.parent_of-p.ensures c.parent_of-q.ensures,
          q_there p.0 a.i a.first a.last more p.1 p.2 p.3 _ u _ _ c.parent_of-p.ensures c.parent_of-q.ensures,
        ),
        (
          λ f. ap (verified a.view a.image.now (a.i - 1)) (p_is p.0 a.i a.first a.last more p.1 p.2 p.3 _ u _ _ c.parent_of-p.ensures c.parent_of-q.ensures)
              ∙ parent_verified a.view a.image.now a.i a.first (omega arith) (c.requires.first_value.0 f),
          λ f. ap (verified a.view a.image.now (a.i - 1)) (q_is p.0 a.i a.first a.last more p.1 p.2 p.3 _ u _ _ c.parent_of-p.ensures c.parent_of-q.ensures)
              ∙ parent_verified a.view a.image.now a.i a.last (omega arith) (c.requires.first_value.1 f),
        ),
      ),
    )

pub overflow_add-p : goal.overflow_add-p
overflow_add-p t c =
    let a = c.args in
    let p = c.requires.staged_in in
    let more : 1 < a.i = omega (arith, c.if-i-gt1.true) in
    omega (
      arith,
      q_small p.0 a.i a.first a.last more p.1 p.2 p.3 _ c.level_of-upper.ensures _ _ c.parent_of-p.ensures c.parent_of-q.ensures,
      p≤q p.0 a.i a.first a.last more p.1 p.2 p.3 _ c.level_of-upper.ensures _ _ c.parent_of-p.ensures c.parent_of-q.ensures,
      bit_small a.front,
    )

pub overflow_add-q : goal.overflow_add-q
overflow_add-q t c =
    let a = c.args in
    let p = c.requires.staged_in in
    let more : 1 < a.i = omega (arith, c.if-i-gt1.true) in
    omega (arith, q_small p.0 a.i a.first a.last more p.1 p.2 p.3 _ c.level_of-upper.ensures _ _ c.parent_of-p.ensures c.parent_of-q.ensures)

pub empty_level-requires : goal.empty_level-requires
empty_level-requires t c =
    let a = c.args in
    let p = c.requires.staged_in in
    let more : 1 < a.i = omega (arith, c.if-i-gt1.true) in
    let there = q_there p.0 a.i a.first a.last more p.1 p.2 p.3 _ c.level_of-upper.ensures _ _ c.parent_of-p.ensures c.parent_of-q.ensures in (
      cleared_kept p.0 (a.i - 1) _ _ (omega (arith, p.1))
          (p≤q p.0 a.i a.first a.last more p.1 p.2 p.3 _ c.level_of-upper.ensures _ _ c.parent_of-p.ensures c.parent_of-q.ensures)
          there _ c.clear_above.ensures,
      omega arith,
      omega (arith, p.1),
      omega (arith, there),
    )

pub returns-then-i-gt1 : goal.returns-then-i-gt1
returns-then-i-gt1 t c =
    let a = c.args in
    let p = c.requires.staged_in in
    let more : 1 < a.i = omega (arith, c.if-i-gt1.true) in
    clear_step a.space a.view a.image.now (staged p.0) a.i a.first a.last c.parent_of-p.result c.parent_of-q.result a.front a.back
    (omega arith) p.1 p.2 p.3
    (p_is p.0 a.i a.first a.last more p.1 p.2 p.3 _ c.level_of-upper.ensures _ _ c.parent_of-p.ensures c.parent_of-q.ensures)
    (q_is p.0 a.i a.first a.last more p.1 p.2 p.3 _ c.level_of-upper.ensures _ _ c.parent_of-p.ensures c.parent_of-q.ensures)
    c.requires.first_value.0 c.requires.first_value.1 _ _ c.clear_above.ensures c.empty_level.ensures

pub returns-else-i-gt1 : goal.returns-else-i-gt1
returns-else-i-gt1 t c =
    let a = c.args in
    sym (clear_none a.view a.i a.first a.last a.image.now (omega (arith, c.if-i-gt1.false)))
