use mathlib.Core.Path.{◌∙◌}
use native.Mathlib.Omega.{arith}
use Rattle.lanes.proofs.FlatLaws.{reached_words}
use Rattle.lanes.proofs.rounds.first_turns.Goals as goal

pub loop-i-preserved : goal.loop-i-preserved
loop-i-preserved c =
    let now = c.loop-i in
    let given = c.args in
    let word = c.schedule in (
      word.ensures.words_len.0,
      (λ j h. word.ensures.words_len.1 j (omega arith) ∙ now.invariant.1 j h),
      word.ensures.scheduled now.invariant.2,
      c.turn.ensures given.a.now given.e.now (reached_words _ _ _ _ _ _ _ _ _ word.ensures.words_len.1 now.invariant.3),
    )
