-- `schedule`: the store is the next word of the schedule, and leaves what stands below it.
use mathlib.Core.Path.{refl}
use Prim.Native.Nat.{◌+◌, ◌<◌}
use native.Mathlib.Omega.{arith}
use lib.ListN.{length, length-set}
use Rattle.lanes.proofs.FlatLaws.{agree_more, scheduled_more}
use Rattle.lanes.proofs.rounds.schedule.Goals as goal

pub returns : goal.returns
returns c =
    let given = c.args in
    let size = c.requires.0 in
    let word = c.next_word in
    let inside : given.i + 128 < length given.words.now = omega (arith, size) in record { words_len = (simp length-set size, agree_more given.words.now given.words.now (given.i + 128) (given.i + 128) word.result (omega arith) (λ j h. refl)); scheduled = λ scheduled. scheduled_more given.words.now given.i word.result inside scheduled word.ensures }
