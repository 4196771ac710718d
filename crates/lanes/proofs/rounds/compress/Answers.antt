-- `compress`: the flat loops together make of each lane what the standard makes of its hash value and block.
use Rattle.lanes.proofs.LaneLaws.{lane_compress}
use Rattle.lanes.proofs.rounds.compress.Goals as goal

pub returns : goal.returns
returns c =
    let given = c.args in
    let scheduled = c.first_turns in
    let turned = c.last_turns in
    let reached = turned.ensures given.a.now given.e.now scheduled.ensures.reached in
    let fold-a = c.fold in
    let fold-e = c.fold-2 in record {
      words_len = (scheduled.ensures.words_len.0, fold-a.ensures.0, fold-e.ensures.0, reached.size_changes);
      by_index = λ block loaded l h.
          lane_compress given.constants.now given.words.now scheduled.new.words given.a.now given.e.now turned.new.a turned.new.e fold-a.new.x fold-e.new.x
          block l h c.requires.4 loaded scheduled.ensures.words_len.1 scheduled.ensures.words_len.2 reached.kept_a reached.kept_e reached.turned fold-a.ensures.1 fold-e.ensures.1;
    }
