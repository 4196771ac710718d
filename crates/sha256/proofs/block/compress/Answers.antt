-- `compress`: 64 rounds, and the sums.
use Rattle.sha256.proofs.Schedules.{compress_is}
use Rattle.sha256.proofs.block.compress.Goals as goal

pub returns : goal.returns
returns c =
    let b = c.args.block.now in
    let v = c.rounds_0_to_15-vars.result in
    let win = c.load-words.ensures in
    let r16 = c.rounds_16_to_31.ensures b _ (record { vars = c.rounds_0_to_15-vars.ensures b win; words = win }) in
    let r32 = c.rounds_32_to_47.ensures b _ r16 in
    let r48 = c.rounds_48_to_63-s.ensures b _ r32 in
    compress_is c.args.hash b _ _ _ c.vars_of-start.ensures r48.vars c.added.ensures
