-- The rounds 0 to 15, one after the other.
use mathlib.Core.Path.{refl}
use Rattle.sha256.specs.Sha256.{K, rounds, schedule}
use Rattle.sha256.proofs.Schedules.{round_more}
use Rattle.sha256.proofs.block.rounds_0_to_15.Goals as goal

pub returns : goal.returns
unfolding K rounds
returns c =
    λ b win.
    let e1 = round_more (schedule b 48) _ _ _ 0 1 _ _ refl (refl) refl win.w0 c.round-v1.ensures in
    let e2 = round_more (schedule b 48) _ _ _ 1 2 _ _ refl e1 refl win.w1 c.round-v2.ensures in
    let e3 = round_more (schedule b 48) _ _ _ 2 3 _ _ refl e2 refl win.w2 c.round-v3.ensures in
    let e4 = round_more (schedule b 48) _ _ _ 3 4 _ _ refl e3 refl win.w3 c.round-v4.ensures in
    let e5 = round_more (schedule b 48) _ _ _ 4 5 _ _ refl e4 refl win.w4 c.round-v5.ensures in
    let e6 = round_more (schedule b 48) _ _ _ 5 6 _ _ refl e5 refl win.w5 c.round-v6.ensures in
    let e7 = round_more (schedule b 48) _ _ _ 6 7 _ _ refl e6 refl win.w6 c.round-v7.ensures in
    let e8 = round_more (schedule b 48) _ _ _ 7 8 _ _ refl e7 refl win.w7 c.round-v8.ensures in
    let e9 = round_more (schedule b 48) _ _ _ 8 9 _ _ refl e8 refl win.w8 c.round-v9.ensures in
    let e10 = round_more (schedule b 48) _ _ _ 9 10 _ _ refl e9 refl win.w9 c.round-v10.ensures in
    let e11 = round_more (schedule b 48) _ _ _ 10 11 _ _ refl e10 refl win.w10 c.round-v11.ensures in
    let e12 = round_more (schedule b 48) _ _ _ 11 12 _ _ refl e11 refl win.w11 c.round-v12.ensures in
    let e13 = round_more (schedule b 48) _ _ _ 12 13 _ _ refl e12 refl win.w12 c.round-v13.ensures in
    let e14 = round_more (schedule b 48) _ _ _ 13 14 _ _ refl e13 refl win.w13 c.round-v14.ensures in
    let e15 = round_more (schedule b 48) _ _ _ 14 15 _ _ refl e14 refl win.w14 c.round-v15.ensures in
    round_more (schedule b 48) _ _ _ 15 16 _ _ refl e15 refl win.w15 c.round.ensures
