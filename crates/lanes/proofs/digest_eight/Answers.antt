use mathlib.Core.Path.{◌≡◌, refl, ◌∙◌}
use Prim.Native.Nat.{◌+◌, ◌/◌}
use native.Mathlib.Omega.{arith}
use Rattle.sha256.specs.Sha256.{hashed}
use Rattle.lanes.specs.Flat.{lane_block, hash_of}
use Rattle.lanes.proofs.DigestLaws.{hash_more, digests_are}
use Rattle.lanes.proofs.LaneLaws.{lane_started}
use Rattle.lanes.proofs.digest_eight.Goals as goal

pub loop-b-init : goal.loop-b-init
unfolding hashed
loop-b-init c = (refl, c.start.ensures.0, c.start-2.ensures.0, refl, λ l h. lane_started c.start.new.x c.start-2.new.x l h c.start.ensures.1 c.start-2.ensures.1)

pub loop-b-preserved : goal.loop-b-preserved
loop-b-preserved c =
    let now = c.loop-b in
    let given = c.args in
    let block = c.compress in (
      block.ensures.words_len.0,
      block.ensures.words_len.1,
      block.ensures.words_len.2,
      block.ensures.words_len.3,
      λ l h.
          hash_more given.messages.now (hash_of now.a now.e l) _ given.n now.b l (now.invariant.4 l h) (block.ensures.by_index (lane_block given.messages.now given.n now.b) c.fill.ensures.1 l h),
    )

pub returns : goal.returns
returns c =
    let now = c.loop-b in
    let given = c.args in
    let all : now.b ≡ given.n / 64 + 1 = omega arith in
    c.digests_of.ensures ∙ digests_are given.messages.now now.a now.e given.n 8 c.requires.0 c.requires.1 c.requires.2 (omega arith) (rw all at now.invariant.4)
