use mathlib.Core.Path.{refl, ◌∙◌}
use native.Mathlib.Omega.{arith}
use Rattle.boundary.proofs.StateLaws.{words_more}
use Rattle.boundary.proofs.digests.put_words.Goals as goal

pub loop-k-init : goal.loop-k-init
loop-k-init c = (refl, λ j l. absurd (omega arith))

pub loop-k-preserved : goal.loop-k-preserved
loop-k-preserved c =
    let l = c.loop-k in
    let p = c.put_word in
    (p.auto.bytes ∙ l.invariant.0, words_more l.bytes p.new.bytes c.args.hash l.k l.invariant.1 p.ensures.0 p.ensures.1)

pub shape_of-bytes : goal.shape_of-bytes
shape_of-bytes c = c.loop-k.invariant.0

pub returns : goal.returns
returns c k h = c.loop-k.invariant.1 k (omega arith)
