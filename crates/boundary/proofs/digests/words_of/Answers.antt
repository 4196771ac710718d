use mathlib.Core.Path.{refl, ◌∙◌}
use native.Mathlib.Omega.{arith}
use lib.ListN.{length-set}
use Rattle.boundary.proofs.StateLaws.{read_more, all_read}
use Rattle.boundary.proofs.digests.words_of.Goals as goal

pub loop-k-init : goal.loop-k-init
loop-k-init c = (refl, λ j l. absurd (omega arith))

pub loop-k-preserved : goal.loop-k-preserved
loop-k-preserved c =
    let l = c.loop-k in
    (length-set l.word-items l.k c.field4.result ∙ l.invariant.0, read_more _ l.word-items l.k c.field4.result l.invariant.1 c.field4.ensures (omega arith))

pub returns : goal.returns
returns c =
    let l = c.loop-k in
    all_read _ l.word-items l.invariant.0 (λ j h. l.invariant.1 j (omega arith))
