-- `finish`: as `advance`, with a piece of no bytes. Assumes nothing.
use native.Mathlib.Omega.{arith}
use mathlib.Core.Path.{refl, sym, ap, ◌∙◌}
use borrow.Author.Tests.{leb-true, leb-false}
use Prim.Native.Nat.{◌+◌}
use Rattle.std.specs.Prelude.{Ok}
use Rattle.sha256.specs.Running.{longest}
use Rattle.layout.proofs.AnswerLaws.{answers}
use Rattle.signing.proofs.digests.finish.Goals as goal

pub returns-then-not-fits : goal.returns-then-not-fits
returns-then-not-fits c =
    let e = leb-false (c.args.running.total + 0) longest (sym c.fits.ensures ∙ c.if-not-fits.true) in
    record { accepted = λ l. absurd (omega (arith, e, l)); refused = λ _. answers refl }

pub returns : goal.returns
returns c =
    let e = leb-true (c.args.running.total + 0) longest (sym c.fits.ensures ∙ c.if-not-fits.false) in
    record { accepted = λ _. answers (ap Ok c.finish-digest.ensures.value); refused = λ l. absurd (omega (arith, e, l)) }
