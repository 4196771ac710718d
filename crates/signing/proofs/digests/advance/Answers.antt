-- `advance`: the test decides which half of `Feeds` is to be shown, and contradicts the other's premise. Assumes nothing.
use native.Mathlib.Omega.{arith}
use mathlib.Core.Path.{refl, sym, ◌∙◌}
use borrow.Author.Tests.{leb-true, leb-false}
use Prim.Native.Nat.{◌+◌}
use lib.ListN.{length}
use Rattle.sha256.specs.Running.{longest}
use Rattle.layout.proofs.AnswerLaws.{answers}
use Rattle.signing.proofs.digests.advance.Goals as goal

pub returns-then-not-fits : goal.returns-then-not-fits
returns-then-not-fits c =
    let a = c.args in
    let e = leb-false (a.running.total + length a.piece.now) longest (sym c.fits.ensures ∙ c.if-not-fits.true) in
    record { accepted = λ l. absurd (omega (arith, e, l)); refused = λ _. answers refl }

pub update-next-requires : goal.update-next-requires
update-next-requires c = leb-true (c.args.running.total + length c.args.piece.now) longest (sym c.fits.ensures ∙ c.if-not-fits.false)

pub returns : goal.returns
returns c =
    let a = c.args in
    let e = leb-true (a.running.total + length a.piece.now) longest (sym c.fits.ensures ∙ c.if-not-fits.false) in
    record { accepted = λ _. (c.update-next.result, answers refl, c.update-next.ensures.result_value); refused = λ l. absurd (omega (arith, e, l)) }
