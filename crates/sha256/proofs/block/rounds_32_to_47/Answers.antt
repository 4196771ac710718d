-- The rounds 32 to 47, one after the other.
use mathlib.Core.Path.{refl}
use lib.Dec.{lit<}
use Rattle.sha256.specs.Sha256.{K}
use Rattle.sha256.proofs.block.rounds_32_to_47.Goals as goal

pub returns : goal.returns
unfolding K
returns c =
    λ b v r.
    let r1 = c.step-s1.ensures b v 16 (lit< tt) refl r in
    let r2 = c.step-s2.ensures b v 17 (lit< tt) refl r1 in
    let r3 = c.step-s3.ensures b v 18 (lit< tt) refl r2 in
    let r4 = c.step-s4.ensures b v 19 (lit< tt) refl r3 in
    let r5 = c.step-s5.ensures b v 20 (lit< tt) refl r4 in
    let r6 = c.step-s6.ensures b v 21 (lit< tt) refl r5 in
    let r7 = c.step-s7.ensures b v 22 (lit< tt) refl r6 in
    let r8 = c.step-s8.ensures b v 23 (lit< tt) refl r7 in
    let r9 = c.step-s9.ensures b v 24 (lit< tt) refl r8 in
    let r10 = c.step-s10.ensures b v 25 (lit< tt) refl r9 in
    let r11 = c.step-s11.ensures b v 26 (lit< tt) refl r10 in
    let r12 = c.step-s12.ensures b v 27 (lit< tt) refl r11 in
    let r13 = c.step-s13.ensures b v 28 (lit< tt) refl r12 in
    let r14 = c.step-s14.ensures b v 29 (lit< tt) refl r13 in
    let r15 = c.step-s15.ensures b v 30 (lit< tt) refl r14 in
    c.step.ensures b v 31 (lit< tt) refl r15
