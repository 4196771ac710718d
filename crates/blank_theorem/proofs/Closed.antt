-- The closed statement. Assumes nothing.
use Prim.Native.Nat.{ℕ}
use mathlib.Core.Bool.{Bool, true, false, cond}
use mathlib.Core.List.{List}
use mathlib.Core.Path.{◌≡◌, refl}
use native.Mathlib.Omega.{arith}
use lib.ListN.{length}
use lib.Dec.{eqb}
use Rattle.number.proofs.Tests.{and_left}
use Rattle.layout.specs.declared.Kind.{Kind}
use Rattle.layout.specs.declared.Refusal.TheVariants.{BlankSize}
use Rattle.steps.specs.declared.Ending.TheVariants.{Accepted, Refused, Dropped}
use Rattle.blank.specs.Sizes.{blocks_allowed, image_size}
use Rattle.blank.specs.Image.{zeros, image}
use Rattle.blank.specs.Making.{zero_digest, suited, Made, made}
use Rattle.blank.proofs.SizeLaws.{next_reaches, next_least, bits_enough, bits_least}
use Rattle.blank_theorem.specs.Closed.{BlankTheorem}
use Rattle.blank_theorem.proofs.ViewLaws.{blank}
use Rattle.blank_theorem.proofs.SessionLaws.{takes}

-- what the call leaves, by its two tests
abbrev left : (lent : List ℕ) → Kind → (n : ℕ) → (fits none : Bool) → Made
left lent kind n fits none =
    cond fits
    (cond none (record { outcome = Dropped; image = zeros (image_size n) }) (record { outcome = Accepted; image = image kind n }))
    (record { outcome = Refused BlankSize; image = lent })

makes : (lent : List ℕ) (kind : Kind) (n : ℕ) → (made lent kind n).outcome ≡ Accepted
    → ((made lent kind n).image ≡ image kind n) × (blocks_allowed n ≡ true) × (zero_digest n ≡ false)
unfolding made suited
makes lent kind n e = go (suited (length lent) n) (zero_digest n) refl refl e
  where
    go : (s z : Bool) → suited (length lent) n ≡ s → zero_digest n ≡ z → (left lent kind n s z).outcome ≡ Accepted
        → ((left lent kind n s z).image ≡ image kind n) × (blocks_allowed n ≡ true) × (zero_digest n ≡ false)
    go true false p q e = (refl, and_left (blocks_allowed n) (eqb (length lent) (image_size n)) p, q)
    go true true p q e = let k : ◌≡◌ {A = ℕ} 0 1 = cc in absurd (omega arith)
    go false z p q e = let k : ◌≡◌ {A = ℕ} 0 1 = cc in absurd (omega arith)

pub theorem : BlankTheorem
theorem = record {
  rounding = record { reaches = next_reaches; nearest = next_least; enough = bits_enough; least = bits_least };
  blank = blank;
  takes = λ kind n allowed z. takes kind n (blank kind n allowed z);
  makes = makes;
}
