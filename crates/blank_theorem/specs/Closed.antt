-- The closed statement; proofs/Closed.antt proves it.
use Rattle.std.specs.Prelude.{ℕ, ◌*◌, ◌≤◌, ◌<◌, true, false, List, ◌≡◌}
use Rattle.layout.specs.declared.Kind.{Kind}
use Rattle.steps.specs.declared.Ending.TheVariants.{Accepted}
use Rattle.blank.specs.Sizes.{blocks_allowed, next, bits_for}
use Rattle.blank.specs.Image.{image}
use Rattle.blank.specs.Making.{zero_digest, made}
use Rattle.blank_theorem.specs.Theorem.{Blank}
use Rattle.blank_theorem.specs.Sessions.{Takes}

-- `next` is the next multiple at or after x, and `bits_for` the least one with enough bits
pub record Rounding : Type 0 where
  pub reaches : (x unit : ℕ) → 0 < unit → x ≤ next x unit
  pub nearest : (x unit k : ℕ) → 0 < unit → x ≤ unit * k → next x unit ≤ unit * k
  pub enough : (count unit : ℕ) → 0 < unit → count ≤ 8 * bits_for count unit
  pub least : (count unit k : ℕ) → 0 < unit → count ≤ 8 * (unit * k) → bits_for count unit ≤ unit * k

pub record BlankTheorem : Type 0 where
  pub rounding : Rounding
  -- of either kind and every n in range, where no digest is all zero
  pub blank : (kind : Kind) (n : ℕ) → blocks_allowed n ≡ true → zero_digest n ≡ false → Blank kind n
  pub takes : (kind : Kind) (n : ℕ) → blocks_allowed n ≡ true → zero_digest n ≡ false → Takes kind n
  -- and such an image it is that an accepted call made
  pub makes : (lent : List ℕ) (kind : Kind) (n : ℕ) → (made lent kind n).outcome ≡ Accepted
      → ((made lent kind n).image ≡ image kind n) × (blocks_allowed n ≡ true) × (zero_digest n ≡ false)
