-- Feeding a running digest that its holder lends: for every digest, also one that nobody started.
use Rattle.std.specs.Prelude.{◌≡◌, List, [], ◌∷◌, ℕ, ◌+◌, ◌≤◌, ◌<◌, length, Result, Ok, Err}
use Rattle.sha256.specs.Sha256.{sha256}
use Rattle.sha256.specs.Running.{longest, state_of, fresh, advanced, joined, digest_of}
use Rattle.sha256.specs.declared.running.Running.{Running}
use Rattle.layout.specs.declared.Refusal.{Refusal}
use Rattle.layout.specs.declared.Refusal.TheVariants.{DigestTooLong}
use Rattle.layout.specs.Refusals.{Answers, outcome_says}

-- the digest with a piece more; 22 for a piece that takes the total past the longest message, and for any piece once the total is past it
pub record Feeds (before : Running) (piece : List ℕ) (fed : Result Running Refusal) : Type 0 where
  pub accepted : before.total + length piece ≤ longest → (next : Running) × Answers outcome_says fed (Ok next) × (state_of next ≡ advanced (state_of before) piece)
  pub refused : longest < before.total + length piece → Answers outcome_says fed (Err DigestTooLong)

-- a refused piece leaves the digest as it was
abbrev pub after_feeding : (before : Running) → Result Running Refusal → Running
after_feeding before (Ok next) = next
after_feeding before (Err r) = before

-- the same in place: a yes or a refusal, and the digest that is left
abbrev pub in_place : Result (Unit {0}) Refusal → (after : Running) → Result Running Refusal
in_place (Ok tt) after = Ok after
in_place (Err r) after = Err r

pub record FeedsInPlace (before : Running) (piece : List ℕ) (answer : Result (Unit {0}) Refusal) (after : Running) : Type 0 where
  pub feeds : Feeds before piece (in_place answer after)
  pub left : after ≡ after_feeding before (in_place answer after)

-- the final call: the digest of what was fed, or 22
pub record Finishes (running : Running) (finished : Result (List ℕ) Refusal) : Type 0 where
  pub accepted : running.total ≤ longest → Answers outcome_says finished (Ok (digest_of (state_of running)))
  pub refused : longest < running.total → Answers outcome_says finished (Err DigestTooLong)

-- piece after piece, whatever each call answers
unfoldable pub FedBy : Running → List (List ℕ) → Running → Type 0
FedBy before [] after = after ≡ before
FedBy before (piece ∷ pieces) after = (fed : Result Running Refusal) × Feeds before piece fed × FedBy (after_feeding before fed) pieces after

-- from a fresh start any cutting of a message that is not too long is accepted, and gives the digest of the whole
abbrev pub AnyCutting : Type 0
AnyCutting =
    (start last : Running) (pieces : List (List ℕ)) (end : Result (List ℕ) Refusal) → state_of start ≡ fresh → length (joined pieces) ≤ longest
    → FedBy start pieces last → Finishes last end → Answers outcome_says end (Ok (sha256 (joined pieces)))
