-- `feed_zeros` meets its contract. The loop's invariant: so many rows of zeros were fed. Assumes nothing.
use Rattle.std.proofs.Common.{◌≡◌, ℕ, List, ◌+◌, ◌*◌, ◌++◌, replicate}
use Rattle.sha256.specs.Running.{Holds}
use Rattle.ivfc.proofs.hashing.feed_zeros.Given as goal

abbrev pub invariant-loop-k : goal.invariant-loop-k
invariant-loop-k l =
    (l.zeros ≡ replicate 64 0) × (l.fed.total ≡ l.initial.fed.total + 64 * l.«_k»)
    × ((m : List ℕ) → Holds l.initial.fed m → Holds l.fed (m ++ replicate (64 * l.«_k») 0))
