-- How a running digest passes the C boundary: as 104 bytes.
use Rattle.layout.specs.Refusals.{outcome_says}
use Rattle.std.specs.Prelude.{ℕ, ◌*◌, ◌≡◌, List, take, drop, Result, Ok, Err}
use Rattle.std.specs.Result.{result_unwrap_or}
use Rattle.layout.specs.declared.Refusal.{Refusal}
use Rattle.number.specs.Bytes.{bytes}
use Rattle.number.specs.Fields.{le32, le64}
use Rattle.sha256.specs.declared.running.Running.{Running}
use Rattle.signing.specs.Digests.{Feeds, Finishes, after_feeding}
use Rattle.boundary.specs.Boundary.{packed}

-- the eight words of the hash value, the block whose front waits, and the count of all bytes, the least significant byte first; any bytes are one
unfoldable pub running_of : List ℕ → Running
running_of state = record { hash = bytes (λ (k : ℕ). le32 state (4 * k)) 0 8; rest = take 64 (drop 32 state); total = le64 state 96 }

-- a piece that is accepted leaves the bytes of the digest after it (what stands in the block behind its waiting front is the program's choice, and has no
-- meaning); one that is refused leaves them alone
abbrev pub StateLeft : Result Running Refusal → (before after : List ℕ) → Type 0
StateLeft (Ok running) before after = running_of after ≡ running
StateLeft (Err r) before after = after ≡ before

-- what feeding a piece answers, and the bytes that it leaves
pub record FedBytes (answer : ℕ) (before piece after : List ℕ) : Type 0 where
  pub fed : Result Running Refusal
  pub feeds : Feeds (running_of before) piece fed
  pub outcome : answer ≡ packed (outcome_says fed)
  pub stored : running_of after ≡ after_feeding (running_of before) fed
  pub left : StateLeft fed before after

-- a refusal leaves the caller's 32 bytes alone
abbrev pub digest_kept : (before : List ℕ) → Result (List ℕ) Refusal → List ℕ
digest_kept before finished = result_unwrap_or finished before

-- what the final call answers, and the 32 bytes that it leaves
pub record FinishedBytes (answer : ℕ) (state before after : List ℕ) : Type 0 where
  pub finished : Result (List ℕ) Refusal
  pub finishes : Finishes (running_of state) finished
  pub outcome : answer ≡ packed (outcome_says finished)
  pub left : after ≡ digest_kept before finished
