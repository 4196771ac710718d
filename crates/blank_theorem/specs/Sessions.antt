-- A blank image takes sessions: demand 3 speaks of every list of calls on it, and no call in range is refused for a block.
use Rattle.std.specs.Prelude.{ℕ, ◌+◌, ◌*◌, ◌≤◌, ◌<◌, true, false, List, ◌⊎◌, ◌≡◌, length, Ok}
use Rattle.std.proofs.Math.Option.{get_or}
use Rattle.number.specs.Bytes.{bytes}
use Rattle.layout.specs.declared.Kind.{Kind}
use Rattle.steps.specs.Sessions.{idle}
use Rattle.steps.specs.Calls.{read_committed, count_verified}
use Rattle.history.specs.Model.{Plain, Call, Begin, Write, Commit, Accepted, Dropped}
use Rattle.history.specs.Run.{State, ruled, after, events, begins, commits, last_value}
use Rattle.history.specs.Theorem.{Start}
use Rattle.blank.specs.Image.{zeros, image}

-- the blank image, with an idle session
abbrev pub fresh : Kind → ℕ → State
fresh kind n = record { image = image kind n; session = idle }

pub record Takes (kind : Kind) (n : ℕ) : Type 0 where
  -- every read in range gives zeros, and all n blocks are counted
  pub reads : (place : ℕ) (buffer : List ℕ) → place + length buffer ≤ 0x1000 * n
      → read_committed (image kind n) 0 place buffer ≡ record { outcome = Ok tt; buffer = zeros (length buffer) }
  pub counts : count_verified (image kind n) 0 ≡ Ok n
  -- demand 3 speaks of every list of calls
  pub starts : Start 0 (fresh kind n)
  -- after any list, an idle session begins
  pub begin : (calls : List Call) → (after calls (fresh kind n)).session.begun ≡ false → ruled Begin (after calls (fresh kind n)) ≡ Accepted
  -- in a begun one every write in range is accepted or ends in 17, and a commit is accepted
  pub write : (calls : List Call) (place : ℕ) (bytes : List ℕ) → (after calls (fresh kind n)).session.begun ≡ true → place + length bytes ≤ 0x1000 * n
      → (ruled (Write 0 place bytes) (after calls (fresh kind n)) ≡ Accepted) ⊎ (ruled (Write 0 place bytes) (after calls (fresh kind n)) ≡ Dropped)
  pub commit : (calls : List Call) → (after calls (fresh kind n)).session.begun ≡ true → ruled (Commit Plain) (after calls (fresh kind n)) ≡ Accepted
  -- after a session's commit every read in range gives what was written last, and zeros where nothing was
  pub back : (calls : List Call) → begins (events calls (fresh kind n)) ≤ 1 → 0 < commits (events calls (fresh kind n))
      → (place : ℕ) (buffer : List ℕ) → place + length buffer ≤ 0x1000 * n
      → read_committed (after calls (fresh kind n)).image 0 place buffer
      ≡ record { outcome = Ok tt; buffer = bytes (λ (i : ℕ). get_or (last_value 0 i (events calls (fresh kind n))) 0) place (length buffer) }
