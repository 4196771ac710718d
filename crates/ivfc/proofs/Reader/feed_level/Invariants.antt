-- `feed_level` meets its contract. The loop's invariant: what was fed is the message and the level's bytes from x up to `at`. Assumes nothing.
use Prim.Native.Nat.{ℕ, ◌≤◌, ◌-◌, ◌+◌}
use mathlib.Core.Path.{◌≡◌}
use mathlib.Core.List.{List, ◌++◌}
use Rattle.number.specs.Bytes.{bytes}
use Rattle.sha256.specs.Running.{Holds}
use Rattle.ivfc.specs.Views.{content_of}
use Rattle.ivfc.proofs.Reader.feed_level.Given as goal

abbrev pub invariant-loop-at : goal.invariant-loop-at
invariant-loop-at l =
    (l.x ≤ l.at) × (l.at ≤ l.end) × (l.fed.total ≡ l.initial.fed.total + (l.at - l.x))
    × ((m : List ℕ) → Holds l.initial.fed m → Holds l.fed (m ++ bytes (content_of l.self.view l.self.image.now l.i) l.x (l.at - l.x)))

abbrev pub decreases-loop-at : goal.decreases-loop-at
decreases-loop-at l = l.end - l.at
