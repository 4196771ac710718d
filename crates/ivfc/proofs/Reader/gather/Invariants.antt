-- `gather` meets its contract. The loop's invariant: as many bytes as are done are the level's. The measure is what is left. Assumes nothing.
use Prim.Native.Nat.{◌≤◌, ◌-◌}
use mathlib.Core.Path.{◌≡◌}
use lib.ListN.{length, take}
use Rattle.number.specs.Bytes.{bytes}
use Rattle.ivfc.specs.Views.{content_of}
use Rattle.ivfc.proofs.Reader.gather.Given as goal

abbrev pub invariant-loop-done : goal.invariant-loop-done
invariant-loop-done l =
    (l.n ≡ length l.initial.buffer) × (l.done ≤ l.n) × (length l.buffer ≡ length l.initial.buffer) × (take l.done l.buffer ≡ bytes (content_of l.self.view l.self.image.now l.i) l.x l.done)

abbrev pub decreases-loop-done : goal.decreases-loop-done
decreases-loop-done l = l.n - l.done
