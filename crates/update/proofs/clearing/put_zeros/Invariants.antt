-- `put_zeros` puts zeros run by run. The loop's invariant: those so far are put as one run. Assumes nothing.
use mathlib.Core.Path.{◌≡◌}
use Prim.Native.Nat.{◌≤◌, ◌-◌}
use lib.ListN.{length, replicate}
use Rattle.update.specs.Staged.{put_level}
use Rattle.update.proofs.clearing.put_zeros.Given as goal

abbrev pub invariant-loop-done : goal.invariant-loop-done
invariant-loop-done l =
    (l.zeros ≡ replicate 64 0) × (l.done ≤ l.n) × (length l.image ≡ length l.initial.image) × (l.image ≡ put_level l.view l.i l.x (replicate l.done 0) l.initial.image)

abbrev pub decreases-loop-done : goal.decreases-loop-done
decreases-loop-done l = l.n - l.done
