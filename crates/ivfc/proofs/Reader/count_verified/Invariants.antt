-- `count_verified` meets its contract. The loop's invariant: so many of the blocks of level 4 below the first p blocks of level 3 are
-- verified, and the memory is right. The measure is what is left of level 3. Assumes nothing.
use Prim.Native.Nat.{suc, ◌-◌, ◌<◌, min}
use mathlib.Core.Path.{◌≡◌}
use Rattle.number.specs.Blocks.{blocks}
use Rattle.ivfc.specs.Blocks.{parent, child}
use Rattle.ivfc.specs.Verified.{count_of}
use Rattle.ivfc.specs.Views.{level_of, verified}
use Rattle.ivfc.specs.Rules.{Remembers}
use Rattle.ivfc.proofs.Reader.count_verified.Given as goal

abbrev pub invariant-loop-p : goal.invariant-loop-p
invariant-loop-p l =
    (l.n ≡ blocks (level_of l.self.view 4)) × (0 < l.n) × (l.last ≡ parent (level_of l.self.view 3) (l.n - 1)) × Remembers l.self.view l.self.image.now 3 l.last l.memory
    × (l.count ≡ count_of (verified l.self.view l.self.image.now 4) (min l.n (child (level_of l.self.view 3) l.p)))

abbrev pub decreases-loop-p : goal.decreases-loop-p
decreases-loop-p l = suc l.last - l.p
