-- `views::places::tree_in` meets its contract. Assumes nothing.
use mathlib.Core.Path.{◌≡◌}
use mathlib.Core.Bool.{Bool}
use Rattle.number.specs.declared.Level.{Level}
use Rattle.dpfs.specs.declared.Tree.{Tree}
use Rattle.views.specs.Places.{tree_in}
use Rattle.views.proofs.places.tree_in.Goals as goal

-- the levels that the calls made, among the other fields
made :
    (l : Level) (live : Bool) {x x' y y' : Level} →
    x ≡ x' →
    y ≡ y' →
    ◌≡◌ {A = Tree} record { level1 = l; level2 = x; level3 = y; live = live } record { level1 = l; level2 = x'; level3 = y'; live = live }
made l live p q = λ i. record { level1 = l; level2 = p i; level3 = q i; live = live }

pub returns : goal.returns
unfolding tree_in
returns c = made _ _ c.level_at-level2.ensures c.level_at-level3.ensures
