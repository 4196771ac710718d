-- Several rules, all of which must hold.
use Rattle.std.specs.Prelude.{Bool, true, ◌&&◌, List, [], ◌∷◌}

unfoldable pub onto : Bool → List Bool → Bool
onto a [] = a
onto a (b ∷ rest) = onto (a && b) rest

-- every (a ∷ b ∷ c ∷ []) is a && b && c
unfoldable pub every : List Bool → Bool
every rules = onto true rules
