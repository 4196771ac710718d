-- The parts of several rules that all hold. Assumes nothing.
use mathlib.Core.Bool.{Bool, true, ◌&&◌}
use mathlib.Core.List.{List, [], ◌∷◌}
use mathlib.Core.Path.{◌≡◌}
use Rattle.number.proofs.Tests.{and_left, and_right}
use Rattle.layout.specs.Every.{onto, every}

-- each of the rules holds
abbrev pub Truths : List Bool → Type 0
Truths [] = Unit {0}
Truths (b ∷ rest) = (b ≡ true) × Truths rest

onto_truths : (a : Bool) (rules : List Bool) → onto a rules ≡ true → (a ≡ true) × Truths rules
unfolding onto
onto_truths a [] e = (e, tt)
onto_truths a (b ∷ rest) e =
    let w = onto_truths (a && b) rest e in
    (and_left a b w.0, (and_right a b w.0, w.1))

pub truths : (rules : List Bool) → every rules ≡ true → Truths rules
unfolding every
truths rules e = (onto_truths true rules e).1
