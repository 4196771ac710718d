-- What the exit of a `?` returns, where the error is of the caller's own type. Assumes nothing.
use Rattle.std.specs.Prelude.{Result, Ok, Err, ◌≡◌}
use Rattle.std.specs.Result.{IsErrAnd}
use mathlib.Core.Path.{ap}

pub passed_up : {T E : Type 0} (r : Result T E) (e : E) → IsErrAnd r (λ x. x ≡ e) → r ≡ Err e
passed_up (Ok x) e h = absurd h
passed_up (Err y) e h = ap Err h
