-- An answer that is the given one says what that says. Assumes nothing.
use mathlib.Core.Path.{◌≡◌, ap}
use Rattle.layout.specs.Refusals.{Said, Answers}

pub answers : {E : Type 0} {says : E → Said} {answer given : E} → answer ≡ given → Answers says answer given
answers {says = says} e = record { case = e; said = ap says e }

-- and whatever else is said of the call
pub answers_and : {E B : Type 0} {says : E → Said} {answer given : E} → (answer ≡ given) × B → Answers says answer given × B
answers_and (e, b) = (answers e, b)
