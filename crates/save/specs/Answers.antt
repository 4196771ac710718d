-- What the answers of the calls on a save say in the paper's terms.
use Rattle.std.specs.Prelude.{ℕ, Result, Option, unwrap_or}
use Rattle.layout.specs.declared.Refusal.{Refusal}
use Rattle.layout.specs.Refusals.{Said, says}

-- the file's entry number, or none, or why the call is refused
abbrev pub Sought : Type 0
Sought = Result (Option ℕ) Refusal

-- the file's entry number, which is never 0, since 0 ends a chain (names' link_at); 0 for none
abbrev pub sought_says : Sought → Said
sought_says answer = says (λ (f : Option ℕ). unwrap_or f 0) answer
