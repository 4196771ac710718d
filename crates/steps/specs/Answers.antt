-- What the answers of the calls say in the paper's terms.
use Rattle.std.specs.Prelude.{Result, Bool, cond}
use Rattle.layout.specs.declared.Refusal.{Refusal}
use Rattle.layout.specs.Refusals.{Said, accepts, refusal, refuses, says}
use Rattle.steps.specs.declared.Ending.{Ending}
use Rattle.steps.specs.declared.Ending.TheVariants as ending

-- 1 for yes, 0 for no
abbrev pub verdict_says : Result Bool Refusal → Said
verdict_says answer = says (λ (b : Bool). cond b 1 0) answer

-- a write that is dropped, and a blank image that is, are refused with 17
abbrev pub ending_says : Ending → Said
ending_says ending.Accepted = accepts 0
ending_says (ending.Refused r) = refuses r
ending_says ending.Dropped = refusal 17
