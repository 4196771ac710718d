-- What answers say in the paper's terms: a number, and the value that it carries.
use Rattle.std.specs.Prelude.{ℕ, ◌≡◌, Result, Ok, Err}
use Rattle.layout.specs.declared.Refusal.{Refusal}
use Rattle.layout.specs.declared.Refusal.TheVariants.{Length, Format, Selection, Geometry, TableHash, Descriptor, Placement, NoPartition, OutOfRange, Unverified, SessionState, Stale, SignerKind, Signature, DigestTooLong, InvalidEntry, NoSave, BlankSize, NothingToRevert}

-- what an answer says: 0 for accepted, else the refusal's number; and a value
pub record Said : Type 0 where
  pub number : ℕ
  pub value : ℕ

abbrev pub accepts : (value : ℕ) → Said
accepts value = record { number = 0; value = value }

abbrev pub refusal : (number : ℕ) → Said
refusal number = record { number = number; value = 0 }

-- each refusal has the paper's number; 10 carries the lowest block number of level 4 to which it applies, others carry 0
abbrev pub refuses : Refusal → Said
refuses Length = refusal 1
refuses Format = refusal 2
refuses Selection = refusal 3
refuses Geometry = refusal 4
refuses TableHash = refusal 5
refuses Descriptor = refusal 6
refuses Placement = refusal 7
refuses NoPartition = refusal 8
refuses OutOfRange = refusal 9
refuses (Unverified block) = record { number = 10; value = block }
refuses SessionState = refusal 13
refuses Stale = refusal 14
refuses SignerKind = refusal 15
refuses Signature = refusal 16
refuses InvalidEntry = refusal 18
refuses NoSave = refusal 19
refuses BlankSize = refusal 20
refuses NothingToRevert = refusal 21
refuses DigestTooLong = refusal 22

-- what an answer says: of an accepted one the number that its value counts as, else the refusal
abbrev pub says : {T : Type 0} → (number : T → ℕ) → Result T Refusal → Said
says number (Ok x) = accepts (number x)
says number (Err r) = refuses r

-- where no number goes with a yes, and where the value is a number
abbrev pub outcome_says : {T : Type 0} → Result T Refusal → Said
outcome_says {T} answer = says (λ (_ : T). 0) answer

abbrev pub count_says : Result ℕ Refusal → Said
count_says answer = says (λ (n : ℕ). n) answer

-- a call's answer is the one that its definition gives: the same value or refusal, and so what it says
pub record Answers {E : Type 0} (says : E → Said) (answer given : E) : Type 0 where
  pub case : answer ≡ given
  pub said : says answer ≡ says given
