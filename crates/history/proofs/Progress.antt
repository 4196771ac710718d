-- After any list a begin, a commit and an abandon are refused with 13 or not at all, from the laws of the calls. Assumes nothing else.
use Rattle.std.specs.Prelude.{Result, Ok}
use Rattle.layout.specs.declared.Refusal.{Refusal}
use mathlib.Core.Path.{◌≡◌, refl, sym, ap, ◌∙◌}
use mathlib.Core.Bool.{Bool, true, false, true≢false}
use mathlib.Core.List.{List}
use mathlib.Core.Option.{Option, none, some}
use Prim.Native.Nat.{ℕ}
use lib.ListN.{length}
use Rattle.number.specs.declared.Level.{Level}
use Rattle.layout.specs.declared.Container.{Container}
use Rattle.layout.specs.Opening.{opened}
use Rattle.layout.proofs.GuaranteeLaws.{guarantees}
use Rattle.views.proofs.PlaceLaws.{first_there}
use Rattle.signing.specs.declared.Signer.{Signer}
use Rattle.signing.specs.Calls.{Signs, signed, outcome_of}
use Rattle.signing.specs.Calls as signing
use Rattle.steps.specs.Sessions.{current}
use Rattle.steps.specs.Calls.{while_idle, entered, goes_on, After, begin_on, begin, commit_on, commit, commit_by, commit_signed, abandon}
use Rattle.steps.proofs.SessionLaws.{no_of}
use Rattle.steps.proofs.EnterLaws.{enters}
use Rattle.history.specs.Model.{Plain, Signed, Begin, Commit, Abandon, Stepping, Accepted, ending_of, Model}
use Rattle.views.specs.Versions.{Version}
use Rattle.history.specs.Run.{State, perform, ruled}
use Rattle.history.specs.External.{StartThere, committed_of, level_of_there, is_external, Loose, tight}
use Rattle.history.specs.Theorem.{ended_by, Progress, ProgressTheorem}
use Rattle.history.proofs.CallLaws.{CallLaws}
use Rattle.history.proofs.Mirroring.{TracksBut, MirrorsBut, mirrors_on, first_mirrors}

begin_accepted : (st : State) (c : Container) → opened st.image ≡ Ok c → st.session.begun ≡ false → ruled Begin st ≡ Accepted
unfolding perform begin
begin_accepted st c o i =
    ap (λ (x : Result Container Refusal). ending_of (goes_on st.image st.session (begin_on st.image) x).outcome) (ap (while_idle st.session) o ∙ no_of st.session.begun _ _ i)

-- a session that may go on goes on
goes : (st : State) (c : Container) (next : Container → After) → opened st.image ≡ Ok c → st.session.begun ≡ true → current c st.image st.session ≡ true
    → goes_on st.image st.session next (entered st.image st.session) ≡ next c
goes st c next o b k = ap (goes_on st.image st.session next) (sym (enters st.image st.session (opened st.image) refl c o b k))

commit_accepted : (st : State) (c : Container) → opened st.image ≡ Ok c → st.session.begun ≡ true
    → current c st.image st.session ≡ true → ruled (Commit Plain) st ≡ Accepted
unfolding perform commit
commit_accepted st c o b k = ap (λ (a : After). ending_of a.outcome) (goes st c (commit_on st.image) o b k)

-- once 13 and 14 are passed, 15 alone stops a signed commit
signed_answer : (st : State) (c : Container) (key : List ℕ) (signer : Signer) → opened st.image ≡ Ok c → st.session.begun ≡ true
    → current c st.image st.session ≡ true → (perform (Commit (Signed key signer)) st).answer ≡ Stepping (ended_by (outcome_of (signed st.image signer)))
unfolding perform commit_signed
signed_answer st c key signer o b k =
    ap (λ (a : After). Stepping a.outcome)
    (goes st c next o b k)
    ∙ by (signed st.image signer)
  where
    next : Container → After
    next = commit_by st.image st.session key signer (signed st.image signer)

    by : (a : signing.Answer) → Stepping (commit_by st.image st.session key signer a c).outcome ≡ Stepping (ended_by (outcome_of a))
    by (Signs block) = refl
    by (signing.Refused r) = refl

abandon_accepted : (st : State) → st.session.begun ≡ true → ruled Abandon st ≡ Accepted
unfolding perform abandon
abandon_accepted st b = rw b

-- partition A is always there, and whichever kind it is, a begun session is one that may go on
current_of : {external : Bool} {level : Level} {loose : Loose} {p : ℕ} {st : State} {m : Model} (g : MirrorsBut external level loose p st m) → st.session.begun ≡ true
    → current g.has.container st.image st.session ≡ true
current_of {loose = loose} {st = st} {m = m} g b = by m.staged g.staged
  where
    by : (o : Option Version) → TracksBut g.has st.session loose.staged o → current g.has.container st.image st.session ≡ true
    by none t = absurd (true≢false (sym b ∙ t))
    by (some v) t = t.1

progress_of : {external : Bool} {level : Level} {loose : Loose} {p : ℕ} {st : State} {m : Model} → MirrorsBut external level loose p st m → Progress st
progress_of {st = st} g = record {
  idle = begin_accepted st g.has.container g.has.opens;
  begun = λ b. (commit_accepted st g.has.container g.has.opens b (current_of g b), abandon_accepted st b);
  enters = λ b. (g.has.container, sym (enters st.image st.session (opened st.image) refl g.has.container g.has.opens b (current_of g b)));
  signs = λ key signer b. signed_answer st g.has.container key signer g.has.opens b (current_of g b);
}

pub progress : CallLaws → ProgressTheorem
progress W st c o i calls =
    let g = guarantees st.image c o in
    let start : StartThere 0 st = record { has = record { container = c; opens = o; there = first_there (length st.image) c.header g.header }; idle = i } in
    progress_of (mirrors_on W (is_external start.has) (level_of_there start.has) 0 calls tight st (record { committed = committed_of start.has; staged = none }) (first_mirrors 0 st start))
