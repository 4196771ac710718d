-- The calls on a session, by the checks that lead to each answer. Assumes nothing.
use Rattle.std.specs.Prelude.{Result, Ok, Err}
use Prim.Native.Nat.{ℕ, ◌<◌}
use mathlib.Core.Bool.{Bool, true, false, cond, true≢false}
use mathlib.Core.List.{List}
use mathlib.Core.Path.{◌≡◌, refl, sym, ap, ◌∙◌, subst}
use lib.Dec.{ltb}
use lib.ListN.{length}
use Rattle.layout.specs.declared.Container.{Container}
use Rattle.layout.specs.declared.Refusal.{Refusal}
use Rattle.layout.specs.declared.Refusal.TheVariants.{NoPartition, SessionState}
use Rattle.layout.specs.Headers.{header_bytes}
use Rattle.layout.specs.Opening.{opened}
use Rattle.layout.specs.Guarantees.{Guarantees}
use Rattle.layout.proofs.AnswerLaws.{answers}
use Rattle.layout.proofs.GuaranteeLaws.{guarantees}
use Rattle.dpfs.specs.declared.Space.{Space}
use Rattle.ivfc.specs.declared.View.{View}
use Rattle.ivfc.specs.Rules.{ViewRules}
use Rattle.update.specs.Staged.{written_to, holds_zero}
use Rattle.update.specs.Rules.{WriteRules}
use Rattle.views.specs.Places.{partitions, staged_view, space_of}
use Rattle.views.proofs.PlaceLaws.{staged_rules}
use Rattle.steps.specs.declared.Ending.TheVariants as ending
use Rattle.steps.specs.declared.Session.{Session}
use Rattle.steps.specs.declared.Step.{Step}
use Rattle.steps.specs.Sessions.{idle, begun_with, remembering, begun_image, write_outcome}
use Rattle.signing.specs.declared.Signer.{Signer}
use Rattle.signing.specs.Calls.{Answer, signed, outcome_of, signed_header}
use Rattle.signing.proofs.AnswerLaws.{refused_is, accepted_is, accepted_header}
use Rattle.commits.specs.Committing.{stored_header, stored_signed, committed_image, committed_signed}
use Rattle.steps.specs.Calls.{while_idle, goes_on, After, Stepped, unchanged, done, begin_on, begin, finished, leaving, write_to, write_on, commit_on, commit_by, revert_on, revert_by, abandon, Abandoned}
use Rattle.steps.proofs.WriteLaws.{write_rules}

-- which arm of a test is taken
pub yes_of : {A : Type 0} (t : Bool) (a b : A) → t ≡ true → cond t a b ≡ a
yes_of true a b e = refl
yes_of false a b e = absurd (true≢false (sym e))

pub no_of : {A : Type 0} (t : Bool) (a b : A) → t ≡ false → cond t a b ≡ b
no_of true a b e = absurd (true≢false e)
no_of false a b e = refl

-- a step that refuses
abbrev pub Refuses : Step → Session → Refusal → Type 0
Refuses step session r = (step.outcome ≡ ending.Refused r) × (step.session ≡ session)

pub stepped_refused : (step : Step) (image : List ℕ) (session : Session) (r : Refusal) (after : After) → after ≡ unchanged image session r
    → Refuses step session r → Stepped step image after
stepped_refused step image session r after e (o, s) = record {
  outcome = answers (o ∙ sym (ap (λ (a : After). a.outcome) e));
  session = s ∙ sym (ap (λ (a : After). a.session) e);
  stored = sym (ap (λ (a : After). a.image) e);
}

stepped_done : (step : Step) (image left : List ℕ) (session : Session) (after : After) → after ≡ done image session → step.outcome ≡ ending.Accepted → step.session ≡ session
    → left ≡ image → Stepped step left after
stepped_done step image left session after e o s l = record {
  outcome = answers (o ∙ sym (ap (λ (a : After). a.outcome) e));
  session = s ∙ sym (ap (λ (a : After). a.session) e);
  stored = l ∙ sym (ap (λ (a : After). a.image) e);
}

-- a write that has stored, whether it holds a digest that is all zero or not
stepped_finished : (zero : Bool) (step : Step) (image left : List ℕ) (session : Session) (after : After)
    → after ≡ cond zero (record { outcome = ending.Dropped; image = image; session = idle }) (done image session)
    → (step.outcome ≡ cond zero ending.Dropped ending.Accepted) × (step.session ≡ cond zero idle session) → left ≡ image → Stepped step left after
stepped_finished true step image left session after e (o, s) l = record {
  outcome = answers (o ∙ sym (ap (λ (a : After). a.outcome) e));
  session = s ∙ sym (ap (λ (a : After). a.session) e);
  stored = l ∙ sym (ap (λ (a : After). a.image) e);
}
stepped_finished false step image left session after e (o, s) l = stepped_done step image left session after e o s l

module _ (image : List ℕ) (answer : Result Container Refusal) (a : answer ≡ opened image) (session : Session) where
  -- ---- an image that does not open

  module _ (r : Refusal) (e : answer ≡ Err r) (step : Step) (s : Refuses step session r) where
    is : opened image ≡ Err r
    is = sym a ∙ e

    pub begin_unopened : Stepped step image (begin image session)
    unfolding begin
    begin_unopened = stepped_refused step image session r _ (ap (λ (o : Result Container Refusal). goes_on image session (begin_on image) (while_idle session o)) is) s

  -- ---- one that does

  module _ (c : Container) (e : answer ≡ Ok c) where
    pub valid : opened image ≡ Ok c
    valid = sym a ∙ e

    pub guaranteed : Guarantees image c
    guaranteed = guarantees image c valid

    begun_is : begin image session ≡ goes_on image session (begin_on image) (cond session.begun (Err SessionState) (Ok c))
    unfolding begin
    begun_is = ap (λ (o : Result Container Refusal). goes_on image session (begin_on image) (while_idle session o)) valid

    pub begin_busy : session.begun ≡ true → (step : Step) → Refuses step session SessionState → Stepped step image (begin image session)
    begin_busy b step s = stepped_refused step image session SessionState _ (begun_is ∙ ap (goes_on image session (begin_on image)) (yes_of session.begun _ _ b)) s

    pub begin_done : session.begun ≡ false → (header left : List ℕ) → header ≡ header_bytes image → left ≡ begun_image c image
        → Stepped (record { outcome = ending.Accepted; session = begun_with header }) left (begin image session)
    begin_done b header left h l =
        stepped_done _ (begun_image c image) left (begun_with (header_bytes image)) _ (begun_is ∙ ap (goes_on image session (begin_on image)) (no_of session.begun _ _ b)) refl
        (ap begun_with h) l

-- ---- 8

pub write_missing : (image : List ℕ) (c : Container) (session : Session) (q place : ℕ) (bytes : List ℕ) → ltb q (partitions c) ≡ false
    → (step : Step) → Refuses step session NoPartition → Stepped step image (write_on image session q place bytes c)
write_missing image c session q place bytes m step s = stepped_refused step image session NoPartition _ (no_of (ltb q (partitions c)) _ _ m) s

pub write_there : (image : List ℕ) (c : Container) (session : Session) (q place : ℕ) (bytes left : List ℕ) → ltb q (partitions c) ≡ true
    → (step : Step) → Stepped step left (write_to c image session q place bytes) → Stepped step left (write_on image session q place bytes c)
write_there image c session q place bytes left m step s = subst (Stepped step left) (sym (yes_of (ltb q (partitions c)) _ _ m)) s

-- ---- commit, and the signed one with its 15

-- the headers before and after
remembers : (image after former later left : List ℕ) → former ≡ header_bytes image → later ≡ header_bytes left → left ≡ after
    → remembering former later ≡ remembering (header_bytes image) (header_bytes after)
remembers image after former later left f h l = ap (λ (x : List ℕ). remembering x later) f ∙ ap (remembering (header_bytes image)) (h ∙ ap header_bytes l)

pub commit_done : (image : List ℕ) (c : Container) (former later left : List ℕ) → former ≡ header_bytes image → later ≡ header_bytes left → left ≡ committed_image c image
    → Stepped (record { outcome = ending.Accepted; session = remembering former later }) left (commit_on image c)
commit_done image c former later left f h l =
    stepped_done _ (committed_image c image) left (remembering (header_bytes image) (header_bytes (committed_image c image))) _ refl refl
    (remembers image (committed_image c image) former later left f h l) l

module _ (image : List ℕ) (c : Container) (session : Session) (key : List ℕ) (signer : Signer) (answer : Result (Unit {0}) Refusal) (a : answer ≡ outcome_of (signed image signer)) where
  pub signer_unfit : (r : Refusal) → answer ≡ Err r → (step : Step) → Refuses step session r
      → Stepped step image (commit_by image session key signer (signed image signer) c)
  signer_unfit r e step s =
      stepped_refused step image session r _ (ap (λ (x : Answer). commit_by image session key signer x c) (refused_is (signed image signer) r (sym a ∙ e))) s

  pub signed_done : answer ≡ Ok tt → (former later left : List ℕ) → former ≡ header_bytes image → later ≡ header_bytes left → left ≡ committed_signed c image key signer
      → Stepped (record { outcome = ending.Accepted; session = remembering former later }) left (commit_by image session key signer (signed image signer) c)
  signed_done e former later left f h l =
      stepped_done _ (committed_signed c image key signer) left (remembering (header_bytes image) (header_bytes (committed_signed c image key signer))) _
      (ap (λ (x : Answer). commit_by image session key signer x c) (accepted_is image signer (sym a ∙ e)).0) refl
      (remembers image (committed_signed c image key signer) former later left f h l) l

-- ---- revert, and the signed one with its 15

pub revert_done : (image : List ℕ) (c : Container) (session next : Session) (former left : List ℕ) → former ≡ session.header → next ≡ idle → left ≡ stored_header image former
    → Stepped (record { outcome = ending.Accepted; session = next }) left (revert_on image session c)
revert_done image c session next former left f i l = stepped_done _ (stored_header image session.header) left idle _ refl refl i (l ∙ ap (stored_header image) f)

module _ (image : List ℕ) (c : Container) (session : Session) (key : List ℕ) (signer : Signer) (former : List ℕ) (f : former ≡ session.header) (answer : Result (Unit {0}) Refusal)
    (a : answer ≡ outcome_of (signed_header former signer)) where
  judged : answer ≡ outcome_of (signed_header session.header signer)
  judged = a ∙ ap (λ (x : List ℕ). outcome_of (signed_header x signer)) f

  pub reverter_unfit : (r : Refusal) → answer ≡ Err r → (step : Step) → Refuses step session r
      → Stepped step image (revert_by image session key signer (signed_header session.header signer) c)
  reverter_unfit r e step s =
      stepped_refused step image session r _
      (ap (λ (x : Answer). revert_by image session key signer x c) (refused_is (signed_header session.header signer) r (sym judged ∙ e))) s

  pub revert_signed_lem : answer ≡ Ok tt → (next : Session) (left : List ℕ) → next ≡ idle → left ≡ stored_signed image key signer former
      → Stepped (record { outcome = ending.Accepted; session = next }) left (revert_by image session key signer (signed_header session.header signer) c)
  revert_signed_lem e next left i l =
      stepped_done _ (stored_signed image key signer session.header) left idle _
      (ap (λ (x : Answer). revert_by image session key signer x c) (accepted_header session.header signer (sym judged ∙ e))) refl i
      (l ∙ ap (stored_signed image key signer) f)

-- ---- a write to a partition that is there

module _ (image : List ℕ) (c : Container) (o : opened image ≡ Ok c) (session : Session) (q : ℕ) (k : q < partitions c) (place : ℕ) (bytes : List ℕ)
    (view : View) (v : view ≡ staged_view c q) where
  pub view_keeps : ViewRules view (length image)
  view_keeps = rw v (staged_rules image c (guarantees image c o) q k)

  module _ (answer : Result (Unit {0}) Refusal) (a : answer ≡ write_outcome view image place (length bytes)) where
    outcome_is : answer ≡ write_outcome (staged_view c q) image place (length bytes)
    outcome_is = a ∙ ap (λ (x : View). write_outcome x image place (length bytes)) v

    abbrev after : List ℕ
    after = written_to (staged_view c q) place bytes image

    whole_is : write_to c image session q place bytes ≡ leaving answer image session (finished (staged_view c q) place bytes session after)
    whole_is =
        ap (λ (o : Result (Unit {0}) Refusal). leaving o image session (finished (staged_view c q) place bytes session after)) (sym outcome_is)

    pub write_refused : (r : Refusal) → answer ≡ Err r → (step : Step) → Refuses step session r → Stepped step image (write_to c image session q place bytes)
    write_refused r f step s =
        stepped_refused step image session r _
        (whole_is ∙ ap (λ (o : Result (Unit {0}) Refusal). leaving o image session (finished (staged_view c q) place bytes session after)) f) s

    module _ (f : answer ≡ Ok tt) where
      pub write_asks : (space : Space) → space ≡ space_of c → WriteRules space view image place bytes
      write_asks space s = rw (s, v) (write_rules image c o q k place bytes (sym outcome_is ∙ f))

      -- what the write has made, and whether it holds a digest that is all zero
      module _ (left : List ℕ) (zero : Bool) (l : left ≡ written_to view place bytes image) (z : zero ≡ holds_zero view place bytes left) where
        left_is : left ≡ after
        left_is = l ∙ ap (λ (x : View). written_to x place bytes image) v

        zero_is : holds_zero (staged_view c q) place bytes after ≡ zero
        zero_is = sym (z ∙ ap (λ (x : View). holds_zero x place bytes left) v ∙ ap (holds_zero (staged_view c q) place bytes) left_is)

        ended : write_to c image session q place bytes ≡ finished (staged_view c q) place bytes session after
        ended = whole_is ∙ ap (λ (o : Result (Unit {0}) Refusal). leaving o image session (finished (staged_view c q) place bytes session after)) f

        pub write_done : (step : Step) → (step.outcome ≡ cond zero ending.Dropped ending.Accepted) × (step.session ≡ cond zero idle session)
            → Stepped step left (write_to c image session q place bytes)
        unfolding finished
        write_done step s =
            stepped_finished zero step after left session _
            (ended ∙ ap (λ (t : Bool). cond t (record { outcome = ending.Dropped; image = after; session = idle }) (done after session)) zero_is) s left_is

-- ---- abandon

pub abandon_idle : (session : Session) (step : Step) → session.begun ≡ false → Refuses step session SessionState
    → (step.outcome ≡ (abandon session).outcome) × (step.session ≡ (abandon session).session)
unfolding abandon
abandon_idle session step b (o, s) =
    let e : abandon session ≡ record { outcome = ending.Refused SessionState; session = session } = no_of session.begun _ _ b in
    (o ∙ sym (ap (λ (x : Abandoned). x.outcome) e), s ∙ sym (ap (λ (x : Abandoned). x.session) e))

pub abandon_done : (session next : Session) → session.begun ≡ true → next ≡ idle
    → (ending.Accepted ≡ (abandon session).outcome) × (next ≡ (abandon session).session)
unfolding abandon
abandon_done session next b i =
    let e : abandon session ≡ record { outcome = ending.Accepted; session = idle } = yes_of session.begun _ _ b in
    (sym (ap (λ (x : Abandoned). x.outcome) e), i ∙ sym (ap (λ (x : Abandoned). x.session) e))
