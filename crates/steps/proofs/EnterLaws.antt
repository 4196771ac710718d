-- Entering a session, and a step back: the checks that lead to each answer, and what follows for the calls. Assumes nothing.
use Rattle.std.specs.Prelude.{Result, Ok, Err}
use Prim.Native.Nat.{ℕ}
use mathlib.Core.Bool.{Bool, true, false, cond}
use mathlib.Core.List.{List}
use mathlib.Core.Path.{◌≡◌, refl, sym, ap, ◌∙◌, subst}
use native.Mathlib.Omega.{arith}
use lib.Dec.{ltb}
use lib.ListN.{length}
use borrow.Author.Tests.{ltb-true}
use Rattle.layout.specs.declared.Container.{Container}
use Rattle.layout.specs.declared.Refusal.{Refusal}
use Rattle.layout.specs.declared.Refusal.TheVariants.{NoPartition, SessionState, Stale, NothingToRevert}
use Rattle.layout.specs.Opening.{opened}
use Rattle.layout.specs.Guarantees.{Guarantees}
use Rattle.layout.proofs.GuaranteeLaws.{guarantees}
use Rattle.ivfc.specs.declared.View.{View}
use Rattle.ivfc.specs.Rules.{ViewRules}
use Rattle.views.specs.Places.{partitions, staged_view}
use Rattle.views.specs.Rules.{PlacesFit}
use Rattle.views.proofs.FitLaws.{places_fit}
use Rattle.views.proofs.PlaceLaws.{staged_rules}
use Rattle.steps.specs.declared.Session.{Session}
use Rattle.steps.specs.declared.Step.{Step}
use Rattle.steps.specs.Reading.{Read, read_from}
use Rattle.steps.specs.Sessions.{current, revertible}
use Rattle.steps.specs.Calls.{while_idle, while_begun, entered, while_revertible, entered_back, After, Stepped, unread, read_in, read_staged, goes_on}
use Rattle.steps.proofs.ReadLaws.{Leaves}
use Rattle.steps.proofs.SessionLaws.{Refuses, yes_of, no_of, stepped_refused}

-- ---- what `enter` answers

module _ (image : List ℕ) (session : Session) (answer : Result Container Refusal) (o : answer ≡ opened image) where
  pub enters_unopened : (r : Refusal) → answer ≡ Err r → answer ≡ entered image session
  unfolding entered
  enters_unopened r e = e ∙ sym (ap (while_begun image session) (sym o ∙ e))

  module _ (c : Container) (e : answer ≡ Ok c) where
    by_session : entered image session
        ≡ cond session.begun (cond (current c image session) (Ok c) (Err Stale)) (Err SessionState)
    unfolding entered
    by_session = ap (while_begun image session) (sym o ∙ e)

    pub enters_idle : session.begun ≡ false → Err SessionState ≡ entered image session
    enters_idle b = sym (by_session ∙ no_of session.begun _ _ b)

    module _ (b : session.begun ≡ true) where
      pub enters_stale : current c image session ≡ false → Err Stale ≡ entered image session
      enters_stale n = sym (by_session ∙ yes_of session.begun _ _ b ∙ no_of (current c image session) _ _ n)

      pub enters : current c image session ≡ true → Ok c ≡ entered image session
      enters n = sym (by_session ∙ yes_of session.begun _ _ b ∙ yes_of (current c image session) _ _ n)

  -- ---- what `enter_back` answers

  pub back_unopened : (r : Refusal) → answer ≡ Err r → answer ≡ entered_back image session
  unfolding entered_back
  back_unopened r e = e ∙ sym (ap (λ (x : Result Container Refusal). while_revertible image session (while_idle session x)) (sym o ∙ e))

  module _ (c : Container) (e : answer ≡ Ok c) where
    by_idle : entered_back image session ≡ while_revertible image session (cond session.begun (Err SessionState) (Ok c))
    unfolding entered_back
    by_idle = ap (λ (x : Result Container Refusal). while_revertible image session (while_idle session x)) (sym o ∙ e)

    pub back_busy : session.begun ≡ true → Err SessionState ≡ entered_back image session
    back_busy b = sym (by_idle ∙ ap (while_revertible image session) (yes_of session.begun _ _ b))

    module _ (b : session.begun ≡ false) where
      by_memory : entered_back image session ≡ cond (revertible image session.header session.later) (Ok c) (Err NothingToRevert)
      by_memory = by_idle ∙ ap (while_revertible image session) (no_of session.begun _ _ b)

      pub back_none : revertible image session.header session.later ≡ false → Err NothingToRevert ≡ entered_back image session
      back_none n = sym (by_memory ∙ no_of (revertible image session.header session.later) _ _ n)

      pub back_enters : revertible image session.header session.later ≡ true → Ok c ≡ entered_back image session
      back_enters y = sym (by_memory ∙ yes_of (revertible image session.header session.later) _ _ y)

-- ---- an image that a call goes on with opens, and its session keeps to what was checked

refused_not : {A : Type 0} (r : Refusal) (c : Container) → Err r ≡ Ok c → A
refused_not r c e = let z : ◌≡◌ {A = ℕ} 0 1 = cc in absurd (omega arith)

-- a check that is passed
passes : (t : Bool) (r : Refusal) (d c : Container) → cond t (Ok d) (Err r) ≡ Ok c → (t ≡ true) × ◌≡◌ {A = Result Container Refusal} (Ok d) (Ok c)
passes true r d c e = (refl, e)
passes false r d c e = refused_not r c e

abbrev container_in : Container → Result Container Refusal → Container
container_in c (Ok d) = d
container_in c (Err r) = c

pub idle_is : (session : Session) (x : Result Container Refusal) (c : Container) → while_idle session x ≡ Ok c → (x ≡ Ok c) × (session.begun ≡ false)
idle_is session (Err r) c e = refused_not r c e
idle_is session (Ok d) c e = by session.begun refl e
  where
    by : (t : Bool) → session.begun ≡ t → cond t (Err SessionState) (Ok d) ≡ Ok c
        → ◌≡◌ {A = Result Container Refusal} (Ok d) (Ok c) × (session.begun ≡ false)
    by true b e = refused_not SessionState c e
    by false b e = (e, b)

pub entered_is : (image : List ℕ) (session : Session) (c : Container) → entered image session ≡ Ok c
    → (opened image ≡ Ok c) × (session.begun ≡ true) × (current c image session ≡ true)
unfolding entered
entered_is image session c = go (opened image)
  where
    by : (d : Container) (t : Bool) → session.begun ≡ t
        → cond t (cond (current d image session) (Ok d) (Err Stale)) (Err SessionState) ≡ Ok c
        → ◌≡◌ {A = Result Container Refusal} (Ok d) (Ok c) × (session.begun ≡ true) × (current c image session ≡ true)
    by d true b e =
        let (n, f) = passes (current d image session) Stale d c e in
        (f, b, subst (λ (x : Container). current x image session ≡ true) (ap (container_in c) f) n)
    by d false b e = refused_not SessionState c e

    go : (x : Result Container Refusal) → while_begun image session x ≡ Ok c → (x ≡ Ok c) × (session.begun ≡ true) × (current c image session ≡ true)
    go (Err r) e = refused_not r c e
    go (Ok d) e = by d session.begun refl e

pub back_is : (image : List ℕ) (session : Session) (c : Container) → entered_back image session ≡ Ok c
    → (opened image ≡ Ok c) × (session.begun ≡ false) × (revertible image session.header session.later ≡ true)
unfolding entered_back
back_is image session c e =
    let (f, y) = go (while_idle session (opened image)) e in
    let (o, b) = idle_is session (opened image) c f in
    (o, b, y)
  where
    go : (x : Result Container Refusal) → while_revertible image session x ≡ Ok c → (x ≡ Ok c) × (revertible image session.header session.later ≡ true)
    go (Err r) e = refused_not r c e
    go (Ok d) e = let (y, f) = passes (revertible image session.header session.later) NothingToRevert d c e in (f, y)

-- ---- what follows in a call of a begun session

-- the refusal that a call hands on
refused_with : (answer given : Result Container Refusal) → answer ≡ given → (r : Refusal) → answer ≡ Err r → given ≡ Err r
refused_with answer given n r e = sym n ∙ e

module _ (image : List ℕ) (session : Session) (answer : Result Container Refusal) (n : answer ≡ entered image session) where
  module _ (r : Refusal) (e : answer ≡ Err r) where
    is : entered image session ≡ Err r
    is = refused_with answer (entered image session) n r e

    pub staged_refused : (q place : ℕ) (buffer : List ℕ) → Leaves (read_staged image session q place buffer) (Err r) buffer
    unfolding read_staged
    staged_refused q place buffer =
        let z = ap (read_in staged_view image q place buffer) is in
        (sym (ap (λ (d : Read). d.outcome) z), sym (ap (λ (d : Read). d.buffer) z))

    pub session_refused : (next : Container → After) (step : Step) → Refuses step session r → Stepped step image (goes_on image session next (entered image session))
    session_refused next step s = stepped_refused step image session r _ (ap (goes_on image session next) is) s

  module _ (c : Container) (e : answer ≡ Ok c) where
    pub entered_opens : opened image ≡ Ok c
    entered_opens = (entered_is image session c (sym n ∙ e)).0

    pub entered_well : Guarantees image c
    entered_well = guarantees image c entered_opens

    pub session_goes_on : (next : Container → After) (step : Step) (left : List ℕ) → Stepped step left (next c)
        → Stepped step left (goes_on image session next (entered image session))
    session_goes_on next step left s = subst (Stepped step left) (sym (ap (goes_on image session next) (sym n ∙ e))) s

    module _ (q place : ℕ) (buffer : List ℕ) where
      reads_on : read_staged image session q place buffer ≡ cond (ltb q (partitions c)) (read_from (staged_view c q) image place buffer) (unread buffer NoPartition)
      unfolding read_staged
      reads_on = ap (read_in staged_view image q place buffer) (sym n ∙ e)

      pub staged_missing : ltb q (partitions c) ≡ false → Leaves (read_staged image session q place buffer) (Err NoPartition) buffer
      staged_missing k =
          let z = reads_on ∙ no_of (ltb q (partitions c)) _ _ k in
          (sym (ap (λ (d : Read). d.outcome) z), sym (ap (λ (d : Read). d.buffer) z))

      pub staged_there : ltb q (partitions c) ≡ true → (view : View) → view ≡ staged_view c q → (answer : Result (Unit {0}) Refusal) (after : List ℕ)
          → Leaves (read_from view image place buffer) answer after → Leaves (read_staged image session q place buffer) answer after
      staged_there k view v answer after l =
          subst (λ (d : Read). Leaves d answer after)
          (ap (λ (w : View). read_from w image place buffer) v ∙ sym (reads_on ∙ yes_of (ltb q (partitions c)) _ _ k)) l

    module _ (q : ℕ) (there : ltb q (partitions c) ≡ true) where
      pub staged_places : PlacesFit c q
      staged_places = places_fit image c entered_well q (ltb-true q (partitions c) there)

      pub staged_keeps : (view : View) → view ≡ staged_view c q → ViewRules view (length image)
      staged_keeps view v = rw v (staged_rules image c entered_well q (ltb-true q (partitions c) there))

-- ---- and in a step back

module _ (image : List ℕ) (session : Session) (answer : Result Container Refusal) (n : answer ≡ entered_back image session) where
  pub back_refuses : (r : Refusal) → answer ≡ Err r → (next : Container → After) (step : Step) → Refuses step session r
      → Stepped step image (goes_on image session next (entered_back image session))
  back_refuses r e next step s =
      stepped_refused step image session r _ (ap (goes_on image session next) (refused_with answer (entered_back image session) n r e)) s

  module _ (c : Container) (e : answer ≡ Ok c) where
    pub back_well : Guarantees image c
    back_well = guarantees image c (back_is image session c (sym n ∙ e)).0

    pub back_goes_on : (next : Container → After) (step : Step) (left : List ℕ) → Stepped step left (next c)
        → Stepped step left (goes_on image session next (entered_back image session))
    back_goes_on next step left s = subst (Stepped step left) (sym (ap (goes_on image session next) (sym n ∙ e))) s
