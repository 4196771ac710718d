-- What a revert answers and leaves, plain and signed. Assumes nothing.
use Rattle.std.specs.Result.{is_ok}
use Rattle.std.specs.Prelude.{Result, Ok, Err}
use Rattle.layout.specs.declared.Refusal.{Refusal}
use mathlib.Core.Path.{◌≡◌, refl, sym, ap, ◌∙◌, subst}
use mathlib.Core.Bool.{Bool, true, false}
use mathlib.Core.List.{List}
use Prim.Native.Nat.{ℕ, ◌≤◌}
use native.Mathlib.Omega.{arith}
use lib.ListN.{length}
use lib.Seq.{sets, length-sets}
use Rattle.number.specs.Ranges.{part}
use Rattle.number.specs.Bytes.{Outside, same_bytes}
use Rattle.number.specs.Frame.{Keeps}
use Rattle.number.proofs.FrameLaws.{keeps_refl, keeps_trans}
use Rattle.number.proofs.Tests.{and_right, and_both, left_fails}
use Rattle.number.proofs.ListLaws.{sets_out, sets_is, same_refl, same_is}
use Rattle.layout.specs.declared.Container.{Container}
use Rattle.layout.specs.declared.Refusal.TheVariants.{Format, NothingToRevert}
use Rattle.layout.specs.Magic.{opens_with}
use Rattle.layout.specs.Headers.{header_range, header_bytes, judged_header, kind_in}
use Rattle.layout.specs.Opening.{opened}
use Rattle.layout.specs.Guarantees.{Guarantees}
use Rattle.layout.proofs.GuaranteeLaws.{checked, guarantees}
use Rattle.signing.specs.declared.Signer.{Signer}
use Rattle.signing.specs.Blocks.{signing_block}
use Rattle.signing.specs.Calls as signing
use Rattle.signing.specs.Calls.{signed_header, signed}
use Rattle.signing.proofs.AnswerLaws.{accepted_header}
use Rattle.signatures.specs.Signatures.{signature, opened_signed}
use Rattle.signatures.proofs.Laws.{length_signature, signed_by}
use Rattle.commits.specs.Committing.{stored_header, stored_signed, header_committed}
use Rattle.steps.specs.declared.Session.{Session}
use Rattle.steps.specs.Sessions.{nothing, idle, remembering, table_staged, revertible}
use Rattle.steps.specs.Calls.{while_idle, while_revertible, entered_back, After, unchanged, done, goes_on, landed, revert_on, revert_by, revert, revert_signed}
use Rattle.steps.proofs.EnterLaws.{back_unopened, back_none, back_enters, back_is}
use Rattle.history.specs.Model.{Form, Plain, Signed, Call, Commit, Stepping, Ruling, Accepted, Refused, Dropped, ending_of}
use Rattle.history.specs.Run.{State, opened_as, perform, ruled, next, events, begins}
use Rattle.history.specs.Theorem.{InUnit, ended_by}
use Rattle.history.specs.Term.{reverted_as, reverted, ruled_revert, next_revert, fits, refused21, stamped, given_back, after_commit, SameAnswers, StepsBack, RevertTheorem}
use Rattle.history.proofs.CallCases.{not_both, not_dropped, not_taken, left, Kept, kept_on, kept_done, Lasts, lasts_on, went_on, landed_image, idle_after, committed_by, opens_first}
use Rattle.history.proofs.Currents.{staged_table_lem}
use Rattle.history.proofs.Landing.{stays_on}
use Rattle.history.proofs.Tables.{byte_of}
use Rattle.history.proofs.Stored.{stored_as, stored_is, stored_swapped, stored_unit, stored_header_lem, stored_code}
use Rattle.history.proofs.Units.{header_size, new_size, headed}
use Rattle.history.proofs.Commits.{commits}
use Rattle.history.proofs.Signing.{opens_signed}
use Rattle.number.proofs.OrderLaws.{sets_after}
use Rattle.history.proofs.Fronts.{Fronted, stamped_front, front_opened, front_header, front_answers}
use Rattle.layout.proofs.TableLaws.{part_length}

-- ---- nothing remembered

no_header : (n : ℕ) → judged_header n nothing ≡ Err Format
unfolding judged_header kind_in nothing opens_with same_bytes part
no_header n = refl

-- an image that opens has some header
unlike : (image : List ℕ) (c : Container) → opened image ≡ Ok c → same_bytes (header_bytes image) nothing ≡ false
unlike image c o = by (same_bytes (header_bytes image) nothing) refl
  where
    by : (t : Bool) → same_bytes (header_bytes image) nothing ≡ t → t ≡ false
    by false e = refl
    by true e =
        let h : judged_header (length image) (header_bytes image) ≡ Ok c.header = (checked image c o).header in
        let k : judged_header (length image) (header_bytes image) ≡ Err Format =
        ap (judged_header (length image)) (same_is (header_bytes image) nothing e) ∙ no_header (length image) in
        let z : ◌≡◌ {A = ℕ} 0 1 = cc in
        absurd (omega arith)

-- ---- what a revert of either form does once it may

abbrev revert_next : Form → State → Container → After
revert_next Plain st = revert_on st.image st.session
revert_next (Signed key signer) st = revert_by st.image st.session key signer (signed_header st.session.header signer)

revert_is : (form : Form) (st : State) → reverted_as form st ≡ goes_on st.image st.session (revert_next form st) (entered_back st.image st.session)
unfolding revert revert_signed
revert_is Plain st = refl
revert_is (Signed key signer) st = refl

took_back : (form : Form) (st : State) (c : Container) → ending_of (revert_next form st c).outcome ≡ Accepted
    → revert_next form st c ≡ done (stored_as form st.image st.session.header) idle
took_back Plain st c e = refl
took_back (Signed key signer) st c e = by (signed_header st.session.header signer) e
  where
    by : (a : signing.Answer) → ending_of (revert_by st.image st.session key signer a c).outcome ≡ Accepted
        → revert_by st.image st.session key signer a c ≡ done (stored_signed st.image key signer st.session.header) idle
    by (signing.Signs block) e = refl
    by (signing.Refused r) e = not_both e refl

-- it answers 15 or nothing
back_answers : (form : Form) (st : State) (c : Container) → (revert_next form st c).outcome ≡ ended_by (fits form st.session.header)
back_answers Plain st c = refl
back_answers (Signed key signer) st c = by (signed_header st.session.header signer)
  where
    by : (a : signing.Answer) → (revert_by st.image st.session key signer a c).outcome ≡ ended_by (signing.outcome_of a)
    by (signing.Signs block) = refl
    by (signing.Refused r) = refl

-- a session that is idle and remembers nothing
none_back : (image : List ℕ) (c : Container) → opened image ≡ Ok c → entered_back image idle ≡ Err NothingToRevert
unfolding idle revertible
none_back image c o =
    sym (back_none image idle (opened image) refl c o refl
    (left_fails (same_bytes (header_bytes image) nothing) (is_ok (opened (stored_header image nothing))) (unlike image c o)))

pub fresh : (form : Form) (image : List ℕ) (c : Container) → opened image ≡ Ok c
    → reverted_as form (record { image = image; session = idle }) ≡ unchanged image idle NothingToRevert
fresh form image c o =
    let st : State = record { image = image; session = idle } in
    revert_is form st ∙ ap (goes_on image idle (revert_next form st)) (none_back image c o)

-- ---- which case it is

-- one that is not refused
pub record Reached (form : Form) (st : State) : Type 0 where
  pub container : Container
  pub opens : opened st.image ≡ Ok container
  pub rests : st.session.begun ≡ false
  pub revertible : revertible st.image st.session.header st.session.later ≡ true
  pub after : reverted_as form st ≡ revert_next form st container

pub reached_by : (form : Form) (st : State) → (ruled_revert form st ≡ Refused → ⊥) → Reached form st
reached_by form st e =
    let (c, f) = went_on st.image st.session (revert_next form st) (entered_back st.image st.session)
    (subst (λ (a : After). ending_of a.outcome ≡ Refused → ⊥) (revert_is form st) e) in
    let (o, b, y) = back_is st.image st.session c f in
    record { container = c; opens = o; rests = b; revertible = y; after = revert_is form st ∙ ap (goes_on st.image st.session (revert_next form st)) f }

-- an accepted one
pub record Reverted (form : Form) (st : State) : Type 0 where
  pub reach : Reached form st
  pub after : reverted_as form st ≡ done (stored_as form st.image st.session.header) idle

pub reverted_by : (form : Form) (st : State) → ruled_revert form st ≡ Accepted → Reverted form st
reverted_by form st e =
    let r = reached_by form st (λ n. not_both e n) in
    record { reach = r; after = r.after ∙ took_back form st r.container (subst (λ (a : After). ending_of a.outcome ≡ Accepted) r.after e) }

-- a refused one changes nothing, and none is dropped
kept_next : (form : Form) (st : State) (c : Container) → Kept st (revert_next form st c)
kept_next Plain st c = kept_done st _ _
kept_next (Signed key signer) st c = by (signed_header st.session.header signer)
  where
    by : (a : signing.Answer) → Kept st (revert_by st.image st.session key signer a c)
    by (signing.Signs block) = kept_done st _ _
    by (signing.Refused r) = λ e. refl

pub refused : (form : Form) (st : State) → ruled_revert form st ≡ Refused → next_revert form st ≡ st
refused form st = subst (Kept st) (sym (revert_is form st)) (kept_on st (revert_next form st) (kept_next form st) (entered_back st.image st.session))

lasts_next : (form : Form) (st : State) (c : Container) → Lasts (revert_next form st c)
lasts_next Plain st c = λ e. not_taken e refl
lasts_next (Signed key signer) st c = by (signed_header st.session.header signer)
  where
    by : (a : signing.Answer) → Lasts (revert_by st.image st.session key signer a c)
    by (signing.Signs block) = λ e. not_taken e refl
    by (signing.Refused r) = λ e. not_dropped e refl

pub lasts : (form : Form) (st : State) → ruled_revert form st ≡ Dropped → ⊥
lasts form st =
    subst Lasts (sym (revert_is form st)) (lasts_on st.image st.session (revert_next form st) (lasts_next form st) (entered_back st.image st.session))

-- one while the session is begun is refused
pub busy : (form : Form) (st : State) → st.session.begun ≡ true → ruled_revert form st ≡ Refused
unfolding entered_back
busy form st b = ap (λ (a : After). ending_of a.outcome) (revert_is form st) ∙ by (opened st.image)
  where
    by : (o : Result Container Refusal) → ending_of (goes_on st.image st.session (revert_next form st) (while_revertible st.image st.session (while_idle st.session o))).outcome ≡ Refused
    by (Err r) = refl
    by (Ok c) = rw b

-- and so is one with nothing remembered, of whatever image
pub forgot : (form : Form) (image : List ℕ) → ruled_revert form (record { image = image; session = idle }) ≡ Refused
forgot form image = by (opened image) refl
  where
    by : (o : Result Container Refusal) → opened image ≡ o → ruled_revert form (record { image = image; session = idle }) ≡ Refused
    by (Err r) p =
        ap (λ (a : After). ending_of a.outcome)
        (revert_is form (record { image = image; session = idle })
        ∙ ap (goes_on image idle (revert_next form (record { image = image; session = idle }))) (sym (back_unopened image idle (opened image) refl r p) ∙ p))
    by (Ok c) p = ap (λ (a : After). ending_of a.outcome) (fresh form image c p)

-- ---- the bytes

-- a header put back
put_back : (base header : List ℕ) → 0x200 ≤ length base → length header ≡ 256 → sets (sets base 0x100 header) 0x100 (header_bytes base) ≡ base
put_back base header m n =
    let k : length (header_bytes base) ≡ 256 = part_length base header_range (omega arith) in
    let l = length-sets base 0x100 header in
    sym (sets_is (sets base 0x100 header) 0x100 (header_bytes base) base (omega arith) (sym l)
    (λ j h. sym (byte_of base header_range j (omega arith)))
    (λ i h. sym (sets_out base 0x100 header i (subst (λ (z : ℕ). Outside 0x100 z i) (k ∙ sym n) h))))

-- ---- after a commit

module _ (image : List ℕ) (c : Container) (o : opened image ≡ Ok c) (staged : table_staged c image ≡ true) (form : Form) where
  g : Guarantees image c
  g = guarantees image c o

  abbrev there : List ℕ
  there = landed_image form c image

  abbrev session : Session
  session = remembering (header_bytes image) (header_bytes there)

  -- the signature that the commit put, if any
  abbrev put : List ℕ
  put = stamped form (header_committed c image) image

  put_front : Fronted image put
  put_front = stamped_front form (header_committed c image) image

  -- the header put back makes the image what it was, but for that
  restored : stored_header there (header_bytes image) ≡ stamped form (header_bytes there) image
  unfolding stored_header
  restored =
      let m = g.shortest in
      let l = put_front.size in
      ap (λ (x : List ℕ). sets x 0x100 (header_bytes image)) (stored_is form image (header_committed c image))
      ∙ ap (sets (sets put 0x100 (header_committed c image)) 0x100) (sym (front_header image put put_front))
      ∙ put_back put (header_committed c image) (omega arith) (new_size image c g)
      ∙ ap (λ (h : List ℕ). stamped form h image) (sym (headed image c g form).header)

  revertible_there : revertible there (header_bytes image) (header_bytes there) ≡ true
  unfolding revertible
  revertible_there =
      and_both (same_bytes (header_bytes there) (header_bytes there)) (is_ok (opened (stored_header there (header_bytes image))))
      (same_refl (header_bytes there))
      (ap (λ (x : List ℕ). is_ok (opened x)) restored
      ∙ ap is_ok (front_opened image (stamped form (header_bytes there) image) (stamped_front form (header_bytes there) image) ∙ o))

  abbrev state : State
  state = record { image = there; session = session }

  -- so a revert goes on
  pub goes_back : (back : Form) → (d : Container) × (reverted_as back state ≡ revert_next back state d)
  goes_back back =
      let d = commits image c o staged there (headed image c g form) in (
        d.container,
        revert_is back state
            ∙ ap (goes_on there session (revert_next back state)) (sym (back_enters there session (opened there) refl d.container d.opens refl revertible_there)),
      )

  pub given_back_lem : (back : Form) → stored_as back there (header_bytes image) ≡ given_back form back image there
  unfolding stored_signed stored_header
  given_back_lem Plain = restored
  given_back_lem (Signed key signer) =
      sets_after (header_bytes image) (signature key signer (header_bytes image)) there 0 0x100 (let n = length_signature key signer (header_bytes image) in omega arith)
      ∙ ap (λ (x : List ℕ). sets x 0 (signature key signer (header_bytes image))) restored

-- what an accepted commit leaves
pub record Lands (form : Form) (st : State) : Type 0 where
  pub container : Container
  pub opens : opened st.image ≡ Ok container
  pub staged : table_staged container st.image ≡ true
  pub after : next (Commit form) st ≡ left (landed st.image (landed_image form container st.image))

pub lands : (form : Form) (st : State) → ruled (Commit form) st ≡ Accepted → Lands form st
unfolding perform
lands form st e =
    let (c, o) = opens_first form st e in
    let b = committed_by form st c o e in
    record { container = c; opens = o; staged = staged_table_lem c st.image st.session b.current; after = ap left b.after }

former_size : (form : Form) (st : State) → ruled (Commit form) st ≡ Accepted → length (header_bytes st.image) ≡ 256
former_size form st e = let l = lands form st e in header_size st.image l.container (guarantees st.image l.container l.opens)

module _ (form back : Form) (st : State) (e : ruled (Commit form) st ≡ Accepted) where
  abbrev s : State
  s = next (Commit form) st

  went_back : (d : Container) × (reverted_as back s ≡ revert_next back s d)
  went_back =
      let l = lands form st e in
      subst (λ (x : State). (d : Container) × (reverted_as back x ≡ revert_next back x d)) (sym l.after) (goes_back st.image l.container l.opens l.staged form back)

  -- the header that it restores
  pub former_is : s.session.header ≡ header_bytes st.image
  former_is = ap (λ (x : State). x.session.header) (lands form st e).after

  came_back : stored_as back s.image s.session.header ≡ given_back form back st.image s.image
  came_back =
      let l = lands form st e in
      subst (λ (x : State). stored_as back x.image x.session.header ≡ given_back form back st.image x.image) (sym l.after)
      (given_back_lem st.image l.container l.opens l.staged form back)

  -- a revert then leaves the former image
  pub after_commit_lem : ruled_revert back s ≡ Accepted → next_revert back s ≡ record { image = given_back form back st.image s.image; session = idle }
  after_commit_lem a = ap left (reverted_by back s a).after ∙ ap (λ (x : List ℕ). record { image = x; session = idle }) came_back

  pub given_front : Fronted st.image (given_back form back st.image s.image)
  given_front =
      keeps_trans (λ i f. f) (stamped_front form (header_bytes s.image) st.image)
      (stamped_front back (header_bytes st.image) (stamped form (header_bytes s.image) st.image))

-- ---- signed

-- what an accepted one leaves opens, since the image opened under the former header
valid : (o : Result Container Refusal) → is_ok o ≡ true → (c : Container) × (o ≡ Ok c)
valid (Ok c) e = (c, refl)
valid (Err r) e = absurd (let z : ◌≡◌ {A = ℕ} 0 1 = cc in omega arith)

opens_former : (image former later : List ℕ) → revertible image former later ≡ true → is_ok (opened (stored_header image former)) ≡ true
unfolding revertible
opens_former image former later e = and_right (same_bytes (header_bytes image) later) (is_ok (opened (stored_header image former))) e

same_back : (form : Form) (image former : List ℕ) → opened (stored_as form image former) ≡ opened (stored_header image former)
same_back form image former =
    ap opened (stored_swapped form image former) ∙ front_opened (stored_header image former) (stamped form former (stored_header image former)) (stamped_front form former (stored_header image former))

opens_back : (form : Form) (st : State) (r : Reached form st) → (c : Container) × (opened (stored_as form st.image st.session.header) ≡ Ok c)
opens_back form st r =
    let (c, o) = valid (opened (stored_header st.image st.session.header)) (opens_former st.image st.session.header st.session.later r.revertible) in
    (c, same_back form st.image st.session.header ∙ o)

-- an accepted signed revert has its block of the header that it restores
signs_first : (key : List ℕ) (signer : Signer) (st : State) → ruled_revert (Signed key signer) st ≡ Accepted
    → signed_header st.session.header signer ≡ signing.Signs (signing_block signer st.session.header)
signs_first key signer st e =
    let r = reached_by (Signed key signer) st (λ n. not_both e n) in
    accepted_header st.session.header signer
    (by (signed_header st.session.header signer) r.container (subst (λ (a : After). ending_of a.outcome ≡ Accepted) r.after e))
  where
    by : (a : signing.Answer) (c : Container) → ending_of (revert_by st.image st.session key signer a c).outcome ≡ Accepted → signing.outcome_of a ≡ Ok tt
    by (signing.Signs block) c e = refl
    by (signing.Refused r) c e = not_both e refl

-- and under the same key and signer
signs : (key : List ℕ) (signer : Signer) (st : State) → length st.session.header ≡ 256 → ruled_revert (Signed key signer) st ≡ Accepted
    → (c : Container) × (opened_as (Signed key signer) (next_revert (Signed key signer) st).image ≡ Ok c) × (opened (next_revert (Signed key signer) st).image ≡ Ok c)
signs key signer st full e =
    let r = reverted_by (Signed key signer) st e in
    let former = st.session.header in
    let image = stored_signed st.image key signer former in
    let (c, o) = opens_back (Signed key signer) st r.reach in
    let m = (guarantees st.image r.reach.container r.reach.opens).shortest in
    let h : header_bytes image ≡ former = stored_header_lem st.image former m full (Signed key signer) in
    let b : signed image signer ≡ signing.Signs (signing_block signer former) =
    signed_by image c (guarantees image c o) signer ∙ ap (λ (x : List ℕ). signed_header x signer) h ∙ signs_first key signer st e in (
      c,
      ap (λ (a : After). opened_signed a.image key signer) r.after
          ∙ opens_signed image key (signing_block signer former) signer c o b (stored_code st.image former m full key signer ∙ ap (signature key signer) (sym h)),
      ap (λ (a : After). opened a.image) r.after ∙ o,
    )

-- ---- the theorem

module _ (form back : Form) (st : State) (between : List Call) (e : ruled (Commit form) st ≡ Accepted) (z : begins (events between (next (Commit form) st)) ≡ 0) where
  stayed : after_commit form st between ≡ next (Commit form) st
  stayed = stays_on between (next (Commit form) st) (idle_after form st e) z

  module _ (a : ruled_revert back (after_commit form st between) ≡ Accepted) where
    taken : ruled_revert back (next (Commit form) st) ≡ Accepted
    taken = subst (λ (x : State). ruled_revert back x ≡ Accepted) stayed a

    leaves : next_revert back (after_commit form st between) ≡ record { image = given_back form back st.image (next (Commit form) st).image; session = idle }
    leaves = ap (next_revert back) stayed ∙ after_commit_lem form back st e taken

    answers : SameAnswers st.image (next_revert back (after_commit form st between)).image
    answers =
        subst (λ (x : State). SameAnswers st.image x.image) (sym leaves)
        (front_answers st.image (given_back form back st.image (next (Commit form) st).image) (given_front form back st e))

opens_again : (back : Form) (st : State) (image : List ℕ) → length st.session.header ≡ 256 → ruled_revert back st ≡ Accepted
    → SameAnswers image (next_revert back st).image → opened_as back (next_revert back st).image ≡ opened image
opens_again Plain st image full a same = same.opening
opens_again (Signed key signer) st image full a same = let (c, s, o) = signs key signer st full a in s ∙ sym o ∙ same.opening

steps_back : (form back : Form) (st : State) (between : List Call) → ruled (Commit form) st ≡ Accepted → begins (events between (next (Commit form) st)) ≡ 0
    → StepsBack form back st between
steps_back form back st between e z = record {
  answer = ap (λ (x : State). (reverted back x).answer) (stayed form back st between e z)
      ∙ ap (λ (a : After). Stepping a.outcome) (went_back form back st e).1
      ∙ ap Stepping (back_answers back (next (Commit form) st) (went_back form back st e).0)
      ∙ ap (λ (h : List ℕ). Stepping (ended_by (fits back h))) (former_is form back st e);
  leaves = leaves form back st between e z;
  answers = answers form back st between e z;
  opens = λ a. opens_again back (after_commit form st between) st.image
      (ap (λ (x : State). length x.session.header) (stayed form back st between e z) ∙ ap length (former_is form back st e) ∙ former_size form st e)
      a (answers form back st between e z a);
}

again : (form back : Form) (st : State) → ruled_revert form st ≡ Accepted → (reverted back (next_revert form st)).answer ≡ refused21
again form back st e =
    let r = reverted_by form st e in
    let (c, o) = opens_back form st r.reach in
    ap (λ (a : After). (reverted back (left a)).answer) r.after
    ∙ ap (λ (a : After). Stepping a.outcome) (fresh back (stored_as form st.image st.session.header) c o)

stores : (form : Form) (st : State) → length st.session.header ≡ 256 → Keeps (InUnit form) st.image (next_revert form st).image
stores form st n = by (ruled_revert form st) refl
  where
    by : (r : Ruling) → ruled_revert form st ≡ r → Keeps (InUnit form) st.image (next_revert form st).image
    by Accepted e =
        subst (λ (a : After). Keeps (InUnit form) st.image a.image) (sym (reverted_by form st e).after) (stored_unit form st.image st.session.header n)
    by Refused e = subst (λ (s : State). Keeps (InUnit form) st.image s.image) (sym (refused form st e)) (keeps_refl _ _)
    by Dropped e = absurd (lasts form st e)

pub revert_theorem : RevertTheorem
revert_theorem = record {
  back = steps_back;
  again = again;
  fresh = λ form image c o. ap (λ (a : After). Stepping a.outcome) (fresh form image c o);
  signs = λ key signer st full e. let (c, s, o) = signs key signer st full e in (c, s);
  stores = stores;
  refused = refused;
}
