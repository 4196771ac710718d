-- "The 0x100 bytes at the front are never read or changed": every call, of what reads (Fronts) and of what stores (FrontStores). Assumes nothing.
use Rattle.std.specs.Result.{is_ok}
use Rattle.std.specs.Prelude.{Result, Ok, Err}
use Rattle.layout.specs.declared.Refusal.{Refusal}
use mathlib.Core.Path.{◌≡◌, refl, sym, ap, ◌∙◌, subst}
use mathlib.Core.Bool.{Bool, true, false, ◌&&◌, cond}
use mathlib.Core.List.{List, [], ◌∷◌}
use mathlib.Core.Logic.{◌⊎◌, inl, inr}
use Prim.Native.Nat.{ℕ, ◌+◌, ◌-◌, ◌≤◌, ◌<◌, min}
use native.Mathlib.Omega.{arith}
use lib.ListN.{length, get_or, set, take, drop, length-take, length-drop}
use lib.Seq.{sets, length-sets, ext_get_or}
use lib.Dec.{ltb}
use borrow.Author.Tests.{ltb-true}
use Rattle.number.specs.declared.Range.{Range}
use Rattle.number.specs.Ranges.{part}
use Rattle.number.specs.Bytes.{Outside, same_bytes}
use Rattle.number.specs.Frame.{Keeps}
use Rattle.number.proofs.FrameLaws.{keeps_sets}
use Rattle.number.proofs.ListLaws.{outside_or_in, get_d_part, sets_in, sets_out}
use Rattle.number.proofs.OrderLaws.{sets_after, sets_again, sets_parts}
use Rattle.sha256.specs.Sha256.{sha256}
use Rattle.layout.specs.declared.Container.{Container}
use Rattle.layout.specs.declared.Refusal.TheVariants.{NoPartition, NothingToRevert}
use Rattle.layout.specs.Headers.{header_bytes, flag_offset, hash_range}
use Rattle.layout.specs.Tables.{inactive}
use Rattle.layout.specs.Opening.{opened}
use Rattle.layout.specs.Guarantees.{Guarantees}
use Rattle.layout.proofs.FrameLaws.{agree_part}
use Rattle.layout.proofs.GuaranteeLaws.{guarantees}
use Rattle.signing.specs.declared.Signer.{Signer}
use Rattle.signing.specs.Calls as signing
use Rattle.signing.specs.Calls.{signed_header, signed, built_as, outcome_of, block_left, digest_left}
use Rattle.signatures.specs.Signatures.{signature_range, signature}
use Rattle.signatures.proofs.Laws.{length_signature}
use Rattle.commits.specs.Committing.{stored_header, stored_signed, header_committed, committed_image, committed_signed}
use Rattle.dpfs.specs.Free.{InRange}
use Rattle.ivfc.specs.declared.View.{View}
use Rattle.update.specs.Staged.{written_to, holds_zero}
use Rattle.views.specs.Places.{partitions, staged_view}
use Rattle.views.proofs.PlaceLaws.{inactive_table}
use Rattle.steps.specs.declared.Ending.TheVariants as ending
use Rattle.steps.specs.declared.Session.{Session}
use Rattle.steps.specs.Sessions.{idle, begun_with, remembering, ends_outcome, write_outcome, revertible}
use Rattle.steps.specs.Calls.{while_idle, entered, while_revertible, entered_back, After, unchanged, done, goes_on, begin_on, begin, finished, leaving, write_to, write_on, write, landed, commit_on, commit, commit_by, commit_signed, revert_on, revert, revert_by, revert_signed}
use Rattle.steps.proofs.EnterLaws.{idle_is, entered_is}
use Rattle.faults.specs.Faults.{row_after}
use Rattle.history.specs.Model.{Form, Plain, Signed, Query, Open, ReadCommitted, ReadStaged, IsVerified, CountVerified, ListFaults, SigningBlock, SigningDigest, ListNames, FindFile, Call, Ask, Begin, Write, Commit, Abandon, Opening, Reading, Judging, Counting, Listing, Building, Digesting, Naming, Finding, Stepping, Ruling, Accepted, Refused, Dropped, Did, ending_of, ruling}
use Rattle.history.specs.Run.{State, Performed, opened_as, committed_as, reply, stepped, perform, ruled, next}
use Rattle.history.specs.External.{InPlaceBy}
use Rattle.history.specs.Term.{reverted_as, reverted, ruled_revert, next_revert}
use Rattle.history.specs.Fronts.{form_of, ignored, DifferIn, Ignores, Renews, FrontTheorem}
use Rattle.history.proofs.CallCases.{not_both, left, unopened}
use Rattle.history.proofs.Calls.{call_laws}
use Rattle.history.proofs.Crashing.{by_outer, spares}
use Rattle.history.proofs.Outers.{front_stays}
use Rattle.history.proofs.Signing.{same_signed, same_signature, unit}
use Rattle.history.proofs.Stored.{stored_as}
use Rattle.history.proofs.Reverts.{reverted_by, refused, lasts}
use Rattle.history.proofs.Fronts.{Fronted, Past, staged_past, front_part, front_header, front_opened, front_seen, front_entered, front_staged, front_answers}
use Rattle.history.proofs.FrontStores.{cond_through, laid_front, written_laid, begin_laid}

-- ---- an image that differs from another in a range is that one with its own bytes laid over there

short : (r : Range) (s : List ℕ) → length (part s r) ≤ r.size
unfolding part
short r s = let n = length-take r.size (drop r.offset s) in omega arith

relaid : (r : Range) (image left : List ℕ) → Keeps (InRange r) image left → left ≡ sets image r.offset (part left r)
unfolding part
relaid r image left k =
    ext_get_or 0 left (sets image r.offset (part left r)) (k.size ∙ sym (length-sets image r.offset (part left r)))
    (λ i h. by i h (outside_or_in r.offset (length (part left r)) i))
  where
    n : length (part left r) ≡ min r.size (length left - r.offset)
    n = length-take r.size (drop r.offset left) ∙ ap (min r.size) (length-drop r.offset left)

    off : (i : ℕ) → i < length left → Outside r.offset (length (part left r)) i → InRange r i → ⊥
    off i h (inl o) (a, b) = omega arith
    off i h (inr o) (a, b) = let m = n in omega arith

    by : (i : ℕ) → i < length left → Outside r.offset (length (part left r)) i ⊎ ((r.offset ≤ i) × (i < r.offset + length (part left r)))
        → get_or left i 0 ≡ get_or (sets image r.offset (part left r)) i 0
    by i h (inl o) = k.bytes i (off i h o) ∙ sym (sets_out image r.offset (part left r) i o)
    by i h (inr (a, b)) =
        let e : r.offset + (i - r.offset) ≡ i = omega arith in
        let m = n in
        let z = k.size in
        ap (λ (j : ℕ). get_or left j 0) (sym e) ∙ sym (get_d_part left r.offset r.size (i - r.offset) (omega arith))
        ∙ sym (sets_in image r.offset (part left r) (i - r.offset) (omega arith) (omega arith))
        ∙ ap (λ (j : ℕ). get_or (sets image r.offset (part left r)) j 0) e

-- ---- the calls, on an image with bytes laid over its front

-- a signed call leaves the first 16 bytes to the signature
abbrev OffSignature : Form → ℕ → Type 0
OffSignature Plain p = Unit {0}
OffSignature (Signed key signer) p = 0x10 ≤ p

module _ (p : ℕ) (bytes : List ℕ) (h : p + length bytes ≤ 0x100) where
  abbrev laid : List ℕ → List ℕ
  laid s = sets s p bytes

  abbrev laid_state : State → State
  laid_state st = record { image = laid st.image; session = st.session }

  abbrev laid_after : After → After
  laid_after a = record { outcome = a.outcome; image = laid a.image; session = a.session }

  abbrev laid_done : Performed → Performed
  laid_done d = record { answer = d.answer; state = laid_state d.state }

  front : (s : List ℕ) → Fronted s (laid s)
  front s = laid_front p bytes h s

  -- a branch of a call
  branch : (t t' : Bool) (a b a' b' : After) → t' ≡ t → a' ≡ laid_after a → b' ≡ laid_after b → cond t' a' b' ≡ laid_after (cond t a b)
  branch t t' a b a' b' e f g = (λ i. cond (e i) (f i) (g i)) ∙ cond_through laid_after t a b

  module _ (image : List ℕ) (session : Session) where
    -- a call that goes on alike leaves it alike
    goes : (next next' : Container → After) (o : Result Container Refusal) → ((c : Container) → o ≡ Ok c → next' c ≡ laid_after (next c))
        → goes_on (laid image) session next' o ≡ laid_after (goes_on image session next o)
    goes next next' (Err r) n = refl
    goes next next' (Ok c) n = n c refl

    begins : begin (laid image) session ≡ laid_after (begin image session)
    unfolding begin
    begins =
        ap (λ (o : Result Container Refusal). goes_on (laid image) session (begin_on (laid image)) (while_idle session o)) (front_opened image (laid image) (front image))
        ∙ goes (begin_on image) (begin_on (laid image)) (while_idle session (opened image))
        (λ c e i. done (begin_laid p bytes h image c (guarantees image c (idle_is session (opened image) c e).0) i) (begun_with (front_header image (laid image) (front image) i)))

    in_session : (next next' : Container → After) → ((c : Container) → opened image ≡ Ok c → next' c ≡ laid_after (next c))
        → goes_on (laid image) session next' (entered (laid image) session) ≡ laid_after (goes_on image session next (entered image session))
    in_session next next' n =
        ap (goes_on (laid image) session next') (front_entered image (laid image) (front image) session)
        ∙ goes next next' (entered image session) (λ c e. n c (entered_is image session c e).0)

    -- ---- write

    module _ (view : View) (v : Past view) (x : ℕ) (values : List ℕ) where
      judged : write_outcome view (laid image) x (length values) ≡ write_outcome view image x (length values)
      unfolding write_outcome ends_outcome
      judged = rw (front_seen image (laid image) (front image) view v)

      zeros : (after l : List ℕ) → holds_zero view x l (laid after) ≡ holds_zero view x l after
      unfolding holds_zero
      zeros after [] = refl
      zeros after (value ∷ l) = rw (front_seen after (laid after) (front after) view v)

      finishes : (after : List ℕ) → finished view x values session (laid after) ≡ laid_after (finished view x values session after)
      unfolding finished
      finishes after =
          branch (holds_zero view x values after) (holds_zero view x values (laid after)) (record { outcome = ending.Dropped; image = after; session = idle }) (done after session) _ _
          (zeros after values) refl refl

    leaves : (o : Result (Unit {0}) Refusal) (n n' : After) → n' ≡ laid_after n → leaving o (laid image) session n' ≡ laid_after (leaving o image session n)
    leaves (Ok tt) n n' e = e
    leaves (Err r) n n' e = refl

    writes : (q x : ℕ) (values : List ℕ) → write (laid image) session q x values ≡ laid_after (write image session q x values)
    unfolding write
    writes q x values = in_session (write_on image session q x values) (write_on (laid image) session q x values) (λ c o. by c o (ltb q (partitions c)) refl)
      where
        by : (c : Container) → opened image ≡ Ok c → (t : Bool) → ltb q (partitions c) ≡ t
            → cond t (write_to c (laid image) session q x values) (unchanged (laid image) session NoPartition)
            ≡ laid_after (cond t (write_to c image session q x values) (unchanged image session NoPartition))
        by c o false e = refl
        by c o true e =
            let view = staged_view c q in
            let v = staged_past image c (guarantees image c o) q (ltb-true q (partitions c) e) in
            (λ i. leaving (judged view v x values i) (laid image) session (finished view x values session (written_laid p bytes h view v x values image i)))
            ∙ leaves (write_outcome view image x (length values)) _ _ (finishes view v x values (written_to view x values image))

    -- ---- commit

    header_laid : (c : Container) → Guarantees image c → header_committed c (laid image) ≡ header_committed c image
    unfolding header_committed
    header_laid c g =
        let t = (inactive_table image c g).past in
        λ i. sets (set (front_header image (laid image) (front image) i) (flag_offset c.header.kind) (1 - c.header.flag)) (hash_range c.header.kind).offset
        (sha256 (front_part image (laid image) (front image) (inactive c.header) (omega arith) i))

    lands : (after after' : List ℕ) → after' ≡ laid after → landed (laid image) after' ≡ laid_after (landed image after)
    lands after after' e = λ i. done (e i) (remembering (front_header image (laid image) (front image) i) ((ap header_bytes e ∙ front_header after (laid after) (front after)) i))

    -- a header stored, and one with its signature
    back_laid : (header : List ℕ) → stored_header (laid image) header ≡ laid (stored_header image header)
    unfolding stored_header
    back_laid header = sets_after header bytes image p 0x100 h

    signed_laid : 0x10 ≤ p → (key : List ℕ) (signer : Signer) (header : List ℕ) → stored_signed (laid image) key signer header ≡ laid (stored_signed image key signer header)
    unfolding stored_signed stored_header
    signed_laid o key signer header =
        let n = length_signature key signer header in
        ap (λ (s : List ℕ). sets s 0x100 header) (sym (sets_after bytes (signature key signer header) image 0 p (omega arith)))
        ∙ sets_after header bytes (sets image 0 (signature key signer header)) p 0x100 h

    commits : (form : Form) → OffSignature form p → committed_as form (laid_state (record { image = image; session = session })) ≡ laid_after (committed_as form (record { image = image; session = session }))
    unfolding commit commit_signed committed_image committed_signed
    commits Plain o =
        in_session (commit_on image) (commit_on (laid image))
        (λ c e. lands (committed_image c image) (committed_image c (laid image))
        (ap (stored_header (laid image)) (header_laid c (guarantees image c e)) ∙ back_laid (header_committed c image)))
    commits (Signed key signer) o =
        in_session (commit_by image session key signer (signed image signer)) (commit_by (laid image) session key signer (signed (laid image) signer))
        (λ c e. ap (λ (a : signing.Answer). commit_by (laid image) session key signer a c) (same_signed image (laid image) (front image).size (front_header image (laid image) (front image)) signer)
        ∙ by c (guarantees image c e) (signed image signer))
      where
        by : (c : Container) → Guarantees image c → (a : signing.Answer) → commit_by (laid image) session key signer a c ≡ laid_after (commit_by image session key signer a c)
        by c g (signing.Refused r) = refl
        by c g (signing.Signs block) =
            lands (committed_signed c image key signer) (committed_signed c (laid image) key signer)
            (ap (stored_signed (laid image) key signer) (header_laid c g) ∙ signed_laid o key signer (header_committed c image))

    -- ---- revert

    goes_back : revertible (laid image) session.header session.later ≡ revertible image session.header session.later
    unfolding revertible
    goes_back =
        let valid : opened (stored_header (laid image) session.header) ≡ opened (stored_header image session.header) =
        ap opened (back_laid session.header) ∙ front_opened _ _ (front (stored_header image session.header)) in
        λ i. same_bytes (front_header image (laid image) (front image) i) session.later && is_ok (valid i)

    pub enters_back : entered_back (laid image) session ≡ entered_back image session
    unfolding entered_back
    enters_back =
        ap (λ (o : Result Container Refusal). while_revertible (laid image) session (while_idle session o)) (front_opened image (laid image) (front image)) ∙ by (while_idle session (opened image))
      where
        by : (o : Result Container Refusal) → while_revertible (laid image) session o ≡ while_revertible image session o
        by (Err r) = refl
        by (Ok c) = λ i. cond (goes_back i) (Ok c) (Err NothingToRevert)

    reverts_on : (next next' : Container → After) → ((c : Container) → next' c ≡ laid_after (next c))
        → goes_on (laid image) session next' (entered_back (laid image) session) ≡ laid_after (goes_on image session next (entered_back image session))
    reverts_on next next' n = ap (goes_on (laid image) session next') enters_back ∙ goes next next' (entered_back image session) (λ c e. n c)

    reverts : (form : Form) → OffSignature form p → reverted_as form (laid_state (record { image = image; session = session })) ≡ laid_after (reverted_as form (record { image = image; session = session }))
    unfolding revert revert_signed
    reverts Plain o = reverts_on (revert_on image session) (revert_on (laid image) session) (λ c. ap (λ (x : List ℕ). done x idle) (back_laid session.header))
    reverts (Signed key signer) o =
        let answer = signed_header session.header signer in
        reverts_on (revert_by image session key signer answer) (revert_by (laid image) session key signer answer) (by answer)
      where
        by : (a : signing.Answer) (c : Container) → revert_by (laid image) session key signer a c ≡ laid_after (revert_by image session key signer a c)
        by (signing.Refused r) c = refl
        by (signing.Signs block) c = ap (λ (x : List ℕ). done x idle) (signed_laid o key signer session.header)

  -- ---- and those that only read

  opens : (form : Form) → OffSignature form p → (image : List ℕ) → opened_as form (laid image) ≡ opened_as form image
  opens Plain o image = front_opened image (laid image) (front image)
  opens (Signed key signer) o image =
      let k = front image in
      same_signature image (laid image) key signer (front_opened image (laid image) k) (front_header image (laid image) k)
      (agree_part (laid image) image signature_range k.size (λ i a b. sets_out image p bytes i (inl (omega arith))))
      (same_signed image (laid image) k.size (front_header image (laid image) k) signer)

  replies : (query : Query) → OffSignature (form_of (Ask query)) p → (st : State) → reply query (laid_state st) ≡ reply query st
  unfolding reply
  replies (Open form) o st = ap Opening (opens form o st.image)
  replies (ReadCommitted q x buffer) o st = ap Reading ((front_answers _ _ (front st.image)).reads q x buffer)
  replies (ReadStaged q x buffer) o st = ap Reading (front_staged _ _ (front st.image) st.session q x buffer)
  replies (IsVerified q b) o st = ap Judging ((front_answers _ _ (front st.image)).questions q b)
  replies (CountVerified q) o st = ap Counting ((front_answers _ _ (front st.image)).counts q)
  replies (ListFaults row) o st =
      let a = front_answers _ _ (front st.image) in
      λ i. Listing (a.fault_count i) (row_after (a.fault_list i) row)
  replies (SigningBlock signer buffer) o st =
      ap (λ (a : signing.Answer). Building (built_as a) (block_left a buffer)) ((front_answers _ _ (front st.image)).signing signer)
  replies (SigningDigest signer buffer) o st =
      ap (λ (a : signing.Answer). Digesting (outcome_of a) (digest_left a buffer)) ((front_answers _ _ (front st.image)).signing signer)
  replies (ListNames row) o st = ap Naming ((front_answers _ _ (front st.image)).names row)
  replies (FindFile folder name) o st = ap Finding ((front_answers _ _ (front st.image)).finds folder name)

  performs : (c : Call) → OffSignature (form_of c) p → (st : State) → perform c (laid_state st) ≡ laid_done (perform c st)
  unfolding perform
  performs (Ask query) o st = λ i. record { answer = replies query o st i; state = laid_state st }
  performs Begin o st = ap stepped (begins st.image st.session)
  performs (Write q x values) o st = ap stepped (writes st.image st.session q x values)
  performs (Commit form) o st = ap stepped (commits st.image st.session form o)
  performs Abandon o st = refl

  backs : (form : Form) → OffSignature form p → (st : State) → reverted form (laid_state st) ≡ laid_done (reverted form st)
  backs form o st = ap stepped (reverts st.image st.session form o)

-- ---- a signed commit or revert over another signature: it is refused alike, or leaves the same

abbrev Alike : (a b : After) → Type 0
Alike a b = (b.outcome ≡ a.outcome) × (ending_of a.outcome ≡ Accepted → left b ≡ left a)

alike_same : (a b : After) → b ≡ a → Alike a b
alike_same a b e = (λ i. (e i).outcome, λ n. ap left e)

alike_on : (image other : List ℕ) (session : Session) (next next' : Container → After) (o : Result Container Refusal) → ((c : Container) → o ≡ Ok c → Alike (next c) (next' c))
    → Alike (goes_on image session next o) (goes_on other session next' o)
alike_on image other session next next' (Err r) n = (refl, λ a. not_both a refl)
alike_on image other session next next' (Ok c) n = n c refl

module _ (code : List ℕ) (n : length code ≤ 16) (image : List ℕ) (session : Session) (key : List ℕ) (signer : Signer) where
  abbrev other : List ℕ
  other = sets image 0 code

  small : 0 + length code ≤ 0x100
  small = omega arith

  fronted : Fronted image other
  fronted = front 0 code small image

  signs : signed other signer ≡ signed image signer
  signs = same_signed image other fronted.size (front_header image other fronted) signer

  over : (header : List ℕ) → stored_signed other key signer header ≡ stored_signed image key signer header
  unfolding stored_signed stored_header
  over header = let m = length_signature key signer header in ap (λ (s : List ℕ). sets s 0x100 header) (sets_again (signature key signer header) code image 0 (omega arith))

  commit_renews : Alike (commit_signed image session key signer) (commit_signed other session key signer)
  unfolding commit_signed committed_signed
  commit_renews =
      subst (λ (a : After). Alike (commit_signed image session key signer) a)
      (λ i. goes_on other session (commit_by other session key signer (sym signs i)) (sym (front_entered image other fronted session) i))
      (alike_on image other session _ _ (entered image session) (λ c e. next c (guarantees image c (entered_is image session c e).0) (signed image signer)))
    where
      next : (c : Container) → Guarantees image c → (a : signing.Answer) → Alike (commit_by image session key signer a c) (commit_by other session key signer a c)
      next c g (signing.Refused r) = (refl, λ e. not_both e refl)
      next c g (signing.Signs block) =
          let e : committed_signed c other key signer ≡ committed_signed c image key signer =
          ap (stored_signed other key signer) (header_laid 0 code small image session c g) ∙ over (header_committed c image) in
          alike_same _ _ (λ i. done (e i) (remembering (front_header image other fronted i) (header_bytes (e i))))

  revert_renews : Alike (revert_signed image session key signer) (revert_signed other session key signer)
  unfolding revert_signed
  revert_renews =
      subst (λ (a : After). Alike (revert_signed image session key signer) a)
      (λ i. goes_on other session (revert_by other session key signer (signed_header session.header signer)) (sym (enters_back 0 code small image session) i))
      (alike_on image other session _ _ (entered_back image session) (λ c e. next c (signed_header session.header signer)))
    where
      next : (c : Container) (a : signing.Answer) → Alike (revert_by image session key signer a c) (revert_by other session key signer a c)
      next c (signing.Refused r) = (refl, λ e. not_both e refl)
      next c (signing.Signs block) = alike_same _ _ (ap (λ (x : List ℕ). done x idle) (over session.header))

-- ---- what no call stores to

-- no call but commit stores to the first 0x200 bytes
uncommitted : (c : Call) → ((form : Form) → c ≡ Commit form → ⊥) → (st : State) (i : ℕ) → i < 0x200 → get_or (next c st).image i 0 ≡ get_or st.image i 0
uncommitted c n st i h = by (opened st.image) refl
  where
    by : (o : Result Container Refusal) → opened st.image ≡ o → get_or (next c st).image i 0 ≡ get_or st.image i 0
    by (Err r) e = ap (λ (s : List ℕ). get_or s i 0) (unopened c st (λ d o. let z : ◌≡◌ {A = ℕ} 0 1 = cc in omega arith))
    by (Ok d) e =
        front_stays st.image (next c st).image d (guarantees st.image d e) (InPlaceBy d (Did c (ruled c st))) (by_outer d (Did c (ruled c st)))
        (spares call_laws c st d n e) i h

call_spares : (c : Call) (st : State) (i : ℕ) → InRange (ignored (form_of c)) i → get_or (next c st).image i 0 ≡ get_or st.image i 0
unfolding perform
call_spares (Ask query) st i h = refl
call_spares Begin st i (a, b) = uncommitted Begin (λ form e. let z : ◌≡◌ {A = ℕ} 0 1 = cc in omega arith) st i (omega arith)
call_spares (Write q x values) st i (a, b) = uncommitted (Write q x values) (λ form e. let z : ◌≡◌ {A = ℕ} 0 1 = cc in omega arith) st i (omega arith)
call_spares (Commit Plain) st i (a, b) = (unit Plain st).bytes i (λ u. let (x, y) = u in omega arith)
call_spares (Commit (Signed key signer)) st i (a, b) =
    (unit (Signed key signer) st).bytes i (elim [ inl (x, y) ↦ omega arith | inr (x, y) ↦ omega arith ])
call_spares Abandon st i h = refl

stored_out : (form : Form) (image former : List ℕ) (i : ℕ) → InRange (ignored form) i → get_or (stored_as form image former) i 0 ≡ get_or image i 0
unfolding stored_header stored_signed
stored_out Plain image former i (a, b) = sets_out image 0x100 former i (inl (omega arith))
stored_out (Signed key signer) image former i (a, b) =
    let n = length_signature key signer former in
    sets_out (sets image 0 (signature key signer former)) 0x100 former i (inl (omega arith)) ∙ sets_out image 0 (signature key signer former) i (inr (omega arith))

revert_spares : (form : Form) (st : State) (i : ℕ) → InRange (ignored form) i → get_or (next_revert form st).image i 0 ≡ get_or st.image i 0
revert_spares form st i h = by (ruled_revert form st) refl
  where
    by : (r : Ruling) → ruled_revert form st ≡ r → get_or (next_revert form st).image i 0 ≡ get_or st.image i 0
    by Accepted e = ap (λ (a : After). get_or a.image i 0) (reverted_by form st e).after ∙ stored_out form st.image st.session.header i h
    by Refused e = ap (λ (s : State). get_or s.image i 0) (refused form st e)
    by Dropped e = absurd (lasts form st e)

-- ---- the theorem

differs : (r : Range) (bytes : List ℕ) → length bytes ≤ r.size → (st : State) → DifferIn r st (record { image = sets st.image r.offset bytes; session = st.session })
differs r bytes n st = record { session = refl; images = keeps_sets (InRange r) st.image r.offset bytes (λ i l. (omega arith, omega arith)) }

module _ (r : Range) (f : r.offset + r.size ≤ 0x100) (call : State → Performed)
    (lays : (bytes : List ℕ) (h : r.offset + length bytes ≤ 0x100) (st : State) → call (laid_state r.offset bytes h st) ≡ laid_done r.offset bytes h (call st))
    (kept : (st : State) (i : ℕ) → InRange r i → get_or (call st).state.image i 0 ≡ get_or st.image i 0) where
  alone : (st left : State) → DifferIn r st left → call left ≡ record { answer = (call st).answer; state = record { image = sets (call st).state.image r.offset (part left.image r); session = (call st).state.session } }
  alone st left d =
      let n = short r left.image in
      ap call (λ i. record { image = relaid r st.image left.image d.images i; session = d.session i }) ∙ lays (part left.image r) (omega arith) st

  ignores : Ignores r call
  ignores = record {
    answers = λ st left d. ap (λ (x : Performed). x.answer) (alone st left d);
    changes = λ st left d. subst (λ (x : Performed). DifferIn r (call st).state x.state) (sym (alone st left d)) (differs r (part left.image r) (short r left.image) (call st).state);
    spares = kept;
  }

within : (form : Form) → (ignored form).offset + (ignored form).size ≤ 0x100
within Plain = omega arith
within (Signed key signer) = omega arith

off : (form : Form) → OffSignature form (ignored form).offset
off Plain = tt
off (Signed key signer) = omega arith

calls : (c : Call) → Ignores (ignored (form_of c)) (perform c)
calls c =
    ignores (ignored (form_of c)) (within (form_of c)) (perform c)
    (λ bytes h st. performs (ignored (form_of c)).offset bytes h c (off (form_of c)) st) (call_spares c)

back : (form : Form) → Ignores (ignored form) (reverted form)
back form =
    ignores (ignored form) (within form) (reverted form) (λ bytes h st. backs (ignored form).offset bytes h form (off form) st) (revert_spares form)

-- a plain one renews nothing, and a signed one its signature
plainly : (call : State → Performed) → Ignores (ignored Plain) call → Renews Plain call
plainly call k = record { answers = k.answers; changes = λ st left d a. k.changes st left d }

module _ (key : List ℕ) (signer : Signer) (call : State → Performed)
    (lays : (bytes : List ℕ) (h : 0x10 + length bytes ≤ 0x100) (st : State) → call (laid_state 0x10 bytes h st) ≡ laid_done 0x10 bytes h (call st))
    (alike : (code : List ℕ) → length code ≤ 16 → (st : State)
    → ((call (record { image = sets st.image 0 code; session = st.session })).answer ≡ (call st).answer)
    × (ruling (call st).answer ≡ Accepted → (call (record { image = sets st.image 0 code; session = st.session })).state ≡ (call st).state)) where
  module _ (st other : State) (d : DifferIn (ignored Plain) st other) where
    abbrev found : List ℕ
    found = part other.image (ignored Plain)

    abbrev between : State
    between = record { image = sets st.image 0 (take 0x10 found); session = st.session }

    code_short : length (take 0x10 found) ≤ 16
    code_short = let n = length-take 0x10 found in omega arith

    rest_short : length (drop 0x10 found) ≤ 0xF0
    rest_short = let n = length-drop 0x10 found in let m = short (ignored Plain) other.image in omega arith

    parted : call other ≡ record { answer = (call between).answer; state = record { image = sets (call between).state.image 0x10 (drop 0x10 found); session = (call between).state.session } }
    parted =
        let n = rest_short in
        ap call (λ i. record { image = (relaid (ignored Plain) st.image other.image d.images ∙ sets_parts 0x10 found st.image 0) i; session = d.session i })
        ∙ lays (drop 0x10 found) (omega arith) between

    answers_alike : (call other).answer ≡ (call st).answer
    answers_alike = ap (λ (x : Performed). x.answer) parted ∙ (alike (take 0x10 found) code_short st).0

    changes_alike : ruling (call st).answer ≡ Accepted → DifferIn (ignored (Signed key signer)) (call st).state (call other).state
    changes_alike a =
        let e : (call other).state ≡ record { image = sets (call st).state.image 0x10 (drop 0x10 found); session = (call st).state.session } =
        ap (λ (x : Performed). x.state) parted
        ∙ ap (λ (x : State). record { image = sets x.image 0x10 (drop 0x10 found); session = x.session }) ((alike (take 0x10 found) code_short st).1 a) in
        subst (λ (x : State). DifferIn (ignored (Signed key signer)) (call st).state x) (sym e) (differs (ignored (Signed key signer)) (drop 0x10 found) rest_short (call st).state)

  renews : Renews (Signed key signer) call
  renews = record { answers = answers_alike; changes = changes_alike }

stepped_alike : (a b : After) → Alike a b → ((stepped b).answer ≡ (stepped a).answer) × (ruling (stepped a).answer ≡ Accepted → (stepped b).state ≡ (stepped a).state)
stepped_alike a b (p, q) = (ap Stepping p, q)

renewals : (form : Form) → Renews form (perform (Commit form)) × Renews form (reverted form)
unfolding perform
renewals Plain = (plainly (perform (Commit Plain)) (calls (Commit Plain)), plainly (reverted Plain) (back Plain))
renewals (Signed key signer) = (
  renews key signer (perform (Commit (Signed key signer))) (λ bytes h st. performs 0x10 bytes h (Commit (Signed key signer)) (omega arith) st)
      (λ code n st. stepped_alike _ _ (commit_renews code n st.image st.session key signer)),
  renews key signer (reverted (Signed key signer)) (λ bytes h st. backs 0x10 bytes h (Signed key signer) (omega arith) st)
      (λ code n st. stepped_alike _ _ (revert_renews code n st.image st.session key signer)),
)

pub front_theorem : FrontTheorem
front_theorem = record { calls = calls; reverts = back; renewals = renewals }
