-- The theorems' premises can be met: on the small image a session begins, writes the whole of level 4 and commits; the power fails; then another
-- session does the same and steps back. Assumes nothing.
use Rattle.std.specs.Prelude.{Result, Ok, Err}
use Rattle.layout.specs.declared.Refusal.{Refusal}
use mathlib.Core.Path.{◌≡◌, refl, sym, ap, ◌∙◌, subst}
use mathlib.Core.Bool.{Bool, true, false, ◌||◌, cond}
use mathlib.Core.List.{List, [], ◌∷◌}
use Prim.Native.Nat.{ℕ, zero, suc, ◌+◌, ◌≤◌, ◌<◌}
use native.Mathlib.Omega.{arith}
use lib.ListN.{length, replicate}
use lib.Dec.{lit<, leb, ltb}
use borrow.Author.Tests.{lt-ltb}
use Rattle.number.specs.declared.Level.{Level}
use Rattle.number.specs.Fields.{le16, le32, le64}
use Rattle.number.specs.Ranges.{part}
use Rattle.number.specs.Bytes.{bytes}
use Rattle.number.specs.Blocks.{block_size, block_of, block_length, last_block}
use Rattle.number.proofs.ListLaws.{bytes_is}
use Rattle.number.proofs.OverlayLaws.{overlay_in}
use Rattle.sha256.specs.Sha256.{sha256}
use Rattle.layout.specs.declared.Container.{Container}
use Rattle.layout.specs.declared.Refusal.TheVariants.{OutOfRange}
use Rattle.layout.specs.Headers.{header_bytes, diff_header}
use Rattle.layout.specs.Descriptors.{difi_fields, ivfc_fields, partition_fields}
use Rattle.layout.specs.Opening.{opened}
use Rattle.layout.proofs.GuaranteeLaws.{guarantees}
use Rattle.ivfc.specs.declared.View.{View}
use Rattle.ivfc.specs.Blocks.{block, entry, parent}
use Rattle.ivfc.specs.Verified.{zero_entry, first_not}
use Rattle.ivfc.specs.Views.{level_of, content_of, verified}
use Rattle.update.specs.Covering.{covered}
use Rattle.update.specs.Writing.{zero_among, zero_held, Held}
use Rattle.update.specs.Staged.{written_to, holds_zero}
use Rattle.update.specs.Rules.{WriteRules}
use Rattle.update.proofs.ImageLaws.{write_bytes, write_held}
use Rattle.views.specs.Places.{partitions, slot_of, partition_of, master_in, view_in, staged_view, space_of}
use Rattle.steps.specs.Reading.{touched, refuse_lowest, refuse_outside}
use Rattle.steps.specs.Sessions.{idle, begun_with, begun_image, current, ends_outcome, write_outcome}
use Rattle.steps.specs.Calls.{After, finished, goes_on, write_on, write}
use Rattle.steps.proofs.EnterLaws.{enters}
use Rattle.steps.proofs.BeginLaws.{begun_current}
use Rattle.steps.proofs.WriteLaws.{write_rules}
use Rattle.history.specs.Model.{Plain, Call, Begin, Write, Commit, Accepted, ending_of, Did, ruling, Ruling}
use Rattle.history.specs.Run.{State, perform, ruled, next, after, events, begins, commits}
use Rattle.views.specs.Protected.{AgreesBut}
use Rattle.history.specs.External.{InPlaceOf, SomeExternal}
use Rattle.history.proofs.Agreeing.{left_more, left_agrees, agrees_refl}
use Rattle.history.specs.Theorem.{Start}
use Rattle.history.specs.Term.{ruled_revert, Happening, Do, Revert, Crash, found_after, Premise, past_after, at_first, past_first}
use Rattle.history.proofs.CallCases.{landed_image, begun_by, written_by, committed_by, idle_rests}
use Rattle.history.proofs.Begins as laws
use Rattle.history.proofs.Currents.{staged_table_lem}
use Rattle.history.proofs.Units.{headed}
use Rattle.history.proofs.Commits.{switched, after_opens}
use Rattle.history.proofs.Demand.{demand3}
use Rattle.history.proofs.Reverts.{revert_theorem}
use Rattle.examples.proofs.SmallDigests.{Chain, small_chain}
use Rattle.examples.proofs.SmallImage.{table, small_image, small_container, small_opens}

-- ---- a small container

-- its first partition is internal, and each level of it is one block of 32 bytes
pub record Small (c : Container) : Type 0 where
  pub there : 0 < partitions c
  pub internal : (partition_of c 0).difi.external ≡ false
  pub levels : (i : ℕ) → i ≤ 4 → ((level_of (staged_view c 0) i).size ≡ 32) × ((level_of (staged_view c 0) i).log ≡ 5)

small_levels : (i : ℕ) → i ≤ 4 → ((level_of (staged_view small_container 0) i).size ≡ 32) × ((level_of (staged_view small_container 0) i).log ≡ 5)
unfolding level_of small_container staged_view view_in master_in slot_of partition_of partition_fields difi_fields ivfc_fields table part le64 le32 le16
small_levels zero h = (refl, refl)
small_levels (suc zero) h = (refl, refl)
small_levels (suc (suc zero)) h = (refl, refl)
small_levels (suc (suc (suc zero))) h = (refl, refl)
small_levels (suc (suc (suc (suc i)))) h = (refl, refl)

small : Small small_container
unfolding small_container partition_of partition_fields difi_fields table diff_header
small = record { there = lit< tt; internal = refl; levels = small_levels }

-- a commit leaves one
switched_small : (c : Container) → Small c → Small (switched c)
unfolding level_of staged_view view_in master_in slot_of partition_of
switched_small c s = record { there = s.there; internal = s.internal; levels = by }
  where
    by : (i : ℕ) → i ≤ 4 → ((level_of (staged_view (switched c) 0) i).size ≡ 32) × ((level_of (staged_view (switched c) 0) i).log ≡ 5)
    by zero h = s.levels zero h
    by (suc zero) h = s.levels 1 h
    by (suc (suc zero)) h = s.levels 2 h
    by (suc (suc (suc zero))) h = s.levels 3 h
    by (suc (suc (suc (suc i)))) h = s.levels 4 (omega arith)

-- ---- digests

-- where each level is one block of one entry, the digests are a chain
module _ (levels : ℕ → Level) (content : ℕ → ℕ → ℕ) (one : (i : ℕ) → i ≤ 4 → ((levels i).size ≡ 32) × ((levels i).log ≡ 5)) where
  one_entry : (i : ℕ) → i ≤ 4 → block (levels i) (content i) 0 ≡ bytes (content i) 0 32
  unfolding block block_length block_size bytes
  one_entry i h =
      let (s, k) = one i h in
      rw (s, k)

  parent_none : (i : ℕ) → i ≤ 4 → parent (levels i) 0 ≡ 0
  unfolding parent block_of block_size
  parent_none i h =
      let (s, k) = one i h in
      rw k

  chain_holds : (i : ℕ) → i ≤ 4 → (d : List ℕ) → bytes (content i) 0 32 ≡ d → Held levels content i 0 0 → Chain i d → zero_held levels content i 0 0 ≡ false
  unfolding zero_held zero_among Held entry
  chain_holds zero h d e held chain = refl
  chain_holds (suc i) h d e held chain =
      let q : bytes (content i) 0 32 ≡ sha256 d = held.0 0 (omega arith) (omega arith) ∙ ap sha256 (one_entry (suc i) h ∙ e) in
      let n : zero_entry (bytes (content i) 0 32) ≡ false = ap zero_entry q ∙ chain.0 in
      let r : Held levels content i 0 0 = rw (parent_none i (omega arith)) at held.1 in
      rw (n, parent_none i (omega arith)) (chain_holds i (omega arith) (sha256 d) q r chain.1)

-- ---- a write of the whole of level 4

abbrev pub written : Call
written = Write 0 0 (replicate 32 7)

-- where 32 bytes from 0 on touch block 0 alone, a test that holds there refuses nothing
passes : (P : ℕ → Bool) (view : View) → block_of view.level4 0 ≡ 0 → touched view.level4 0 32 ≡ 1 → P 0 ≡ true → refuse_lowest P view 0 32 ≡ Ok tt
unfolding refuse_lowest first_not
passes P view b t p = rw (b, t, p)

-- they cover it
module _ (l : Level) (s : l.size ≡ 32) (k : l.log ≡ 5) where
  first_block : block_of l 0 ≡ 0
  unfolding block_of block_size
  first_block = rw k

  last_block_lem : last_block l 0 32 ≡ 0
  unfolding last_block block_of block_size
  last_block_lem = rw k

  touched_one : touched l 0 32 ≡ 1
  unfolding touched last_block block_of block_size
  touched_one = rw k

  covered_one : covered l 0 32 0 ≡ true
  unfolding covered block_length block_size
  covered_one = rw (s, k)

-- a write that passes each check is accepted
write_accepted : (st : State) (c : Container) (q place : ℕ) (bytes : List ℕ) → opened st.image ≡ Ok c → st.session.begun ≡ true
    → current c st.image st.session ≡ true → ltb q (partitions c) ≡ true
    → write_outcome (staged_view c q) st.image place (length bytes) ≡ Ok tt
    → holds_zero (staged_view c q) place bytes (written_to (staged_view c q) place bytes st.image) ≡ false → ruled (Write q place bytes) st ≡ Accepted
unfolding perform write finished
write_accepted st c q place bytes o b k t w z =
    ap (λ (x : Result Container Refusal). ending_of (goes_on st.image st.session (write_on st.image st.session q place bytes) x).outcome)
    (sym (enters st.image st.session (opened st.image) refl c o b k))
    ∙ rw (z, w, t)

-- ---- a session on an image that opens so: a begin, that write and a commit are accepted

abbrev pub idle_on : List ℕ → State
idle_on image = record { image = image; session = idle }

abbrev pub small_calls : List Call
small_calls = Begin ∷ written ∷ Commit Plain ∷ []

-- after the write
abbrev pub before : List ℕ → State
before image = next written (next Begin (idle_on image))

module _ (image : List ℕ) (c : Container) (o : opened image ≡ Ok c) (s : Small c) where
  pub start : Start 0 (idle_on image)
  start = record { has = record { container = c; opens = o; there = s.there; internal = s.internal }; idle = idle_rests }

  pub begin_there : ruled Begin (idle_on image) ≡ Accepted
  unfolding after
  begin_there = (demand3.progress (idle_on image) c o idle_rests []).idle idle_rests

  -- what it leaves
  abbrev begun_state : State
  begun_state = record { image = begun_image c image; session = begun_with (header_bytes image) }

  begun_is : next Begin (idle_on image) ≡ begun_state
  unfolding perform
  begun_is = ap (λ (a : After). record { image = a.image; session = a.session }) (begun_by image idle c o begin_there).after

  begun_opens : opened (begun_image c image) ≡ Ok c
  begun_opens =
      (demand3.crash.answers image (begun_image c image) c [] o
      (left_agrees (InPlaceOf c []) image (begun_image c image) c o (left_more (InPlaceOf c []) c image (begun_image c image) (laws.begins image c o).stores))).opening Plain ∙ o

  abbrev view : View
  view = staged_view c 0

  size4 : view.level4.size ≡ 32
  unfolding level_of
  size4 = (s.levels 4 (omega arith)).0

  log4 : view.level4.log ≡ 5
  unfolding level_of
  log4 = (s.levels 4 (omega arith)).1

  outcome_there : write_outcome view (begun_image c image) 0 32 ≡ Ok tt
  unfolding write_outcome ends_outcome refuse_outside
  outcome_there =
      ap (λ (n : ℕ). cond (leb 32 n) (ends_outcome view (begun_image c image) 0 32) (Err OutOfRange)) size4
      ∙ passes _ view (first_block view.level4 size4 log4) (touched_one view.level4 size4 log4)
      (ap (λ (t : Bool). t || verified view (begun_image c image) 4 0) (covered_one view.level4 size4 log4))

  abbrev after_write : List ℕ
  after_write = written_to view 0 (replicate 32 7) (begun_image c image)

  asks : WriteRules (space_of c) view (begun_image c image) 0 (replicate 32 7)
  asks = write_rules (begun_image c image) c begun_opens 0 s.there 0 (replicate 32 7) outcome_there

  written_bytes : bytes (content_of view after_write 4) 0 32 ≡ replicate 32 7
  written_bytes =
      bytes_is (content_of view after_write 4) 0 32 (replicate 32 7) refl
      (λ m h. write_bytes (space_of c) view (begun_image c image) 0 (replicate 32 7) asks (0 + m) (rw size4 (omega arith))
      ∙ overlay_in (content_of view (begun_image c image) 4) 0 (replicate 32 7) m h)

  -- none of the digests that it holds is all zero
  none_zero : holds_zero view 0 (replicate 32 7) after_write ≡ false
  unfolding holds_zero
  none_zero =
      let b = first_block view.level4 size4 log4 in
      let l = last_block_lem view.level4 size4 log4 in
      rw (b, l)
      (chain_holds (level_of view) (content_of view after_write) s.levels 4 (omega arith) (replicate 32 7) written_bytes
      (rw (b, l) at (write_held (space_of c) view (begun_image c image) 0 (replicate 32 7) asks (omega arith))) small_chain)

  begun_accepts : ruled written begun_state ≡ Accepted
  begun_accepts =
      write_accepted begun_state c 0 0 (replicate 32 7) begun_opens refl (begun_current image c (guarantees image c o)) (lt-ltb 0 (partitions c) s.there)
      outcome_there none_zero

  pub write_there : ruled written (next Begin (idle_on image)) ≡ Accepted
  write_there = ap (ruled written) begun_is ∙ begun_accepts

  begun_there : (next written (next Begin (idle_on image))).session.begun ≡ true
  unfolding perform
  begun_there =
      ap (λ (st : State). (next written st).session.begun) begun_is
      ∙ ap (λ (a : After). a.session.begun)
      (written_by (begun_image c image) (begun_with (header_bytes image)) c begun_opens 0 0 (replicate 32 7) begun_accepts).after

  pub commit_there : ruled (Commit Plain) (before image) ≡ Accepted
  unfolding after
  commit_there = ((demand3.progress (idle_on image) c o idle_rests (Begin ∷ written ∷ [])).begun begun_there).0

  -- the image that it leaves opens so too
  written_opens : opened (before image).image ≡ Ok c
  unfolding after events commits
  written_opens =
      (demand3.crash.answers image (before image).image c (events (Begin ∷ written ∷ []) (idle_on image)) o
      (demand3.crash.stores (idle_on image) (Begin ∷ written ∷ []) c o (rw (begin_there, write_there)))).opening Plain ∙ o

  pub landed_opens : opened (next (Commit Plain) (before image)).image ≡ Ok (switched c)
  unfolding perform
  landed_opens =
      let b = committed_by Plain (before image) c written_opens commit_there in
      ap (λ (a : After). opened a.image) b.after
      ∙ after_opens (before image).image c written_opens (staged_table_lem c (before image).image (before image).session b.current) (landed_image Plain c (before image).image)
      (headed (before image).image c (guarantees (before image).image c written_opens) Plain)

-- ---- on the small image

abbrev pub small_state : State
small_state = idle_on small_image

pub small_start : Start 0 small_state
small_start = start small_image small_container small_opens small

-- what came of the list
pub small_events : events small_calls small_state ≡ Did Begin Accepted ∷ Did written Accepted ∷ Did (Commit Plain) Accepted ∷ []
unfolding events
small_events =
    rw (begin_there small_image small_container small_opens small, write_there small_image small_container small_opens small, commit_there small_image small_container small_opens small)

pub small_lands : (begins (events small_calls small_state) ≡ 1) × (ruled written (next Begin small_state) ≡ Accepted) × (commits (events small_calls small_state) ≡ 1)
unfolding begins commits
small_lands = (rw small_events, write_there small_image small_container small_opens small, rw small_events)

-- ---- and a term on it: the power fails after the commit, another session does the same, and its commit is reverted

abbrev pub landed_small : List ℕ
landed_small = (next (Commit Plain) (before small_image)).image

abbrev pub small_term : List Happening
small_term = Do Begin ∷ Do written ∷ Do (Commit Plain) ∷ Crash landed_small ∷ Do Begin ∷ Do written ∷ Do (Commit Plain) ∷ Revert Plain ∷ []

-- its premise holds
pub small_premise : Premise small_term (at_first small_image)
unfolding Premise
small_premise = (tt, (tt, (tt, (left _, (tt, (tt, (tt, (tt, tt))))))))
  where
    left : (found : List ℕ) (c : Container) → opened (found_after (Commit Plain) (ruled (Commit Plain) (before small_image)) found landed_small) ≡ Ok c
        → AgreesBut (SomeExternal c) c (found_after (Commit Plain) (ruled (Commit Plain) (before small_image)) found landed_small) landed_small
    left found c o =
        subst (λ (r : Ruling). AgreesBut (SomeExternal c) c (found_after (Commit Plain) r found landed_small) landed_small)
        (sym (commit_there small_image small_container small_opens small)) (agrees_refl (SomeExternal c) c landed_small)

-- each call of the second session is accepted, and so is the revert
landed_small_lem : opened landed_small ≡ Ok (switched small_container)
landed_small_lem = landed_opens small_image small_container small_opens small

again : Small (switched small_container)
again = switched_small small_container small

pub second_accepted : (ruled Begin (idle_on landed_small) ≡ Accepted) × (ruled written (next Begin (idle_on landed_small)) ≡ Accepted) × (ruled (Commit Plain) (before landed_small) ≡ Accepted)
second_accepted = (
  begin_there landed_small (switched small_container) landed_small_lem again,
  write_there landed_small (switched small_container) landed_small_lem again,
  commit_there landed_small (switched small_container) landed_small_lem again,
)

pub revert_there : ruled_revert Plain (next (Commit Plain) (before landed_small)) ≡ Accepted
unfolding after events begins
revert_there = ap ruling (revert_theorem.back Plain Plain (before landed_small) [] second_accepted.2 refl).answer

-- so of the three versions the newest is removed
pub small_versions : length (past_after 0 small_term (at_first small_image) (past_first small_start.has)).older ≡ 1
unfolding past_after
small_versions =
    rw (begin_there small_image small_container small_opens small, write_there small_image small_container small_opens small, commit_there small_image small_container small_opens small, second_accepted.0, second_accepted.1, second_accepted.2, revert_there)
