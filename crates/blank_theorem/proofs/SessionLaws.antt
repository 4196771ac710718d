-- Calls on a blank image, and on what lists of calls make of it. Assumes nothing.
use Rattle.std.specs.Prelude.{Result, Ok}
use Rattle.layout.specs.declared.Refusal.{Refusal}
use Prim.Native.Nat.{ℕ, zero, suc, ◌+◌, ◌*◌, ◌≤◌, ◌<◌}
use mathlib.Core.Bool.{Bool, true, false, ◌||◌, cond, or-true, true≢false}
use mathlib.Core.List.{List}
use mathlib.Core.Logic.{◌⊎◌, inl, inr}
use mathlib.Core.Option.{Option, none, some, get_or}
use mathlib.Core.Path.{◌≡◌, refl, sym, ap, ◌∙◌, subst}
use native.Mathlib.Omega.{arith}
use native.Mathlib.Decide.{dec_lt}
use native.Mathlib.Numerals.{add-one}
use lib.ListN.{length, length-replicate}
use lib.Dec.{ltb}
use borrow.Author.Tests.{le-leb, lt-ltb}
use Rattle.number.specs.declared.Level.{Level}
use Rattle.number.specs.Blocks.{blocks, block_of, last_block}
use Rattle.number.specs.Bytes.{bytes}
use Rattle.number.proofs.ListLaws.{bytes_is, bytes_cong}
use Rattle.layout.specs.declared.Kind.{Kind}
use Rattle.layout.specs.declared.Container.{Container}
use Rattle.layout.specs.declared.Refusal.TheVariants.{NoPartition}
use Rattle.layout.specs.Opening.{opened}
use Rattle.ivfc.specs.declared.View.{View}
use Rattle.ivfc.specs.Verified.{count_of}
use Rattle.ivfc.specs.Views.{level_of, content_of, verified}
use Rattle.ivfc.proofs.LowestLaws.{Lowest, first_lowest}
use Rattle.update.specs.Covering.{covered}
use Rattle.update.specs.Staged.{written_to, holds_zero}
use Rattle.views.specs.Places.{committed_view, staged_view, view_in, partitions, partition_of}
use Rattle.steps.specs.declared.Ending.TheVariants as ending
use Rattle.steps.specs.declared.Session.{Session}
use Rattle.steps.specs.Reading.{refuse_lowest, read_outcome, read_from, Read, filled, count_in}
use Rattle.steps.specs.Sessions.{idle, current, ends_outcome, write_outcome}
use Rattle.steps.specs.Calls.{read_in, read_committed, count_verified_in, count_verified, unchanged, done, finished, leaving, goes_on, write_on, write, unread}
use Rattle.steps.proofs.EnterLaws.{enters}
use Rattle.steps.proofs.ReadLaws.{first_last, none_refused, nothing_touched, inside_passes, last_exists}
use Rattle.views.specs.Versions.{Version}
use Rattle.history.specs.Model.{Call, Write, Accepted, Dropped, ending_of, Model, followed}
use Rattle.history.specs.Run.{State, perform, ruled, after, events, begins, commits, last_value}
use Rattle.history.specs.External.{StartThere, committed_of}
use Rattle.history.specs.Theorem.{there_of, Start, Landed}
use Rattle.history.proofs.Calls.{call_laws}
use Rattle.history.proofs.CallCases.{idle_rests}
use Rattle.history.proofs.Following.{Tracks, Mirrors, mirrors_on, mirrors_first}
use Rattle.history.proofs.Demand.{demand3}
use Rattle.blank.specs.Sizes.{ivfc4}
use Rattle.blank.specs.Image.{zeros, image}
use Rattle.blank.proofs.ImageLaws.{zeros_byte}
use Rattle.blank_theorem.specs.Theorem.{header_of, partition, container, Blank}
use Rattle.blank_theorem.specs.Sessions.{fresh, Takes}
use Rattle.blank_theorem.proofs.WholeLaws.{WholeModel, WholeStaged, Shows, shows, whole_of, followed_whole}
use Rattle.layout.proofs.GuaranteeLaws.{one_container}

-- ---- where every block passes, no call is refused for one

module _ (P : ℕ → Bool) (view : View) (place n : ℕ) (fits : place + n ≤ view.level4.size)
    (all : (b : ℕ) → b < blocks view.level4 → P b ≡ true) where
  past : (more : 0 < n) (r : ℕ) → Lowest P (block_of view.level4 place) (last_block view.level4 place n) r → last_block view.level4 place n < r
  past more r low = go (dec_lt (last_block view.level4 place n) r)
    where
      go : Dec (last_block view.level4 place n < r) → last_block view.level4 place n < r
      go (yes p) = p
      go (no p) =
          absurd (true≢false (sym (all r (omega (arith, last_exists view place n more fits))) ∙ low.here (omega arith)))

  all_pass : refuse_lowest P view place n ≡ Ok tt
  all_pass = go (dec_lt 0 n)
    where
      go : Dec (0 < n) → refuse_lowest P view place n ≡ Ok tt
      go (no p) = nothing_touched P view place n (omega arith)
      go (yes p) =
          none_refused P view place n _ p refl
          (past p _ (first_lowest P (block_of view.level4 place) (last_block view.level4 place n) (first_last view.level4 place n p)))

count_all : (P : ℕ → Bool) (n : ℕ) → ((b : ℕ) → b < n → P b ≡ true) → count_of P n ≡ n
unfolding count_of
count_all P zero all = refl
count_all P (suc n) all =
    let e : count_of P n ≡ n = count_all P n (λ b h. all b (omega arith)) in
    rw (all n (omega arith), e) (add-one n)

module _ (view : View) (s : List ℕ) (all : (b : ℕ) → b < blocks view.level4 → verified view s 4 b ≡ true)
    (place n : ℕ) (fits : place + n ≤ view.level4.size) where
  read_passes : read_outcome view s place n ≡ Ok tt
  unfolding read_outcome
  read_passes =
      inside_passes view place n _ (le-leb (place + n) view.level4.size fits)
      ∙ all_pass (verified view s 4) view place n fits all

  write_passes : write_outcome view s place n ≡ Ok tt
  unfolding write_outcome ends_outcome
  write_passes =
      inside_passes view place n _ (le-leb (place + n) view.level4.size fits)
      ∙ all_pass (λ (b : ℕ). covered view.level4 place n b || verified view s 4 b) view place n fits
      (λ b h. ap (λ (x : Bool). covered view.level4 place n b || x) (all b h) ∙ or-true (covered view.level4 place n b))

-- ---- a read and a write of a partition that is there

module _ (s : List ℕ) (c : Container) (o : opened s ≡ Ok c) (there : 0 < partitions c) where
  read_shown : (all : (b : ℕ) → b < blocks (committed_view c 0).level4 → verified (committed_view c 0) s 4 b ≡ true) (place : ℕ) (buffer : List ℕ)
      → place + length buffer ≤ (committed_view c 0).level4.size
      → read_committed s 0 place buffer ≡ record { outcome = Ok tt; buffer = bytes (content_of (committed_view c 0) s 4) place (length buffer) }
  unfolding read_committed read_from
  read_shown all place buffer h =
      ap (read_in committed_view s 0 place buffer) o
      ∙ answered (ltb 0 (partitions c)) (read_outcome (committed_view c 0) s place (length buffer)) (lt-ltb 0 (partitions c) there)
      (read_passes (committed_view c 0) s all place (length buffer) h)
    where
      answered : (t : Bool) (a : Result (Unit {0}) Refusal) → t ≡ true → a ≡ Ok tt
          → ◌≡◌ {A = Read} (cond t (record { outcome = a; buffer = filled a buffer (bytes (content_of (committed_view c 0) s 4) place (length buffer)) }) (unread buffer NoPartition))
          (record { outcome = Ok tt; buffer = bytes (content_of (committed_view c 0) s 4) place (length buffer) })
      answered t a p q = rw (p, q) refl

  -- accepted, or dropped
  write_shown : (session : Session) → session.begun ≡ true → current c s session ≡ true
      → (all : (b : ℕ) → b < blocks (staged_view c 0).level4 → verified (staged_view c 0) s 4 b ≡ true) (place : ℕ) (bytes : List ℕ)
      → place + length bytes ≤ (staged_view c 0).level4.size
      → (ending_of (write s session 0 place bytes).outcome ≡ Accepted) ⊎ (ending_of (write s session 0 place bytes).outcome ≡ Dropped)
  unfolding write finished
  write_shown session b k all place bytes h =
      go (holds_zero (staged_view c 0) place bytes (written_to (staged_view c 0) place bytes s))
      (ap (λ (x : Result Container Refusal). ending_of (goes_on s session (write_on s session 0 place bytes) x).outcome) (sym (enters s session (opened s) refl c o b k))
      ∙ answered (ltb 0 (partitions c))
      (holds_zero (staged_view c 0) place bytes (written_to (staged_view c 0) place bytes s)) (write_outcome (staged_view c 0) s place (length bytes))
      (lt-ltb 0 (partitions c) there) (write_passes (staged_view c 0) s all place (length bytes) h))
    where
      last : List ℕ
      last = written_to (staged_view c 0) place bytes s

      answered : (q z : Bool) (a : Result (Unit {0}) Refusal) → q ≡ true → a ≡ Ok tt
          → ending_of (cond q (leaving a s session (cond z (record { outcome = ending.Dropped; image = last; session = idle }) (done last session)))
          (unchanged s session NoPartition)).outcome
          ≡ ending_of (cond z ending.Dropped ending.Accepted)
      answered q true a p e = rw (p, e) refl
      answered q false a p e = rw (p, e) refl

      go : (z : Bool) → ending_of (write s session 0 place bytes).outcome ≡ ending_of (cond z ending.Dropped ending.Accepted)
          → (ending_of (write s session 0 place bytes).outcome ≡ Accepted) ⊎ (ending_of (write s session 0 place bytes).outcome ≡ Dropped)
      go true e = inr e
      go false e = inl e

-- ---- the calls

module _ (kind : Kind) (n : ℕ) (w : Blank kind n) where
  abbrev c : Container
  c = container kind n

  abbrev st : State
  st = fresh kind n

  abbrev live : View
  live = committed_view c 0

  one : 0 < partitions c
  unfolding header_of
  one = omega arith

  live4 : live.level4 ≡ ivfc4 n
  unfolding committed_view view_in partition_of partition
  live4 = refl

  size4 : (partition_of c 0).ivfc.level4.size ≡ 0x1000 * n
  unfolding partition_of partition
  size4 = refl

  live_four : live.level4 ≡ level_of live 4
  unfolding level_of
  live_four = refl

  stands : (b : ℕ) → b < blocks live.level4 → verified live (image kind n) 4 b ≡ true
  stands b h = w.verifies 4 b (omega arith) (subst (λ (l : Level). b < blocks l) live_four h)

  internal : (partition_of c 0).difi.external ≡ false
  unfolding partition_of partition
  internal = refl

  abbrev start : Start 0 st
  start = record { has = record { container = c; opens = w.opens; there = one; internal = internal }; idle = idle_rests }

  reads : (place : ℕ) (buffer : List ℕ) → place + length buffer ≤ 0x1000 * n
      → read_committed (image kind n) 0 place buffer ≡ record { outcome = Ok tt; buffer = zeros (length buffer) }
  reads place buffer h =
      read_shown (image kind n) c w.opens one stands place buffer (omega (arith, ap (λ (l : Level). l.size) live4))
      ∙ ap (λ (l : List ℕ). record { outcome = Ok tt; buffer = l })
      (bytes_is (content_of live (image kind n) 4) place (length buffer) (zeros (length buffer)) (length-replicate (length buffer) 0)
      (λ k q. w.zero (place + k) (omega arith) ∙ sym (zeros_byte (length buffer) k)))

  counts : count_verified (image kind n) 0 ≡ Ok n
  unfolding count_verified header_of count_in
  counts =
      ap (count_verified_in (image kind n) 0) w.opens
      ∙ ap Ok (ap (count_of (verified live (image kind n) 4)) w.count ∙ count_all (verified live (image kind n) 4) n
      (λ b h. stands b (omega (arith, w.count))))

  -- ---- after any list

  abbrev model_of : List Call → Model
  model_of calls = followed 0 (events calls st) (record { committed = committed_of (there_of start.has); staged = none })

  mirrors : (calls : List Call) → Mirrors 0 (after calls st) (model_of calls)
  mirrors calls = mirrors_on call_laws 0 calls st (record { committed = committed_of (there_of start.has); staged = none }) (mirrors_first call_laws 0 st start)

  whole : (calls : List Call) → WholeModel (ivfc4 n) (model_of calls)
  whole calls =
      followed_whole (ivfc4 n) 0 (events calls st) (record { committed = committed_of (there_of start.has); staged = none })
      (whole_of (ivfc4 n) live (image kind n) live4 stands, tt)

  writes : (calls : List Call) (place : ℕ) (bytes : List ℕ) → (after calls st).session.begun ≡ true → place + length bytes ≤ 0x1000 * n
      → (ruled (Write 0 place bytes) (after calls st) ≡ Accepted) ⊎ (ruled (Write 0 place bytes) (after calls st) ≡ Dropped)
  unfolding perform
  writes calls place bytes b h = go (model_of calls).staged (mirrors calls).staged (whole calls).1
    where
      g : Mirrors 0 (after calls st) (model_of calls)
      g = mirrors calls

      go : (o : Option Version) → Tracks g.has (after calls st).session o → WholeStaged (ivfc4 n) o
          → (ending_of (write (after calls st).image (after calls st).session 0 place bytes).outcome ≡ Accepted)
          ⊎ (ending_of (write (after calls st).image (after calls st).session 0 place bytes).outcome ≡ Dropped)
      go none t a = absurd (true≢false (sym b ∙ t))
      go (some v) t a =
          let seen = shows (ivfc4 n) (staged_view g.has.container 0) (after calls st).image v t.2 a in
          write_shown (after calls st).image g.has.container g.has.opens g.has.there (after calls st).session t.0 t.1
          seen.all place bytes (omega (arith, ap (λ (l : Level). l.size) seen.level))

  -- ---- after a commit

  back : (calls : List Call) → begins (events calls st) ≤ 1 → 0 < commits (events calls st) → (place : ℕ) (buffer : List ℕ) → place + length buffer ≤ 0x1000 * n
      → read_committed (after calls st).image 0 place buffer
      ≡ record { outcome = Ok tt; buffer = bytes (λ (i : ℕ). get_or (last_value 0 i (events calls st)) 0) place (length buffer) }
  back calls one-begin some-commit place buffer h =
      read_shown s d g.has.opens g.has.there seen.all place buffer (omega (arith, ap (λ (l : Level). l.size) seen.level))
      ∙ ap (λ (l : List ℕ). record { outcome = Ok tt; buffer = l })
      (bytes_cong (content_of (committed_view d 0) s 4) (λ (i : ℕ). get_or (last_value 0 i (events calls st)) 0) place place (length buffer)
      (λ k q. byte (place + k) (omega arith)))
    where
      s : List ℕ
      s = (after calls st).image

      g : Mirrors 0 (after calls st) (model_of calls)
      g = mirrors calls

      d : Container
      d = g.has.container

      seen : Shows (ivfc4 n) (committed_view d 0) s
      seen = shows (ivfc4 n) (committed_view d 0) s (model_of calls).committed g.committed (whole calls).0

      begins_there : StartThere 0 st
      begins_there = record { has = record { container = c; opens = w.opens; there = one }; idle = start.idle }

      landed : Landed 0 (events calls st) (image kind n) s begins_there.has
      landed = demand3.landing.landed 0 st begins_there calls one-begin some-commit

      byte : (i : ℕ) → i < 0x1000 * n → content_of (committed_view d 0) s 4 i ≡ get_or (last_value 0 i (events calls st)) 0
      byte i p =
          ap (λ (x : Container). content_of (committed_view x 0) s 4 i) (one_container s d landed.new.container g.has.opens landed.new.opens)
          ∙ by (last_value 0 i (events calls st)) refl
        where
          by : (o : Option ℕ) → last_value 0 i (events calls st) ≡ o → content_of (committed_view landed.new.container 0) s 4 i ≡ get_or o 0
          by none e = landed.others i (omega (arith, size4)) e ∙ w.zero i p
          by (some value) e = landed.written i value e

  pub takes : Takes kind n
  takes = record {
    reads = reads;
    counts = counts;
    starts = start;
    begin = λ calls i. (demand3.progress st start.has.container start.has.opens start.idle calls).idle i;
    write = writes;
    commit = λ calls b. ((demand3.progress st start.has.container start.has.opens start.idle calls).begun b).0;
    back = back;
  }
