-- Power failure where level 4 may be external, from the frame: what an image that is left answers. Assumes nothing.
use Rattle.std.specs.Prelude.{Ok, Err}
use mathlib.Core.Path.{◌≡◌, refl, sym, ap, ◌∙◌, subst}
use mathlib.Core.Bool.{Bool, true, false, cond}
use mathlib.Core.List.{List, [], ◌∷◌}
use mathlib.Core.Logic.{◌⊎◌, inl, inr, ◌↔◌}
use mathlib.Core.Option.{some}
use Prim.Native.Nat.{ℕ, zero, suc, ◌+◌, ◌≤◌, ◌<◌}
use native.Mathlib.Omega.{arith}
use lib.ListN.{length}
use lib.Dec.{ltb}
use borrow.Author.Tests.{ltb-true}
use Rattle.number.specs.declared.Level.{Level}
use Rattle.number.specs.Ranges.{Apart}
use Rattle.number.specs.Blocks.{blocks, block_of, touches}
use Rattle.number.proofs.ListLaws.{length_bytes, get_d_bytes}
use Rattle.number.proofs.BlockLaws.{touches_byte}
use Rattle.layout.specs.declared.Container.{Container}
use Rattle.layout.specs.declared.Refusal.TheVariants.{NoPartition}
use Rattle.layout.specs.Opening.{opened}
use Rattle.layout.specs.Guarantees.{Guarantees}
use Rattle.layout.proofs.GuaranteeLaws.{guarantees}
use Rattle.layout.proofs.FrameLaws.{agree_part}
use Rattle.layout.specs.Headers.{header_bytes}
use Rattle.signatures.specs.Signatures.{signature_range}
use Rattle.dpfs.specs.Free.{InRange}
use Rattle.ivfc.specs.Views.{level_of, content_of, verified}
use Rattle.views.specs.Places.{partitions, slot_of, partition_of, view_in, committed_view}
use Rattle.views.specs.Protected.{ExternalByte}
use Rattle.steps.specs.Reading.{read_from, verdict_on, count_in}
use Rattle.steps.specs.Calls.{unread, read_in, read_committed, verified_in, is_verified, count_verified_in, count_verified}
use Rattle.history.specs.Model.{read_of, judged_of, count_true, Form, Plain, Signed, Event}
use Rattle.views.specs.Versions.{Version, version_of}
use Rattle.history.specs.Run.{opened_as}
use Rattle.faults.specs.declared.Fault.{Fault}
use Rattle.faults.specs.Faults.{faults_of, faults_in, faults, count_faults_in, count_faults}
use Rattle.faults.specs.Laws.{Listed, IsBlock}
use Rattle.faults.proofs.LevelLaws.{faults_cong}
use Rattle.faults.proofs.LawsHold.{listed_is}
use Rattle.save.specs.Calls.{holds_save}
use Rattle.save.proofs.CallLaws.{holds_one, holds_internal}
use Rattle.history.proofs.NameLaws.{names_same, file_same}
use Rattle.history.specs.External.{stored_by, InPlace, InPlaceBy, InPlaceOf, TouchedBy, TouchedOf, Untouched, SameAnswersBut, InPlaceTheorem, OneShape, AlikeIn}
use Rattle.history.proofs.Agreeing.{LeftBut, agrees_left}
use Rattle.history.proofs.Alike.{Sized, committed_sized, view_level, same_of_alike, read_alike, judged_alike}
use Rattle.history.proofs.VersionLaws.{read_version, judged_version, count_version}
use Rattle.views.proofs.FlagLaws.{length_flags, get_d_flags}
use Rattle.views.proofs.ProtectedLaws.{never_both, same_or_apart, external_inside}
use Rattle.history.proofs.Outers.{Outer, front_stays, header_stays, still_opens, internal_stays, entries_stay, byte_stays, hash_stays, block_stays}
use Rattle.history.proofs.Signing.{same_signed, same_signature}

-- ---- the bytes that a list put in place

pub in_place_outer : (c : Container) (list : List Event) → Outer c (InPlaceOf c list)
unfolding InPlaceOf InPlace
in_place_outer c [] i w = absurd w
in_place_outer c (e ∷ rest) i (inl (q, put, p, (h, x, r))) = (q, h, x)
in_place_outer c (e ∷ rest) i (inr w) = in_place_outer c rest i w

module _ (image : List ℕ) (c : Container) (g : Guarantees image c) (q : ℕ) (k : q < partitions c) (external : (partition_of c q).difi.external ≡ true)
    (y : ℕ) (l : y < (partition_of c q).ivfc.level4.size) where
  abbrev at : ℕ
  at = (slot_of c q).partition.offset + (partition_of c q).difi.outside + y

  own_byte : ExternalByte c q at
  unfolding ExternalByte
  own_byte = (external, (omega arith, omega arith))

  -- they touch the block of each
  touched_by_lem : (e : Event) → InPlaceBy c e at → TouchedBy q (partition_of c q).ivfc.level4 e (block_of (partition_of c q).ivfc.level4 y)
  unfolding InPlace
  touched_by_lem e (r, put, p, (h, x, range)) = by (same_or_apart image c g r q h k)
    where
      by : (r ≡ q) ⊎ Apart (slot_of c r).partition (slot_of c q).partition → TouchedBy q (partition_of c q).ivfc.level4 e (block_of (partition_of c q).ivfc.level4 y)
      by (inl s) =
          let range' : InRange (record { offset = (slot_of c q).partition.offset + (partition_of c q).difi.outside + put.place; size = length put.bytes }) at =
          subst (λ (z : ℕ). InRange (record { offset = (slot_of c z).partition.offset + (partition_of c z).difi.outside + put.place; size = length put.bytes }) at) s range in (
            put,
            subst (λ (z : ℕ). stored_by z e ≡ some put) s p,
            (touches_byte (partition_of c q).ivfc.level4 put.place (length put.bytes) (block_of (partition_of c q).ivfc.level4 y)).1 (y, omega arith, omega arith, refl),
          )
      by (inr a) = absurd (never_both (slot_of c r).partition (slot_of c q).partition at a (external_inside image c g r at h x) (external_inside image c g q at k own_byte))

  pub touched_of : (list : List Event) → InPlaceOf c list at → TouchedOf q (partition_of c q).ivfc.level4 list (block_of (partition_of c q).ivfc.level4 y)
  unfolding InPlaceOf TouchedOf
  touched_of [] w = w
  touched_of (e ∷ rest) (inl w) = inl (touched_by_lem e w)
  touched_of (e ∷ rest) (inr w) = inr (touched_of rest w)

-- ---- what is left

module _ (image left : List ℕ) (c : Container) (list : List Event) (o : opened image ≡ Ok c) (k : LeftBut (InPlaceOf c list) c image left) where
  g : Guarantees image c
  g = guarantees image c o

  abbrev W : ℕ → Type 0
  W = InPlaceOf c list

  o' : opened left ≡ Ok c
  o' = still_opens image left c g W (in_place_outer c list) k o

  module _ (q : ℕ) (h : q < partitions c) where
    abbrev old : Version
    old = version_of (committed_view c q) image

    abbrev new : Version
    new = version_of (committed_view c q) left

    pub shape : OneShape new old
    unfolding version_of
    shape = record {
      level = refl;
      sizes = length_bytes _ 0 _ ∙ sym (length_bytes _ 0 _);
      counts = length_flags _ 0 _ ∙ sym (length_flags _ 0 _);
    }

    off : (b : ℕ) → Untouched c list q b → (y : ℕ) → y < (committed_view c q).level4.size → block_of (committed_view c q).level4 y ≡ b → (committed_view c q).external ≡ true
        → W ((committed_view c q).outside + y) → ⊥
    unfolding committed_view view_in
    off b u y l e t w =
        u t (subst (TouchedOf q (partition_of c q).ivfc.level4 list) e (touched_of image c g q h t y l list w))

    pub alike : (b : ℕ) → b < blocks (committed_view c q).level4 → Untouched c list q b → AlikeIn b new old
    unfolding version_of
    alike b m u = record {
      bytes = λ y l e.
          let z : y < (committed_view c q).level4.size = rw (length_bytes (content_of (committed_view c q) image 4) 0 (committed_view c q).level4.size) at l in
          let n : 0 + y ≡ y = omega arith in
          get_d_bytes (content_of (committed_view c q) left 4) 0 (committed_view c q).level4.size y z ∙ ap (content_of (committed_view c q) left 4) n
          ∙ byte_stays image left c g W (in_place_outer c list) k q h y z (off b u y z e)
          ∙ sym (get_d_bytes (content_of (committed_view c q) image 4) 0 (committed_view c q).level4.size y z ∙ ap (content_of (committed_view c q) image 4) n);
      verified =
          let n : 0 + b ≡ b = omega arith in
          get_d_flags (verified (committed_view c q) left 4) 0 (blocks (committed_view c q).level4) b m ∙ ap (verified (committed_view c q) left 4) n
          ∙ block_stays image left c g W (in_place_outer c list) k q h b m (off b u)
          ∙ sym (get_d_flags (verified (committed_view c q) image 4) 0 (blocks (committed_view c q).level4) b m ∙ ap (verified (committed_view c q) image 4) n);
    }

    sized : Sized new (partition_of c q).ivfc.level4
    sized = committed_sized left c q

    within : (b : ℕ) → Untouched c list q b → b < blocks (partition_of c q).ivfc.level4 → AlikeIn b new old
    within b u m = alike b (subst (λ (l : Level). b < blocks l) (sym (view_level c q)) m) u

    read_within : (place : ℕ) (buffer : List ℕ) → ((b : ℕ) → touches (partition_of c q).ivfc.level4 place (length buffer) b ≡ true → Untouched c list q b)
        → read_of new place buffer ≡ read_of old place buffer
    read_within place buffer u = read_alike new old (partition_of c q).ivfc.level4 shape sized place buffer (λ b m t. within b (u b t) m)

    judged_within : (b : ℕ) → Untouched c list q b → judged_of new b ≡ judged_of old b
    judged_within b u = judged_alike new old (partition_of c q).ivfc.level4 shape sized b (within b u)

    count_within : ((b : ℕ) → Untouched c list q b) → count_true new.verified ≡ count_true old.verified
    count_within u = ap (λ (v : Version). count_true v.verified) (same_of_alike new old (partition_of c q).ivfc.level4 shape sized (λ b. within b (u b)))

    -- each block of a hash level is verified exactly if it was, and so is each of level 4 that the list did not write to in place
    verified_within : (i b : ℕ) → (i ≡ 4 → Untouched c list q b) → i ≤ 4 → b < blocks (level_of (committed_view c q) i)
        → verified (committed_view c q) left i b ≡ verified (committed_view c q) image i b
    unfolding level_of
    verified_within zero b u m l = hash_stays image left c g W (in_place_outer c list) k q h zero b (omega arith) l
    verified_within (suc zero) b u m l = hash_stays image left c g W (in_place_outer c list) k q h 1 b (omega arith) l
    verified_within (suc (suc zero)) b u m l = hash_stays image left c g W (in_place_outer c list) k q h 2 b (omega arith) l
    verified_within (suc (suc (suc zero))) b u m l = hash_stays image left c g W (in_place_outer c list) k q h 3 b (omega arith) l
    verified_within (suc (suc (suc (suc zero)))) b u m l = block_stays image left c g W (in_place_outer c list) k q h b l (off b (u refl))
    verified_within (suc (suc (suc (suc (suc i))))) b u m l = absurd (omega arith)

  same_faults : ((q b : ℕ) → Untouched c list q b) → faults_of c left ≡ faults_of c image
  same_faults u = faults_cong c left image (λ q i b h m l. verified_within q h i b (λ _. u q b) m l)

  same_fault : (f : Fault) → (f.level ≡ 4 → Untouched c list f.partition f.block) → Listed f (faults left) ↔ Listed f (faults image)
  same_fault f u = (
    λ x. let (b, e) = (listed_is left c o' f).0 x in (listed_is image c o f).1 (b, sym (same b) ∙ e),
    λ x. let (b, e) = (listed_is image c o f).0 x in (listed_is left c o' f).1 (b, same b ∙ e),
  )
    where
      same : IsBlock c f → verified (committed_view c f.partition) left f.level f.block ≡ verified (committed_view c f.partition) image f.level f.block
      same (h, _, m, l) = verified_within f.partition h f.level f.block u m l

  -- a save's level 4 is internal
  same_save : holds_save c ≡ true → version_of (committed_view c 0) left ≡ version_of (committed_view c 0) image
  unfolding committed_view view_in
  same_save h =
      internal_stays image left c g W (in_place_outer c list) k 0 (omega (arith, holds_one c h)) (holds_internal c h (committed_view c 0) refl)

  pub answers : SameAnswersBut c list image left
  unfolding read_committed is_verified count_verified count_faults faults
  answers = record {
    opening = same_opened;
    reads = λ q place buffer u. ap (read_in committed_view left q place buffer) o' ∙ reads q place buffer u (ltb q (partitions c)) refl ∙ sym (ap (read_in committed_view image q place buffer) o);
    questions = λ q b u. ap (verified_in left q b) o' ∙ questions q b u (ltb q (partitions c)) refl ∙ sym (ap (verified_in image q b) o);
    counts = λ q u. ap (count_verified_in left q) o' ∙ counts q u (ltb q (partitions c)) refl ∙ sym (ap (count_verified_in image q) o);
    faulty = same_fault;
    fault_count = λ u. ap (count_faults_in left) o' ∙ ap (λ (l : List Fault). Ok (length l)) (same_faults u) ∙ sym (ap (count_faults_in image) o);
    fault_list = λ u. ap (faults_in left) o' ∙ same_faults u ∙ sym (ap (faults_in image) o);
    signing = same_signed image left k.size header;
    names = names_same image c o left o' same_save;
    finds = file_same image c o left o' same_save;
  }
    where
      header : header_bytes left ≡ header_bytes image
      header = header_stays image left c g W (in_place_outer c list) k

      same_opened : (form : Form) → opened_as form left ≡ opened_as form image
      same_opened Plain = o' ∙ sym o
      same_opened (Signed key signer) =
          same_signature image left key signer (o' ∙ sym o) header
          (agree_part left image signature_range k.size (λ i a b. front_stays image left c g W (in_place_outer c list) k i (omega arith)))
          (same_signed image left k.size header signer)

      reads : (q place : ℕ) (buffer : List ℕ) → ((b : ℕ) → touches (partition_of c q).ivfc.level4 place (length buffer) b ≡ true → Untouched c list q b)
          → (t : Bool) → ltb q (partitions c) ≡ t
          → cond t (read_from (committed_view c q) left place buffer) (unread buffer NoPartition)
          ≡ cond t (read_from (committed_view c q) image place buffer) (unread buffer NoPartition)
      reads q place buffer u false e = refl
      reads q place buffer u true e =
          let h = ltb-true q (partitions c) e in
          read_version (committed_view c q) left place buffer ∙ read_within q h place buffer u ∙ sym (read_version (committed_view c q) image place buffer)

      questions : (q b : ℕ) → Untouched c list q b → (t : Bool) → ltb q (partitions c) ≡ t
          → cond t (verdict_on (committed_view c q) left b) (Err NoPartition)
          ≡ cond t (verdict_on (committed_view c q) image b) (Err NoPartition)
      questions q b u false e = refl
      questions q b u true e =
          let h = ltb-true q (partitions c) e in
          judged_version (committed_view c q) left b ∙ judged_within q h b u ∙ sym (judged_version (committed_view c q) image b)

      counts : (q : ℕ) → ((b : ℕ) → Untouched c list q b) → (t : Bool) → ltb q (partitions c) ≡ t
          → cond t (count_in (committed_view c q) left) (Err NoPartition) ≡ cond t (count_in (committed_view c q) image) (Err NoPartition)
      counts q u false e = refl
      counts q u true e =
          let h = ltb-true q (partitions c) e in
          count_version (committed_view c q) left ∙ ap Ok (count_within q h u) ∙ sym (count_version (committed_view c q) image)

  pub entries : (q : ℕ) → q < partitions c → (i y : ℕ) → i ≤ 3 → y < (level_of (committed_view c q) i).size
      → content_of (committed_view c q) left i y ≡ content_of (committed_view c q) image i y
  entries q h = entries_stay image left c g W (in_place_outer c list) k q h

pub in_place_theorem : InPlaceTheorem
in_place_theorem = record { entries = λ image left c list o a. entries image left c list o (agrees_left (InPlaceOf c list) image left c o a) }
