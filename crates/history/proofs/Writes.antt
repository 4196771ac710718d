-- What a write leaves: only free bytes differ, a staged table stays staged, the bytes are laid over the partition's staged version, and the
-- other partition's is as it was. Assumes nothing.
use Rattle.std.specs.Prelude.{Ok}
use mathlib.Core.Path.{◌≡◌, refl, sym, ap, ◌∙◌}
use mathlib.Core.Bool.{Bool, true, false, not, ◌||◌, cond, true≢false, or-true}
use mathlib.Core.List.{List, ◌∷◌}
use mathlib.Core.Logic.{◌⊎◌, inl, inr, ⊎_elim}
use mathlib.Core.Option
use mathlib.Core.Option.{none, some}
use Prim.Native.Nat.{ℕ, zero, suc, ◌+◌, ◌-◌, ◌≤◌, ◌<◌}
use native.Mathlib.Omega.{arith}
use lib.ListN.{length, get_or}
use lib.Seq.{sets, length-sets}
use lib.Dec.{eqb}
use borrow.Author.Tests.{eq-eqb}
use Rattle.number.specs.Blocks.{blocks, touches}
use Rattle.number.specs.Bytes.{bytes, within, overlay}
use Rattle.number.specs.Ranges.{Apart}
use Rattle.number.proofs.ListLaws.{length_bytes, get_d_bytes, bytes_is}
use Rattle.number.proofs.OverlayLaws.{within_in}
use Rattle.number.proofs.FrameLaws.{keeps_more}
use Rattle.layout.specs.declared.Container.{Container}
use Rattle.layout.specs.Tables.{inactive}
use Rattle.layout.specs.Opening.{opened}
use Rattle.layout.specs.Guarantees.{Guarantees}
use Rattle.layout.proofs.GuaranteeLaws.{guarantees}
use Rattle.dpfs.specs.Free.{InRange}
use Rattle.ivfc.specs.declared.View.{View}
use Rattle.ivfc.specs.Views.{content_of, verified}
use Rattle.update.specs.Staged.{written_to, holds_zero}
use Rattle.update.specs.Rules.{WriteRules}
use Rattle.update.specs.Rules as update
use Rattle.update.proofs.ImageLaws.{write_stores, write_bytes, write_verified, write_other, write_table}
use Rattle.views.specs.Places.{partitions, slot_of, partition_of, tree_of, view_in, master_in, staged_view, space_of}
use Rattle.steps.proofs.WriteLaws.{write_rules}
use Rattle.views.proofs.PlaceLaws.{second_there, third_missing, staged_rules, staged_master, tree_among}
use Rattle.steps.specs.Sessions.{staged_table, in_master, in_some_master, table_staged, write_outcome}
use Rattle.history.specs.Model.{marked, laid_over}
use Rattle.views.specs.Versions.{flags, version_of}
use Rattle.views.specs.Protected.{ExternalByte, Protected}
use Rattle.views.proofs.ProtectedLaws.{protected_not_free, same_or_apart, external_inside}
use Rattle.history.specs.External.{InPlace}
use Rattle.history.proofs.Agreeing.{LeftBut}
use Rattle.views.proofs.FlagLaws.{flags_cong}
use Rattle.history.proofs.CallLaws.{WriteLaws}
use Rattle.history.proofs.LaidLaws.{put_bytes}
use Rattle.history.proofs.Seen.{SameSeen, same_version}
use Rattle.history.proofs.Outers.{place_outer, staged_stays}
use Rattle.history.proofs.Tables.{place_of, descriptors_apart_lem, trees_apart, staged_byte, in_table}
use Rattle.steps.proofs.BelowLaws.{below_all}

-- ---- the version, byte by byte and block by block

marked_flags : (T P : ℕ → Bool) (b n : ℕ) → marked T b (flags P b n) ≡ flags (λ (k : ℕ). T k || P k) b n
unfolding marked flags
marked_flags T P b zero = refl
marked_flags T P b (suc n) = ap (λ (l : List Bool). (T b || P b) ∷ l) (marked_flags T P (suc b) n)

picked : (t : Bool) (a d : ℕ) → Option.get_or (cond t (some a) none) d ≡ cond t a d
picked true a d = refl
picked false a d = refl

version_laid : (view : View) (image after : List ℕ) (place : ℕ) (values : List ℕ)
    → ((y : ℕ) → y < view.level4.size → content_of view after 4 y ≡ overlay (content_of view image 4) place values y)
    → ((b : ℕ) → b < blocks view.level4 → verified view after 4 b ≡ (touches view.level4 place (length values) b || verified view image 4 b))
    → version_of view after ≡ laid_over place values (version_of view image)
unfolding version_of laid_over overlay
version_laid view image after place values same blocked =
    let n = view.level4.size in
    let f = content_of view image 4 in
    let old = bytes f 0 n in
    let size : length old ≡ n = length_bytes f 0 n in
    let one : bytes (content_of view after 4) 0 n ≡ sets old place values =
    bytes_is (content_of view after 4) 0 n (sets old place values) (length-sets old place values ∙ size) (λ k h.
    let z : 0 + k ≡ k = omega arith in
    ap (content_of view after 4) z ∙ same k h
    ∙ ap (λ (x : ℕ). cond (within place (length values) k) (get_or values (k - place) 0) x) (sym (get_d_bytes f 0 n k h ∙ ap f z))
    ∙ sym (picked (within place (length values) k) (get_or values (k - place) 0) (get_or old k 0))
    ∙ sym (put_bytes (some (record { place = place; bytes = values })) (version_of view image) k (omega arith))) in
    let two : flags (verified view after 4) 0 (blocks view.level4) ≡ marked (touches view.level4 place (length values)) 0 (flags (verified view image 4) 0 (blocks view.level4)) =
    flags_cong (verified view after 4) (λ (b : ℕ). touches view.level4 place (length values) b || verified view image 4 b) 0 (blocks view.level4)
    (λ k h. blocked (0 + k) (omega arith))
    ∙ sym (marked_flags (touches view.level4 place (length values)) (verified view image 4) 0 (blocks view.level4)) in
    λ i. record { level = view.level4; bytes = one i; verified = two i }

module _ (image : List ℕ) (c : Container) (o : opened image ≡ Ok c) (q place : ℕ) (values : List ℕ) (there : q < partitions c)
    (ok : write_outcome (staged_view c q) image place (length values) ≡ Ok tt) where
  g : Guarantees image c
  g = guarantees image c o

  abbrev after : List ℕ
  after = written_to (staged_view c q) place values image

  write : WriteRules (space_of c) (staged_view c q) image place values
  unfolding staged_view view_in
  write = write_rules image c o q there place values ok

  -- what is written in place is a part of the external level 4
  in_place : (i : ℕ) → update.InPlace (staged_view c q) place (length values) i → InPlace c q place (length values) i
  unfolding update.InPlace InPlace ExternalByte staged_view view_in
  in_place i (e, (a, b)) = let f = write.fits in (there, (e, (omega arith, omega arith)), (omega arith, omega arith))

  abbrev Written : ℕ → Type 0
  Written = InPlace c q place (length values)

  stores : LeftBut Written c image after
  stores = keeps_more (λ i. elim [ inl f ↦ inl f | inr x ↦ inr (in_place i x) ]) (write_stores (space_of c) (staged_view c q) image place values write)

  staged_same : staged_table c after ≡ staged_table c image
  staged_same = staged_stays image after c g Written (place_outer c q place (length values)) stores

  version : holds_zero (staged_view c q) place values after ≡ false → version_of (staged_view c q) after ≡ laid_over place values (version_of (staged_view c q) image)
  version z =
      version_laid (staged_view c q) image after place values (write_bytes (space_of c) (staged_view c q) image place values write)
      (write_verified (space_of c) (staged_view c q) image place values write z)

  -- ---- the inactive table

  -- the bytes of the staged master hash lie in a master hash
  in_master_lem : (i : ℕ) → InRange (staged_view c q).master ((inactive c.header).offset + i) → in_some_master c i ≡ true
  unfolding staged_view view_in master_in in_master
  in_master_lem i (a, b) = by q there (within_in ((slot_of c q).descriptor.offset + (partition_of c q).difi.master.offset) (partition_of c q).difi.master.size i (omega arith) (omega arith))
    where
      by : (r : ℕ) → r < partitions c → within ((slot_of c r).descriptor.offset + (partition_of c r).difi.master.offset) (partition_of c r).difi.master.size i ≡ true
          → in_some_master c i ≡ true
      by zero h e = rw e
      by (suc zero) h e = rw (e, eq-eqb (partitions c) 2 (second_there (length image) c.header g.header h)) (or-true (in_master c 0 i))
      by (suc (suc r)) h e = absurd (third_missing (length image) c.header g.header r h)

  table : table_staged c image ≡ true → table_staged c after ≡ true
  unfolding table_staged space_of
  table e =
      below_all (inactive c.header).size
      (λ (i : ℕ). in_some_master c i || eqb (get_or after ((inactive c.header).offset + i) 0) (get_or (staged_table c after) i 0))
      (λ i h. by i h (in_some_master c i) refl)
    where
      by : (i : ℕ) → i < (inactive c.header).size → (t : Bool) → in_some_master c i ≡ t
          → (t || eqb (get_or after ((inactive c.header).offset + i) 0) (get_or (staged_table c after) i 0)) ≡ true
      by i h true m = refl
      by i h false m =
          eq-eqb (get_or after ((inactive c.header).offset + i) 0) (get_or (staged_table c after) i 0)
          (write_table (space_of c) (staged_view c q) image place values write ((inactive c.header).offset + i) (in_table c i h)
          (λ f. true≢false (sym (in_master_lem i f) ∙ m))
          ∙ staged_byte image c g e i h m
          ∙ ap (λ (x : List ℕ). get_or x i 0) (sym staged_same))

  -- ---- the other partition

  module _ (p : ℕ) (h : p < partitions c) (other : q ≡ p → ⊥) where
    -- its master hash lies in its own descriptor
    off_master : (y : ℕ) → y < (partition_of c p).difi.master.size
        → InRange (staged_view c q).master ((inactive c.header).offset + (slot_of c p).descriptor.offset + (partition_of c p).difi.master.offset + y) → ⊥
    unfolding staged_view view_in master_in
    off_master y l (a, b) =
        by (descriptors_apart_lem image c g q p there h other) (place_of image c g q there).described.guarantees.master_inside (place_of image c g p h).described.guarantees.master_inside
      where
        by : Apart (slot_of c q).descriptor (slot_of c p).descriptor
            → (partition_of c q).difi.master.offset + (partition_of c q).difi.master.size ≤ (slot_of c q).descriptor.size
            → (partition_of c p).difi.master.offset + (partition_of c p).difi.master.size ≤ (slot_of c p).descriptor.size → ⊥
        by (inl x) m n = omega arith
        by (inr x) m n = omega arith

    -- its external level 4 lies in its own partition
    other_outer : (partition_of c p).difi.external ≡ true → (y : ℕ) → y < (partition_of c p).ivfc.level4.size
        → get_or after ((slot_of c p).partition.offset + (partition_of c p).difi.outside + y) 0
        ≡ get_or image ((slot_of c p).partition.offset + (partition_of c p).difi.outside + y) 0
    unfolding Protected ExternalByte InPlace
    other_outer e y l =
        stores.bytes _
        (⊎_elim (protected_not_free image c g _ (inr (inr (inr (inl (p, h, (e, (omega arith, omega arith))))))))
        (λ w. by (same_or_apart image c g q p there h) (external_inside image c g q _ there w.1) (external_inside image c g p _ h (e, (omega arith, omega arith)))))
      where
        by : {i : ℕ} → (q ≡ p) ⊎ Apart (slot_of c q).partition (slot_of c p).partition → InRange (slot_of c q).partition i → InRange (slot_of c p).partition i → ⊥
        by (inl s) a b = other s
        by (inr (inl s)) a b = omega arith
        by (inr (inr s)) a b = omega arith

    seen : SameSeen (staged_view c p) (staged_view c p) after image
    unfolding staged_view view_in master_in space_of
    seen = record {
      masters = refl;
      level1 = refl;
      level2 = refl;
      level3 = refl;
      level4 = refl;
      external = refl;
      master = λ y l. let m = staged_master image c g p h in
          write_table (space_of c) (staged_view c q) image place values write _ (in_table y l m) (off_master y l);
      inner = write_other (space_of c) (staged_view c q) image place values write (tree_of c p) (tree_among image c g p h) (trees_apart image c g p q h there other) (not (tree_of c p).live);
      outer = λ e y l. other_outer e y l;
    }
      where
        in_table : (y : ℕ) → y < (partition_of c p).difi.master.size
            → ((inactive c.header).offset ≤ (staged_view c p).master.offset) × ((staged_view c p).master.offset + (staged_view c p).master.size ≤ (inactive c.header).offset + (inactive c.header).size)
            → InRange (space_of c).table ((inactive c.header).offset + (slot_of c p).descriptor.offset + (partition_of c p).difi.master.offset + y)
        in_table y l (a, b) = (omega arith, omega arith)

    others : version_of (staged_view c p) after ≡ version_of (staged_view c p) image
    others = same_version (staged_view c p) (staged_view c p) after image (length image) (staged_rules image c g p h) seen

  pub writes : WriteLaws c q place values image after
  writes = record { stores = stores; table = table; version = version; others = others }
