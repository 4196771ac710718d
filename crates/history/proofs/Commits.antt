-- What a commit leaves: an image that opens with the other table active, and whose committed views are what the staged ones were. Assumes
-- nothing.
use Rattle.std.specs.Prelude.{Ok, Option, Some, None}
use mathlib.Core.Path.{◌≡◌, refl, sym, ap, ◌∙◌, subst}
use mathlib.Core.Bool.{Bool, true, false, not, cond}
use mathlib.Core.List.{List}
use mathlib.Core.Logic.{◌⊎◌, inl, inr}
use Prim.Native.Nat.{ℕ, zero, suc, ◌+◌, ◌-◌, ◌≤◌, ◌<◌}
use native.Mathlib.Omega.{arith}
use native.Mathlib.Decide.{dec_lt}
use lib.ListN.{length, get_or}
use lib.Dec.{eqb}
use borrow.Author.Tests.{eqb-true}
use Rattle.number.specs.declared.Level.{Level}
use Rattle.number.specs.declared.Range.{Range}
use Rattle.number.specs.Ranges.{part}
use Rattle.number.specs.Bytes.{Outside, same_bytes}
use Rattle.number.specs.Frame.{Keeps}
use Rattle.number.proofs.ListLaws.{part_same, same_refl}
use Rattle.sha256.specs.Sha256.{sha256}
use Rattle.sha256.proofs.Laws.{length_sha256}
use Rattle.layout.specs.declared.Container.{Container}
use Rattle.layout.specs.declared.Difi.{Difi}
use Rattle.layout.specs.declared.Partition.{Partition}
use Rattle.layout.specs.declared.Slot.{Slot}
use Rattle.layout.specs.Headers.{front, header_bytes, hash_range, judged_header}
use Rattle.layout.specs.Tables.{active, inactive, table_matches}
use Rattle.layout.specs.Descriptors.{difi_fields, partition_fields}
use Rattle.layout.specs.Opening.{opened, judged_slot}
use Rattle.limits.specs.Limits.{length_allowed}
use Rattle.layout.specs.Guarantees.{PartitionGuarantees, Guarantees}
use Rattle.layout.proofs.HeaderLaws.{header_checked}
use Rattle.layout.proofs.GuaranteeLaws.{SecondChecks, checked, opens, partition_checked, guarantees}
use Rattle.dpfs.specs.Tree.{place, level_byte, select1, select2, select3, content}
use Rattle.dpfs.specs.Free.{InRange}
use Rattle.dpfs.proofs.SpareLaws.{Avoids, avoided_content}
use Rattle.ivfc.specs.declared.View.{View}
use Rattle.views.specs.Places.{partitions, second_or, slot_of, partition_of, tree_in, tree_of, master_in, view_in, committed_view, staged_view}
use Rattle.views.proofs.PlaceLaws.{first_there, inactive_table, tree_inside, tree_rules, staged_rules, staged_master}
use Rattle.steps.specs.Sessions.{staged_table, in_some_master, table_staged}
use Rattle.commits.specs.Committing.{header_committed}
use Rattle.views.specs.Versions.{version_of}
use Rattle.history.proofs.CallLaws.{Headed, CommitLaws}
use Rattle.history.proofs.Seen.{SameSeen, same_version}
use Rattle.history.proofs.Flips.{partition_flipped, Restaged, flipped_judged, header_flipped, reheaded_hash, flipped_header}
use Rattle.history.proofs.Tables.{byte_of, place_of, off_masters, off_selectors, active_bytes, staged_other, staged_own, not_in_master, staged_byte}
use Rattle.layout.proofs.TableLaws.{part_length}
use Rattle.history.proofs.Units.{header_size}

-- the container that is opened afterwards: the flag and each partition's selector are flipped
abbrev second_flipped : Option Partition → Option Partition
second_flipped None = None
second_flipped (Some b) = Some (partition_flipped b)

abbrev pub switched : Container → Container
switched c = record { header = header_flipped c.header; a = partition_flipped c.a; b = second_flipped c.b }

switched_partition : (c : Container) (q : ℕ) → partition_of (switched c) q ≡ partition_flipped (partition_of c q)
unfolding partition_of
switched_partition c q = by (eqb q 0) c.b
  where
    by : (t : Bool) (b : Option Partition) → cond t (partition_flipped c.a) (second_or (partition_flipped c.a) (second_flipped b)) ≡ partition_flipped (cond t c.a (second_or c.a b))
    by true b = refl
    by false None = refl
    by false (Some b) = refl

other_table : (flag : ℕ) (primary secondary : Range) → (flag ≡ 0) ⊎ (flag ≡ 1)
    → cond (eqb (1 - flag) 0) primary secondary ≡ cond (eqb flag 0) secondary primary
other_table flag primary secondary (inl e) = rw e
other_table flag primary secondary (inr e) = rw e

other_half : (selector : ℕ) → selector ≤ 1 → eqb (1 - selector) 1 ≡ not (eqb selector 1)
other_half selector h = by (zero_or_one selector h)
  where
    zero_or_one : (n : ℕ) → n ≤ 1 → (n ≡ 0) ⊎ (n ≡ 1)
    zero_or_one zero h = inl refl
    zero_or_one (suc n) h = inr (omega arith)

    by : (selector ≡ 0) ⊎ (selector ≡ 1) → eqb (1 - selector) 1 ≡ not (eqb selector 1)
    by (inl e) = rw e
    by (inr e) = rw e

module _ (image : List ℕ) (c : Container) (o : opened image ≡ Ok c) (staged : table_staged c image ≡ true)
    (after : List ℕ) (headed : Headed c image after) where
  g : Guarantees image c
  g = guarantees image c o

  abbrev S : List ℕ
  S = part image (inactive c.header)

  -- ---- the bytes

  after_keeps : Keeps (InRange front) image after
  after_keeps = record { size = headed.size; bytes = λ i f. headed.rest i (past_front i f) }
    where
      past_front : (i : ℕ) → (InRange front i → ⊥) → 0x200 ≤ i
      past_front i f = by (dec_lt i 0x200)
        where
          by : Dec (i < 0x200) → 0x200 ≤ i
          by (yes l) = absurd (f (omega arith, l))
          by (no l) = omega arith

  after_table_lem : part after (inactive c.header) ≡ S
  unfolding part
  after_table_lem =
      let p = (inactive_table image c g).past in
      part_same after image (inactive c.header).offset (inactive c.header).size headed.size (λ i l m. headed.rest i (omega arith))

  -- ---- opening

  table_flipped : active (header_flipped c.header) ≡ inactive c.header
  unfolding active inactive
  table_flipped = other_table c.header.flag c.header.primary c.header.secondary g.header.flag

  header_good : judged_header (length after) (header_bytes after) ≡ Ok (header_flipped c.header)
  unfolding header_committed
  header_good =
      ap (λ (n : ℕ). judged_header n (header_bytes after)) headed.size ∙ ap (judged_header (length image)) headed.header
      ∙ flipped_header (length image) (header_bytes image) (sha256 S) c.header (header_size image c g) (length_sha256 S)
      (header_checked (length image) (header_bytes image) c.header (checked image c o).header)

  hash_good : table_matches c.header.kind (header_bytes after) S ≡ true
  unfolding table_matches header_committed
  hash_good =
      ap (λ (x : List ℕ). same_bytes (part x (hash_range c.header.kind)) (sha256 S)) headed.header
      ∙ ap (λ (x : List ℕ). same_bytes x (sha256 S))
      (reheaded_hash c.header.kind (1 - c.header.flag) (sha256 S) (header_bytes image) (header_size image c g) (length_sha256 S))
      ∙ same_refl (sha256 S)

  -- each descriptor
  module _ (q : ℕ) (h : q < partitions c) where
    abbrev slot : Slot
    slot = slot_of c q

    abbrev p : Partition
    p = partition_of c q

    abbrev A : List ℕ
    A = part image (active c.header)

    inside : slot.descriptor.offset + slot.descriptor.size ≤ c.header.primary.size
    inside = (place_of image c g q h).slot.descriptor_inside

    described_as : p ≡ partition_fields (part A slot.descriptor)
    described_as = (place_of image c g q h).described.fields

    rules : PartitionGuarantees slot.partition.size slot.descriptor.size p
    rules = (place_of image c g q h).described.guarantees

    difi_as : difi_fields (part A slot.descriptor) ≡ p.difi
    unfolding partition_fields
    difi_as = sym (ap (λ (x : Partition). x.difi) described_as)

    staged_size : length S ≡ c.header.primary.size
    staged_size = let t = inactive_table image c g in part_length image (inactive c.header) t.inside ∙ t.size

    old_size : length (part A slot.descriptor) ≡ slot.descriptor.size
    old_size = let n = active_bytes image c g in let i = inside in part_length A slot.descriptor (omega arith)

    new_byte : (j : ℕ) → j < slot.descriptor.size → in_some_master c (slot.descriptor.offset + j) ≡ false
        → get_or (part S slot.descriptor) j 0 ≡ get_or (staged_table c image) (slot.descriptor.offset + j) 0
    new_byte j l m =
        let i = inside in
        let t = (inactive_table image c g).size in
        byte_of S slot.descriptor j l
        ∙ byte_of image (inactive c.header) (slot.descriptor.offset + j) (omega arith)
        ∙ staged_byte image c g staged (slot.descriptor.offset + j) (omega arith) m

    clear : (j : ℕ) → j < slot.descriptor.size → Outside p.difi.master.offset p.difi.master.size j → in_some_master c (slot.descriptor.offset + j) ≡ false
    clear j l m = not_in_master image c g (slot.descriptor.offset + j) (off_masters image c g q h j l m)

    restaged : Restaged (part A slot.descriptor) (part S slot.descriptor)
    unfolding difi_fields
    restaged =
        let n = old_size in
        let t = staged_size in
        let i = inside in
        let d = rules.difi_inside in
        let m = rules.master_difi in
        record {
          size = part_length S slot.descriptor (omega arith) ∙ sym n;
          selector = new_byte 0x39 (omega arith) (clear 0x39 (omega arith) (inl (omega arith))) ∙ staged_own image c g q h
              ∙ ap (λ (x : Difi). 1 - x.selector) (sym difi_as);
          rest = λ j l ne out. let k : j < slot.descriptor.size = omega arith in
              new_byte j k (clear j k (subst (λ (x : Difi). Outside x.master.offset x.master.size j) difi_as out))
              ∙ staged_other image c g (slot.descriptor.offset + j) (off_selectors image c g q h j k ne) ∙ sym (byte_of A slot.descriptor j k);
        }

    judged_flipped : judged_slot A slot ≡ Ok p → judged_slot S slot ≡ Ok (partition_flipped p)
    judged_flipped e =
        let k = partition_checked slot.partition.size (part A slot.descriptor) p e in
        let f = described_as in
        flipped_judged slot.partition.size (part A slot.descriptor) (part S slot.descriptor) restaged
        (rw f at k.form) (rw f at k.places)
        (subst (λ (n : ℕ). PartitionGuarantees slot.partition.size n (partition_fields (part A slot.descriptor))) (sym old_size) (rw f at rules))
        ∙ ap (λ (x : Partition). Ok (partition_flipped x)) (sym f)

  first_good : judged_slot S c.header.a ≡ Ok (partition_flipped c.a)
  unfolding slot_of partition_of
  first_good = judged_flipped 0 (first_there (length image) c.header g.header) (checked image c o).table.first

  second_flipped_lem : (b : Partition) → c.b ≡ Some b → eqb c.header.count 2 ≡ true → judged_slot (part image (active c.header)) c.header.b ≡ Ok b
      → judged_slot S c.header.b ≡ Ok (partition_flipped b)
  unfolding slot_of partition_of
  second_flipped_lem b e two k =
      let q : second_or c.a c.b ≡ b = ap (second_or c.a) e in
      let n = eqb-true c.header.count 2 two in
      judged_flipped 1 (omega arith) (k ∙ ap Ok (sym q)) ∙ ap (λ (x : Partition). Ok (partition_flipped x)) q

  second_good : SecondChecks S (header_flipped c.header) (second_flipped c.b)
  second_good = by c.b refl (checked image c o).table.second
    where
      by : (b : Option Partition) → c.b ≡ b → SecondChecks (part image (active c.header)) c.header b → SecondChecks S (header_flipped c.header) (second_flipped b)
      by None e k = k
      by (Some b) e (two, k) = (two, second_flipped_lem b e two k)

  pub after_opens : opened after ≡ Ok (switched c)
  after_opens =
      let t : part after (active (header_flipped c.header)) ≡ S = ap (part after) table_flipped ∙ after_table_lem in
      opens after (switched c) (record {
        size = ap length_allowed headed.size ∙ (checked image c o).size;
        header = header_good;
        table = record {
          same = refl;
          matches = ap (table_matches c.header.kind (header_bytes after)) t ∙ hash_good;
          first = ap (λ (x : List ℕ). judged_slot x c.header.a) t ∙ first_good;
          second = subst (λ (x : List ℕ). SecondChecks x (header_flipped c.header) (second_flipped c.b)) (sym t) second_good;
        };
      })

  -- ---- the views

  module _ (q : ℕ) (h : q < partitions c) where
    past : 0x200 ≤ (slot_of c q).partition.offset
    past = (place_of image c g q h).slot.partition_front

    avoids : Avoids (InRange front) (tree_of c q)
    unfolding place
    avoids =
        let t = tree_inside image c g q h in
        let one = t.level1.0 in
        let two = t.level2.0 in
        let three = t.level3.0 in
        record {
          level1 = λ second y l f. over (tree_of c q).level1 second y f one;
          level2 = λ second y l f. over (tree_of c q).level2 second y f two;
          level3 = λ second y l f. over (tree_of c q).level3 second y f three;
        }
      where
        over : (l : Level) (second : Bool) (y : ℕ) → InRange front (place l second y) → (slot_of c q).partition.offset ≤ l.offset → ⊥
        over l second y (a, b) k = let p = past in omega arith

    -- a tree's content does not depend on which half is live
    tree_flipped : (s : List ℕ) (half : Bool) (z : ℕ) → content (tree_in (slot_of c q) (partition_flipped (partition_of c q))) s half z ≡ content (tree_of c q) s half z
    unfolding content level_byte select3 select2 select1 tree_in
    tree_flipped s half z = refl

    half_flipped : (tree_in (slot_of c q) (partition_flipped (partition_of c q))).live ≡ not (tree_of c q).live
    unfolding tree_in
    half_flipped = other_half (partition_of c q).difi.selector (place_of image c g q h).described.guarantees.selector

    abbrev new_view : View
    new_view = view_in (inactive c.header) (slot_of c q) (partition_flipped (partition_of c q)) (not (tree_of c q).live)

    view_flipped : committed_view (switched c) q ≡ new_view
    unfolding committed_view slot_of
    view_flipped =
        ap (λ (x : Partition). view_in (active (header_flipped c.header)) (slot_of c q) x (tree_in (slot_of c q) x).live) (switched_partition c q)
        ∙ ap (λ (r : Range). view_in r (slot_of c q) (partition_flipped (partition_of c q)) (tree_in (slot_of c q) (partition_flipped (partition_of c q))).live) table_flipped
        ∙ ap (view_in (inactive c.header) (slot_of c q) (partition_flipped (partition_of c q))) half_flipped

    seen : SameSeen (staged_view c q) new_view image after
    unfolding staged_view view_in master_in
    seen = record {
      masters = refl;
      level1 = refl;
      level2 = refl;
      level3 = refl;
      level4 = refl;
      external = refl;
      master = λ y l. let m = (staged_master image c g q h).0 in let t = (inactive_table image c g).past in sym (headed.rest _ (omega arith));
      inner = λ z l. sym (tree_flipped after (not (tree_of c q).live) z
          ∙ avoided_content (tree_of c q) (length image) (tree_rules image c g q h) (InRange front) image after avoids after_keeps (not (tree_of c q).live) z l);
      outer = λ e y l. let p = past in sym (headed.rest _ (omega arith));
    }

    version_switched : version_of (committed_view (switched c) q) after ≡ version_of (staged_view c q) image
    version_switched =
        ap (λ (v : View). version_of v after) view_flipped
        ∙ sym (same_version (staged_view c q) new_view image after (length image) (staged_rules image c g q h) seen)

pub commits : (image : List ℕ) (c : Container) → opened image ≡ Ok c → table_staged c image ≡ true
    → (after : List ℕ) → Headed c image after → CommitLaws c image after
commits image c o t after w = record {
  container = switched c;
  opens = after_opens image c o t after w;
  kind = refl;
  count = refl;
  internal = λ q h. ap (λ (p : Partition). p.difi.external) (switched_partition c q);
  version = version_switched image c o t after w;
}
