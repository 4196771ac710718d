-- What a partition whose descriptor was not refused keeps to. Assumes nothing.
use Prim.Native.Nat.{ℕ, ◌+◌, ◌*◌, ◌%◌, ◌≤◌}
use mathlib.Core.Bool.{Bool, true, false, ◌&&◌, ◌||◌, not}
use mathlib.Core.List.{List, [], ◌∷◌}
use mathlib.Core.Path.{◌≡◌}
use native.Mathlib.Omega.{arith}
use lib.ListN.{length}
use lib.Dec.{leb}
use borrow.Author.Tests.{leb-true, eqb-true, le-leb}
use Rattle.number.specs.declared.Level.{Level}
use Rattle.number.specs.Ranges.{inside, placed, part}
use Rattle.number.specs.Blocks.{blocks}
use Rattle.number.proofs.Tests.{and_left, and_right}
use Rattle.number.proofs.RangeLaws.{Laid, laid, past_first_lem}
use Rattle.limits.specs.Limits.{difi_size, least_log, least_bits_log, most_log, word_size, entry_size, size_allowed, level_allowed}
use Rattle.layout.specs.Descriptors.{difi_allowed, ivfc_allowed, dpfs_allowed, readable, form_allowed, difi_range, pieces_placed, outer_ranges, inner_ranges, levels_placed, enough_bits, enough_entries, all_enough, places_allowed}
use Rattle.layout.specs.Guarantees.{LevelGuarantees, ExternalGuarantees, InternalGuarantees, PartitionGuarantees}
use Rattle.layout.specs.declared.Partition.{Partition}
use Rattle.layout.proofs.Rules.{Truths, truths}

-- ---- a level

pub size_some : (unit size : ℕ) → size_allowed unit size ≡ true → 1 ≤ size
unfolding size_allowed
size_some unit size e = leb-true 1 size (and_left (leb 1 size) _ e)

pub size_multiple : (unit size : ℕ) → size_allowed unit size ≡ true → size % unit ≡ 0
unfolding size_allowed
size_multiple unit size e = eqb-true (size % unit) 0 (and_right (leb 1 size) _ e)

pub level_guarantees : (unit least : ℕ) (l : Level) → level_allowed unit least l ≡ true → LevelGuarantees unit least l
unfolding level_allowed
level_guarantees unit least l e =
    let f = and_left (size_allowed unit l.size && leb least l.log) _ e in
    let s = and_left (size_allowed unit l.size) _ f in
    record {
      some = size_some unit l.size s;
      multiple = size_multiple unit l.size s;
      log_least = leb-true least l.log (and_right (size_allowed unit l.size) _ f);
      log_most = leb-true l.log most_log (and_right (size_allowed unit l.size && leb least l.log) _ e);
    }

-- a rule on a piece that is read
on_read : (r rule : Bool) → r ≡ true → not r || rule ≡ true → rule ≡ true
on_read true rule p e = e
on_read false rule p e = absurd (let z : ◌≡◌ {A = ℕ} 0 1 = cc in omega arith)

-- ---- the rules taken apart

module _ (size n : ℕ) (p : Partition) (e : places_allowed size n p ≡ true) where
  pieces : pieces_placed n p.difi ≡ true
  unfolding places_allowed
  pieces = and_left (pieces_placed n p.difi) _ (and_left (pieces_placed n p.difi && levels_placed size p) (all_enough p) e)

  levels : levels_placed size p ≡ true
  unfolding places_allowed
  levels = and_right (pieces_placed n p.difi) _ (and_left (pieces_placed n p.difi && levels_placed size p) (all_enough p) e)

  enough : all_enough p ≡ true
  unfolding places_allowed
  enough = and_right (pieces_placed n p.difi && levels_placed size p) (all_enough p) e

  outer : placed size (outer_ranges p) ≡ true
  unfolding levels_placed
  outer = and_left (placed size (outer_ranges p)) _ levels

  inner : placed p.dpfs.level3.size (inner_ranges p) ≡ true
  unfolding levels_placed
  inner = and_right (placed size (outer_ranges p)) _ levels

  pieces_laid : Laid n (difi_range ∷ p.difi.ivfc ∷ p.difi.dpfs ∷ p.difi.master ∷ [])
  unfolding pieces_placed
  pieces_laid = laid n (difi_range ∷ p.difi.ivfc ∷ p.difi.dpfs ∷ p.difi.master ∷ []) pieces

  outer_laid : Laid size (outer_ranges p)
  outer_laid = laid size (outer_ranges p) outer

  inner_laid : Laid p.dpfs.level3.size (inner_ranges p)
  inner_laid = laid p.dpfs.level3.size (inner_ranges p) inner

  external_laid : p.difi.external ≡ true → ExternalGuarantees size p
  external_laid x =
      let l = rw x at outer_laid in
      record {
        inside = l.1.1.1.0.ends;
        pair1 = l.0.apart.1.1.0;
        pair2 = l.1.0.apart.1.0;
        pair3 = l.1.1.0.apart.0;
      }

  internal_laid : p.difi.external ≡ false → InternalGuarantees p
  internal_laid x =
      let l = rw x at inner_laid in
      record {
        inside = l.1.1.1.0.ends;
        level1 = l.0.apart.1.1.0;
        level2 = l.1.0.apart.1.0;
        level3 = l.1.1.0.apart.0;
      }

  bits : Truths
      (leb (blocks p.dpfs.level2) (8 * p.dpfs.level1.size)
      ∷ leb (blocks p.dpfs.level3) (8 * p.dpfs.level2.size)
      ∷ leb (entry_size * blocks p.ivfc.level1) p.difi.master.size
      ∷ leb (entry_size * blocks p.ivfc.level2) p.ivfc.level1.size
      ∷ leb (entry_size * blocks p.ivfc.level3) p.ivfc.level2.size
      ∷ leb (entry_size * blocks p.ivfc.level4) p.ivfc.level3.size ∷ [])
  unfolding all_enough enough_bits enough_entries
  bits = truths _ enough

module _ (d : List ℕ) (p : Partition) (e : form_allowed d p ≡ true) where
  forms : Truths
      (difi_allowed d p.difi
      ∷ (not (readable (length d) p.difi.ivfc) || ivfc_allowed (part d p.difi.ivfc) p.difi.master.size p.ivfc)
      ∷ (not (readable (length d) p.difi.dpfs) || dpfs_allowed (part d p.difi.dpfs) p.dpfs) ∷ [])
  unfolding form_allowed
  forms = truths _ e

  ivfc_formed : p.difi.ivfc.offset + p.difi.ivfc.size ≤ length d → ivfc_allowed (part d p.difi.ivfc) p.difi.master.size p.ivfc ≡ true
  unfolding inside
  ivfc_formed h = on_read (readable (length d) p.difi.ivfc) _ (le-leb (p.difi.ivfc.offset + p.difi.ivfc.size) (length d) h) forms.1.0

  dpfs_formed : p.difi.dpfs.offset + p.difi.dpfs.size ≤ length d → dpfs_allowed (part d p.difi.dpfs) p.dpfs ≡ true
  unfolding inside
  dpfs_formed h = on_read (readable (length d) p.difi.dpfs) _ (le-leb (p.difi.dpfs.offset + p.difi.dpfs.size) (length d) h) forms.1.1.0

-- ---- all of it

pub partition_guarantees : (size : ℕ) (d : List ℕ) (p : Partition) → form_allowed d p ≡ true → places_allowed size (length d) p ≡ true
    → PartitionGuarantees size (length d) p
unfolding difi_allowed ivfc_allowed dpfs_allowed
partition_guarantees size d p form place =
    let l = pieces_laid size (length d) p place in
    let o = outer_laid size (length d) p place in
    let i = inner_laid size (length d) p place in
    let b = bits size (length d) p place in
    let difi = truths _ (forms d p form).0 in
    let ivfc = truths _ (ivfc_formed d p form l.1.0.ends) in
    let dpfs = truths _ (dpfs_formed d p form l.1.1.0.ends) in
    record {
      ivfc_sized = eqb-true _ _ difi.1.0;
      dpfs_sized = eqb-true _ _ difi.1.1.0;
      master_sized = difi.1.1.1.0;
      difi_inside = l.0.ends;
      ivfc_inside = l.1.0.ends;
      dpfs_inside = l.1.1.0.ends;
      master_inside = l.1.1.1.0.ends;
      ivfc_difi = past_first_lem difi_size p.difi.ivfc l.1.0.some l.0.apart.0;
      dpfs_difi = past_first_lem difi_size p.difi.dpfs l.1.1.0.some l.0.apart.1.0;
      master_difi = past_first_lem difi_size p.difi.master l.1.1.1.0.some l.0.apart.1.1.0;
      ivfc_dpfs = l.1.0.apart.0;
      ivfc_master = l.1.0.apart.1.0;
      dpfs_master = l.1.1.0.apart.0;
      selector = leb-true p.difi.selector 1 difi.1.1.1.1.0;
      ivfc1 = level_guarantees entry_size least_log p.ivfc.level1 ivfc.1.1.0;
      ivfc2 = level_guarantees entry_size least_log p.ivfc.level2 ivfc.1.1.1.0;
      ivfc3 = level_guarantees entry_size least_log p.ivfc.level3 ivfc.1.1.1.1.0;
      ivfc4 = level_guarantees 1 least_log p.ivfc.level4 ivfc.1.1.1.1.1.0;
      dpfs1_some = size_some word_size p.dpfs.level1.size dpfs.1.0;
      dpfs1_multiple = size_multiple word_size p.dpfs.level1.size dpfs.1.0;
      dpfs2 = level_guarantees word_size least_bits_log p.dpfs.level2 dpfs.1.1.0;
      dpfs3 = level_guarantees 1 least_log p.dpfs.level3 dpfs.1.1.1.0;
      pair1_inside = o.0.ends;
      pair2_inside = o.1.0.ends;
      pair3_inside = o.1.1.0.ends;
      pairs12 = o.0.apart.0;
      pairs13 = o.0.apart.1.0;
      pairs23 = o.1.0.apart.0;
      level1_inside = i.0.ends;
      level2_inside = i.1.0.ends;
      level3_inside = i.1.1.0.ends;
      levels12 = i.0.apart.0;
      levels13 = i.0.apart.1.0;
      levels23 = i.1.0.apart.0;
      external = external_laid size (length d) p place;
      internal = internal_laid size (length d) p place;
      bits2 = leb-true _ _ b.0;
      bits3 = leb-true _ _ b.1.0;
      entries1 = leb-true _ _ b.1.1.0;
      entries2 = leb-true _ _ b.1.1.1.0;
      entries3 = leb-true _ _ b.1.1.1.1.0;
      entries4 = leb-true _ _ b.1.1.1.1.1.0;
    }
