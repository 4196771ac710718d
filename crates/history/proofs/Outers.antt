-- An image that differs from another in free bytes and in some bytes of external level 4s only: it opens alike, with the same header and free bytes, the
-- same committed views of partitions without such a byte, and the same committed hash levels of every one; its blocks without such a byte are as they
-- were. Assumes nothing.
use Rattle.std.specs.Prelude.{Ok}
use mathlib.Core.Path.{◌≡◌, refl, sym, ap, ◌∙◌, subst}
use mathlib.Core.Bool.{Bool, true, false, cond, true≢false}
use mathlib.Core.List.{List}
use mathlib.Core.Logic.{◌⊎◌, inl, inr, ⊎_elim, ◌↔◌}
use Prim.Native.Nat.{ℕ, zero, suc, ◌+◌, ◌*◌, ◌≤◌, ◌<◌}
use native.Mathlib.Omega.{arith}
use lib.ListN.{length, get_or}
use Rattle.number.specs.declared.Range.{Range}
use Rattle.number.specs.declared.Level.{Level}
use Rattle.number.specs.Ranges.{Apart, level_range, twice}
use Rattle.number.specs.Blocks.{blocks, block_of, block_size, block_length}
use Rattle.number.proofs.FrameLaws.{keeps_more}
use Rattle.number.proofs.BlockLaws.{block_inside, exists_byte, block_byte}
use Rattle.layout.specs.declared.Container.{Container}
use Rattle.layout.specs.Headers.{front, header_range, header_bytes}
use Rattle.layout.specs.Tables.{active}
use Rattle.layout.specs.Descriptors.{external_range}
use Rattle.layout.specs.Opening.{opened}
use Rattle.layout.specs.Guarantees.{Guarantees, ExternalGuarantees}
use Rattle.layout.proofs.GuaranteeLaws.{guarantees}
use Rattle.layout.proofs.FrameLaws.{agree_part}
use Rattle.dpfs.specs.declared.Tree.{Tree}
use Rattle.dpfs.specs.Tree.{place, content}
use Rattle.dpfs.specs.Free.{InRange, Free}
use Rattle.dpfs.proofs.SpareLaws.{Spares, spares_or, Avoids, avoids_spares, spared_content}
use Rattle.dpfs.proofs.SpaceLaws.{space_spares, spared_space}
use Rattle.ivfc.specs.declared.View.{View}
use Rattle.ivfc.specs.Views.{level_of, inner_byte, content_of, verified}
use Rattle.ivfc.specs.Rules.{ViewRules}
use Rattle.ivfc.specs.Blocks.{block, entry, parent}
use Rattle.ivfc.specs.Verified as tree
use Rattle.ivfc.proofs.EntryLaws.{block_cong, entry_cong}
use Rattle.ivfc.proofs.VerifiedLaws.{entry_inside, parent_inside, verified_cong}
use Rattle.views.specs.Places.{partitions, slot_of, partition_of, tree_in, tree_of, view_in, committed_view, space_of}
use Rattle.views.specs.Protected.{ExternalByte, Protected}
use Rattle.views.proofs.PlaceLaws.{present, first_there, active_partition, tree_inside, tree_rules, committed_rules, committed_master, space_rules, tree_among, of_second}
use Rattle.views.proofs.ProtectedLaws.{protected_not_free, protected_is_not_free, never_both, same_or_apart, external_inside}
use Rattle.views.proofs.OpenLaws.{storable_opens}
use Rattle.views.specs.Versions.{version_of}
use Rattle.steps.specs.Sessions.{selector_flipped, for_each, staged_table}
use Rattle.history.specs.External.{InPlace}
use Rattle.history.proofs.Agreeing.{LeftBut}
use Rattle.history.proofs.Seen.{SameSeen, same_version}

-- ---- ranges (these laws stand in views, private)

-- a range beyond a level's pair, both moved
beyond_pair : (base : ℕ) (l : Level) (r : Range) (second : Bool) (y : ℕ) → Apart (twice (level_range l)) r → y < l.size
    → InRange (record { offset = base + r.offset; size = r.size }) (place (record { offset = base + l.offset; size = l.size; log = l.log }) second y) → ⊥
unfolding place
beyond_pair base l r true y (inl h) k f = omega arith
beyond_pair base l r true y (inr h) k f = omega arith
beyond_pair base l r false y (inl h) k f = omega arith
beyond_pair base l r false y (inr h) k f = omega arith

module _ (image : List ℕ) (c : Container) (g : Guarantees image c) where
  -- an external level 4 avoids every tree
  module _ (q r : ℕ) (k : q < partitions c) (l : r < partitions c) where
    in_partition : (m : Level) (second : Bool) (y : ℕ) → ((slot_of c r).partition.offset ≤ m.offset) × (m.offset + 2 * m.size ≤ (slot_of c r).partition.offset + (slot_of c r).partition.size)
        → y < m.size → InRange (slot_of c r).partition (place m second y)
    unfolding place
    in_partition m true y (a, b) h = (omega arith, omega arith)
    in_partition m false y (a, b) h = (omega arith, omega arith)

    elsewhere : Apart (slot_of c q).partition (slot_of c r).partition → Avoids (ExternalByte c q) (tree_of c r)
    elsewhere a =
        let t = tree_inside image c g r l in
        record {
          level1 = λ second y h x. never_both (slot_of c q).partition (slot_of c r).partition _ a (external_inside image c g q _ k x) (in_partition (tree_of c r).level1 second y t.level1 h);
          level2 = λ second y h x. never_both (slot_of c q).partition (slot_of c r).partition _ a (external_inside image c g q _ k x) (in_partition (tree_of c r).level2 second y t.level2 h);
          level3 = λ second y h x. never_both (slot_of c q).partition (slot_of c r).partition _ a (external_inside image c g q _ k x) (in_partition (tree_of c r).level3 second y t.level3 h);
        }

  own : (q : ℕ) → q < partitions c → Avoids (ExternalByte c q) (tree_of c q)
  unfolding ExternalByte tree_in
  own q k =
      let p = partition_of c q in
      let base = (slot_of c q).partition.offset in
      record {
        level1 = λ second y h x. beyond_pair base (record { offset = p.dpfs.level1.offset; size = p.dpfs.level1.size; log = 0 }) (external_range p) second y (guards q k x.0).pair1 h x.1;
        level2 = λ second y h x. beyond_pair base p.dpfs.level2 (external_range p) second y (guards q k x.0).pair2 h x.1;
        level3 = λ second y h x. beyond_pair base p.dpfs.level3 (external_range p) second y (guards q k x.0).pair3 h x.1;
      }
    where
      guards : (q : ℕ) (k : q < partitions c) → (partition_of c q).difi.external ≡ true → ExternalGuarantees (slot_of c q).partition.size (partition_of c q)
      guards q k e = (present image c g q k).described.guarantees.external e

  pub external_avoids : (q r : ℕ) → q < partitions c → r < partitions c → Avoids (ExternalByte c q) (tree_of c r)
  external_avoids q r k l = by (same_or_apart image c g q r k l)
    where
      by : (q ≡ r) ⊎ Apart (slot_of c q).partition (slot_of c r).partition → Avoids (ExternalByte c q) (tree_of c r)
      by (inl e) = subst (λ (s : ℕ). Avoids (ExternalByte c q) (tree_of c s)) e (own q k)
      by (inr a) = elsewhere q r k l a

-- ---- the frame

-- W has bytes of external level 4s alone
abbrev pub Outer : Container → (ℕ → Type 0) → Type 0
Outer c W = (i : ℕ) → W i → (q : ℕ) × (q < partitions c) × ExternalByte c q i

pub place_outer : (c : Container) (q place n : ℕ) → Outer c (InPlace c q place n)
unfolding InPlace
place_outer c q place n i (h, x, r) = (q, h, x)

module _ (image left : List ℕ) (c : Container) (g : Guarantees image c) (W : ℕ → Type 0) (outer : Outer c W) (k : LeftBut W c image left) where
  abbrev F : ℕ → Type 0
  F i = Free (space_of c) image i ⊎ W i

  in_some : (i : ℕ) → W i → (q : ℕ) × (q < partitions c) × InRange (slot_of c q).partition i
  in_some i w = let (q, h, x) = outer i w in (q, h, external_inside image c g q i h x)

  pub front_stays : (i : ℕ) → i < front.size → get_or left i 0 ≡ get_or image i 0
  unfolding Protected
  front_stays i h =
      k.bytes i (⊎_elim (protected_not_free image c g i (inl (omega arith, h)))
      (λ w. let (q, l, x) = in_some i w in omega (arith, (present image c g q l).slot.partition_front)))

  pub active_stays : (i : ℕ) → InRange (active c.header) i → get_or left i 0 ≡ get_or image i 0
  unfolding Protected
  active_stays i h =
      k.bytes i (⊎_elim (protected_not_free image c g i (inr (inl h)))
      (λ w. let (q, l, x) = in_some i w in never_both (active c.header) (slot_of c q).partition i (active_partition image c g q l) h x))

  pub header_stays : header_bytes left ≡ header_bytes image
  header_stays = agree_part left image header_range k.size (λ i a b. front_stays i (omega arith))

  -- so the table that a begin would stage is the same
  pub staged_stays : staged_table c left ≡ staged_table c image
  unfolding staged_table
  staged_stays = ap (for_each c (selector_flipped c)) (agree_part left image (active c.header) k.size (λ i a b. active_stays i (a, b)))

  pub still_opens : (o : opened image ≡ Ok c) → opened left ≡ Ok c
  still_opens o = storable_opens image left c o (keeps_more (λ i. ⊎_elim inl (λ w. inr (outer i w))) k)

  w_avoids : (r : ℕ) → r < partitions c → Avoids W (tree_of c r)
  w_avoids r l = record {
    level1 = λ second y h w. let (q, m, x) = outer _ w in (external_avoids image c g q r m l).level1 second y h x;
    level2 = λ second y h w. let (q, m, x) = outer _ w in (external_avoids image c g q r m l).level2 second y h x;
    level3 = λ second z h w. let (q, m, x) = outer _ w in (external_avoids image c g q r m l).level3 second z h x;
  }

  spares : (q : ℕ) → q < partitions c → Spares F (tree_of c q) image
  spares q h =
      spares_or (space_spares (space_of c) (length image) (space_rules image c g) (tree_of c q) (tree_among image c g q h) image)
      (avoids_spares image (w_avoids q h))

  -- the live content of each tree stays
  pub inner_stays : (q : ℕ) → q < partitions c → (z : ℕ) → z < (tree_of c q).level3.size → content (tree_of c q) left (tree_of c q).live z ≡ content (tree_of c q) image (tree_of c q).live z
  inner_stays q h = spared_content (tree_of c q) (length image) (tree_rules image c g q h) F image left (spares q h) k

  -- and what is free
  pub free_stays : (i : ℕ) → Free (space_of c) left i ↔ Free (space_of c) image i
  unfolding space_of
  free_stays =
      spared_space (space_of c) (length image) (space_rules image c g) F image left k (spares 0 (first_there (length image) c.header g.header))
      (of_second c (λ (t : Tree). Spares F t image) (λ two. spares 1 (omega (arith, two))))

  -- so 01's list is the same
  pub list_stays : (o : opened image ≡ Ok c) → (i : ℕ) → Protected c left i ↔ Protected c image i
  list_stays o i =
      let l = protected_is_not_free left c (guarantees left c (still_opens o)) i in
      let p = protected_is_not_free image c g i in
      (λ a. p.1 (λ f. l.0 a ((free_stays i).1 f)), λ a. l.1 (λ f. p.0 a ((free_stays i).0 f)))

  master_stays : (q : ℕ) → q < partitions c → (y : ℕ) → y < (committed_view c q).master.size
      → get_or left ((committed_view c q).master.offset + y) 0 ≡ get_or image ((committed_view c q).master.offset + y) 0
  master_stays q h y l = let m = committed_master image c g q h in active_stays _ (omega arith, omega arith)

  -- an external level 4 stays where it has no byte in W
  pub outside_stays : (q : ℕ) → q < partitions c → (y : ℕ) → (committed_view c q).external ≡ true → y < (committed_view c q).level4.size
      → (W ((committed_view c q).outside + y) → ⊥) → get_or left ((committed_view c q).outside + y) 0 ≡ get_or image ((committed_view c q).outside + y) 0
  unfolding committed_view view_in Protected ExternalByte
  outside_stays q h y e l n =
      k.bytes _ (⊎_elim (protected_not_free image c g _ (inr (inr (inr (inl (q, h, (e, (omega arith, omega arith)))))))) n)

  -- so a committed view with no byte in W shows the same version
  seen : (q : ℕ) → q < partitions c → ((y : ℕ) → (committed_view c q).external ≡ true → W ((committed_view c q).outside + y) → ⊥)
      → SameSeen (committed_view c q) (committed_view c q) left image
  unfolding committed_view view_in
  seen q h n = record {
    masters = refl;
    level1 = refl;
    level2 = refl;
    level3 = refl;
    level4 = refl;
    external = refl;
    master = master_stays q h;
    inner = inner_stays q h;
    outer = λ e y l. outside_stays q h y e l (n y e);
  }

  pub version_stays : (q : ℕ) → q < partitions c → ((y : ℕ) → (committed_view c q).external ≡ true → W ((committed_view c q).outside + y) → ⊥)
      → version_of (committed_view c q) left ≡ version_of (committed_view c q) image
  version_stays q h n = same_version (committed_view c q) (committed_view c q) left image (length image) (committed_rules image c g q h) (seen q h n)

  -- one of an internal partition has none
  pub internal_stays : (q : ℕ) → q < partitions c → (partition_of c q).difi.external ≡ false → version_of (committed_view c q) left ≡ version_of (committed_view c q) image
  unfolding committed_view view_in
  internal_stays q h e = version_stays q h (λ y t w. true≢false (sym t ∙ e))

  -- ---- a partition of either kind

  module _ (q : ℕ) (h : q < partitions c) where
    abbrev view : View
    view = committed_view c q

    rules : ViewRules view (length image)
    rules = committed_rules image c g q h

    inner_level : (l : Level) (y : ℕ) → l.offset + l.size ≤ view.tree.level3.size → y < l.size → inner_byte view left l y ≡ inner_byte view image l y
    unfolding inner_byte committed_view view_in
    inner_level l y a b = inner_stays q h (l.offset + y) (omega arith)

    -- the master hash and the hash levels stay
    pub entries_stay : (i y : ℕ) → i ≤ 3 → y < (level_of view i).size → content_of view left i y ≡ content_of view image i y
    unfolding level_of content_of
    entries_stay zero y a l = master_stays q h y l
    entries_stay (suc zero) y a l = inner_level view.level1 y rules.inner1 l
    entries_stay (suc (suc zero)) y a l = inner_level view.level2 y rules.inner2 l
    entries_stay (suc (suc (suc zero))) y a l = inner_level view.level3 y rules.inner3 l
    entries_stay (suc (suc (suc (suc i)))) y a l = absurd (omega arith)

    -- and so does each byte of level 4 that is none in W
    pub byte_stays : (y : ℕ) → y < view.level4.size → (view.external ≡ true → W (view.outside + y) → ⊥) → content_of view left 4 y ≡ content_of view image 4 y
    unfolding content_of
    byte_stays y l n = by view.external refl
      where
        by : (t : Bool) → view.external ≡ t
            → cond t (get_or left (view.outside + y) 0) (inner_byte view left view.level4 y) ≡ cond t (get_or image (view.outside + y) 0) (inner_byte view image view.level4 y)
        by true e = outside_stays q h y e l (n e)
        by false e = inner_level view.level4 y (rules.inner4 e) l

    -- a block of a hash level is verified exactly if it was
    pub hash_stays : (i b : ℕ) → i ≤ 3 → b < blocks (level_of view i) → verified view left i b ≡ verified view image i b
    hash_stays i b h l =
        verified_cong (level_of view) rules.hash (content_of view left) (content_of view image) i b (omega arith) l (λ j y a d. entries_stay j y (omega arith) d)

    -- a block with no byte in W is verified exactly if it was
    pub block_stays : (b : ℕ) → b < blocks view.level4
        → ((y : ℕ) → y < view.level4.size → block_of view.level4 y ≡ b → view.external ≡ true → W (view.outside + y) → ⊥)
        → verified view left 4 b ≡ verified view image 4 b
    unfolding tree.verified tree.matches level_of
    block_stays b l n =
        let inside : b * block_size view.level4 + block_length view.level4 b ≤ view.level4.size = block_inside view.level4 b (omega (arith, exists_byte view.level4 b l)) in
        let m : 32 * b + 32 ≤ view.level3.size = entry_inside (level_of view) rules.hash 3 b (omega arith) l in
        let p : block view.level4 (content_of view left 4) b ≡ block view.level4 (content_of view image 4) b =
        block_cong view.level4 (content_of view left 4) (content_of view image 4) b
        (λ j a. byte_stays (b * block_size view.level4 + j) (omega arith) (n (b * block_size view.level4 + j) (omega arith) (block_byte view.level4 b j a))) in
        let e : entry (content_of view left 3) b ≡ entry (content_of view image 3) b =
        entry_cong (content_of view left 3) (content_of view image 3) b (λ j a. entries_stay 3 (32 * b + j) (omega arith) (omega arith)) in
        let v : tree.verified (level_of view) (content_of view left) 3 (parent view.level3 b) ≡ tree.verified (level_of view) (content_of view image) 3 (parent view.level3 b) =
        verified_cong (level_of view) rules.hash (content_of view left) (content_of view image) 3 (parent view.level3 b) (omega arith)
        (parent_inside (level_of view) rules.hash 3 b (omega arith) l) (λ j y a d. entries_stay j y a d) in
        cc
