-- What a begin leaves: only free bytes differ, the inactive table is staged, and each staged view shows what the committed one does. Assumes
-- nothing.
use Rattle.std.specs.Prelude.{Ok}
use mathlib.Core.Path.{◌≡◌, refl, sym, ap, ◌∙◌, subst}
use mathlib.Core.Bool.{Bool, true, false, not, ◌||◌, cond, true≢false, or-true}
use mathlib.Core.List.{List}
use mathlib.Core.Logic.{inl, inr}
use Prim.Native.Nat.{ℕ, zero, suc, ◌+◌, ◌<◌}
use native.Mathlib.Omega.{arith}
use lib.ListN.{length, get_or}
use lib.Dec.{eqb}
use borrow.Author.Tests.{eq-eqb}
use Rattle.number.specs.Frame.{Keeps}
use Rattle.number.proofs.FrameLaws.{keeps_trans, keeps_more}
use Rattle.layout.specs.declared.Container.{Container}
use Rattle.layout.specs.Tables.{active, inactive}
use Rattle.layout.specs.Opening.{opened}
use Rattle.layout.specs.Guarantees.{Guarantees}
use Rattle.layout.proofs.GuaranteeLaws.{guarantees}
use Rattle.dpfs.specs.Tree.{content}
use Rattle.dpfs.specs.Free.{FreeCopy, FreeIn, InRange, Free}
use Rattle.dpfs.specs.Rules.{WellPlaced}
use Rattle.dpfs.specs.Staging.{begun}
use Rattle.dpfs.proofs.SpareLaws.{Avoids}
use Rattle.dpfs.proofs.SpaceLaws.{table_avoids, tree_free, table_keeps, kept_free, aside_content, table_content}
use Rattle.dpfs.proofs.BeginLaws.{begun_keeps, begun_staged}
use Rattle.views.specs.Places.{partitions, slot_of, partition_of, tree_of, master_in, view_in, committed_view, staged_view, space_of}
use Rattle.views.proofs.PlaceLaws.{first_there, second_there, third_missing, active_table, inactive_table, tree_rules, staged_rules, space_rules, tree_among}
use Rattle.steps.specs.Sessions.{in_some_master, staged_table, table_begun, begun_image, table_staged}
use Rattle.history.proofs.Agreeing.{LeftBut, None}
use Rattle.history.proofs.CallLaws.{BeginLaws}
use Rattle.history.proofs.Seen.{SameSeen, same_version}
use Rattle.history.proofs.Outers.{outside_stays, staged_stays}
use Rattle.history.proofs.Tables.{byte_of, place_of, two_there, trees_apart, off_selectors, staged_other, in_table}
use Rattle.steps.proofs.BelowLaws.{below_all}
use Rattle.steps.proofs.BeginLaws.{table_only, table_byte}

-- it differs in free bytes only
abbrev Left : Container → (image left : List ℕ) → Type 0
Left c image left = Keeps (Free (space_of c) image) image left

module _ (image : List ℕ) (c : Container) (g : Guarantees image c) where
  -- ---- the table

  table_left : Left c image (table_begun c image)
  unfolding space_of
  table_left = table_keeps (space_of c) image (table_begun c image) (table_only image c g)

  table_content_of : (q : ℕ) → q < partitions c → (half : Bool) (z : ℕ) → z < (tree_of c q).level3.size
      → content (tree_of c q) (table_begun c image) half z ≡ content (tree_of c q) image half z
  unfolding space_of
  table_content_of q h half z l =
      table_content (space_of c) (length image) (space_rules image c g) (tree_of c q) (tree_among image c g q h) image (table_begun c image) (table_only image c g) half z l

  -- ---- one tree

  module _ (mid : List ℕ) (k : Left c image mid) (q : ℕ) (h : q < partitions c) where
    placed : WellPlaced (tree_of c q) (length mid)
    placed = subst (WellPlaced (tree_of c q)) (sym k.size) (tree_rules image c g q h)

    step_keeps : Keeps (FreeIn (tree_of c q) mid) mid (begun (tree_of c q) mid)
    step_keeps = begun_keeps (tree_of c q) mid placed

    step_left : Left c image (begun (tree_of c q) mid)
    step_left =
        keeps_trans (λ i f. (kept_free (space_of c) (length image) (space_rules image c g) image mid k i).0
        (tree_free (space_of c) (tree_of c q) (tree_among image c g q h) mid i f)) k step_keeps

    step_table : (i : ℕ) → InRange (inactive c.header) i → get_or (begun (tree_of c q) mid) i 0 ≡ get_or mid i 0
    unfolding FreeIn FreeCopy space_of
    step_table i t = step_keeps.bytes i off
      where
        a : Avoids (InRange (space_of c).table) (tree_of c q)
        a = table_avoids (space_of c) (length image) (space_rules image c g) (tree_of c q) (tree_among image c g q h)

        off : FreeIn (tree_of c q) mid i → ⊥
        off (inl (y, l, e)) = a.level1 _ y l (subst (InRange (inactive c.header)) e t)
        off (inr (inl (y, l, e))) = a.level2 _ y l (subst (InRange (inactive c.header)) e t)
        off (inr (inr (y, l, e))) = a.level3 _ y l (subst (InRange (inactive c.header)) e t)

    step_staged : (z : ℕ) → z < (tree_of c q).level3.size → content (tree_of c q) (begun (tree_of c q) mid) (not (tree_of c q).live) z ≡ content (tree_of c q) mid (tree_of c q).live z
    step_staged = begun_staged (tree_of c q) mid placed

    step_aside : (p : ℕ) → p < partitions c → (p ≡ q → ⊥) → (half : Bool) (z : ℕ) → z < (tree_of c p).level3.size
        → content (tree_of c p) (begun (tree_of c q) mid) half z ≡ content (tree_of c p) mid half z
    step_aside p l n half z b =
        aside_content (tree_of c q) (tree_of c p) (length image) (tree_rules image c g p l) (trees_apart image c g q p h l n) mid (begun (tree_of c q) mid) step_keeps half z b

  -- ---- both

  -- what is so of the image after
  pub record Ready (after : List ℕ) : Type 0 where
    pub stores : Left c image after
    pub table : (i : ℕ) → i < (inactive c.header).size → get_or after ((inactive c.header).offset + i) 0 ≡ get_or (staged_table c image) i 0
    pub staged : (q : ℕ) → q < partitions c → (z : ℕ) → z < (tree_of c q).level3.size
        → content (tree_of c q) after (not (tree_of c q).live) z ≡ content (tree_of c q) image (tree_of c q).live z

  some : 0 < partitions c
  some = first_there (length image) c.header g.header

  abbrev one : List ℕ
  one = begun (tree_of c 0) (table_begun c image)

  one_left : Left c image one
  one_left = step_left (table_begun c image) table_left 0 some

  one_table : (i : ℕ) → i < (inactive c.header).size → get_or one ((inactive c.header).offset + i) 0 ≡ get_or (staged_table c image) i 0
  one_table i h = step_table (table_begun c image) table_left 0 some ((inactive c.header).offset + i) (in_table c i h) ∙ table_byte image c g i h

  one_staged : (z : ℕ) → z < (tree_of c 0).level3.size → content (tree_of c 0) one (not (tree_of c 0).live) z ≡ content (tree_of c 0) image (tree_of c 0).live z
  one_staged z l = step_staged (table_begun c image) table_left 0 some z l ∙ table_content_of 0 some (tree_of c 0).live z l

  ready_one : eqb (partitions c) 2 ≡ false → Ready one
  ready_one e = record { stores = one_left; table = one_table; staged = by }
    where
      by : (q : ℕ) → q < partitions c → (z : ℕ) → z < (tree_of c q).level3.size
          → content (tree_of c q) one (not (tree_of c q).live) z ≡ content (tree_of c q) image (tree_of c q).live z
      by zero h z l = one_staged z l
      by (suc q) h z l = absurd (true≢false (sym (eq-eqb (partitions c) 2 (second_there (length image) c.header g.header (omega arith))) ∙ e))

  ready_two : eqb (partitions c) 2 ≡ true → Ready (begun (tree_of c 1) one)
  ready_two e = record {
    stores = step_left one one_left 1 (two_there image c g e);
    table = λ i h. step_table one one_left 1 (two_there image c g e) ((inactive c.header).offset + i) (in_table c i h) ∙ one_table i h;
    staged = by;
  }
    where
      by : (q : ℕ) → q < partitions c → (z : ℕ) → z < (tree_of c q).level3.size
          → content (tree_of c q) (begun (tree_of c 1) one) (not (tree_of c q).live) z ≡ content (tree_of c q) image (tree_of c q).live z
      by zero h z l = step_aside one one_left 1 (two_there image c g e) 0 some (λ n. omega arith) (not (tree_of c 0).live) z l ∙ one_staged z l
      by (suc zero) h z l =
          step_staged one one_left 1 h z l
          ∙ step_aside (table_begun c image) table_left 0 some 1 h (λ n. omega arith) (tree_of c 1).live z l
          ∙ table_content_of 1 h (tree_of c 1).live z l
      by (suc (suc q)) h z l = absurd (third_missing (length image) c.header g.header q h)

  ready : Ready (begun_image c image)
  unfolding begun_image
  ready = by (eqb (partitions c) 2) refl
    where
      by : (two : Bool) → eqb (partitions c) 2 ≡ two → Ready (cond two (begun (tree_of c 1) (begun (tree_of c 0) (table_begun c image))) (begun (tree_of c 0) (table_begun c image)))
      by true e = ready_two e
      by false e = ready_one e

  -- ---- the laws

  left : (after : List ℕ) → Ready after → LeftBut None c image after
  left after r = keeps_more (λ i f. inl f) r.stores

  begin_table : (after : List ℕ) → Ready after → table_staged c after ≡ true
  unfolding table_staged
  begin_table after r =
      below_all (inactive c.header).size
      (λ (i : ℕ). in_some_master c i || eqb (get_or after ((inactive c.header).offset + i) 0) (get_or (staged_table c after) i 0))
      (λ i h. ap (λ (t : Bool). in_some_master c i || t)
      (eq-eqb (get_or after ((inactive c.header).offset + i) 0) (get_or (staged_table c after) i 0)
      (r.table i h ∙ ap (λ (x : List ℕ). get_or x i 0) (sym (staged_stays image after c g None (λ i. absurd) (left after r)))))
      ∙ or-true (in_some_master c i))

  -- the staged master hash is a copy of the committed one
  master_copied : (after : List ℕ) → Ready after → (q : ℕ) → q < partitions c → (y : ℕ) → y < (partition_of c q).difi.master.size
      → get_or after ((inactive c.header).offset + (slot_of c q).descriptor.offset + (partition_of c q).difi.master.offset + y) 0
      ≡ get_or image ((active c.header).offset + (slot_of c q).descriptor.offset + (partition_of c q).difi.master.offset + y) 0
  master_copied after r q h y l =
      let p = place_of image c g q h in
      let a = p.slot.descriptor_inside in
      let b = p.described.guarantees.master_inside in
      let d = p.described.guarantees.master_difi in
      let t = (inactive_table image c g).size in
      let s = (active_table image c g).size in
      let m = (partition_of c q).difi.master.offset + y in
      let i = (slot_of c q).descriptor.offset + m in
      let e : (inactive c.header).offset + (slot_of c q).descriptor.offset + (partition_of c q).difi.master.offset + y ≡ (inactive c.header).offset + i = omega arith in
      let f : (active c.header).offset + (slot_of c q).descriptor.offset + (partition_of c q).difi.master.offset + y ≡ (active c.header).offset + i = omega arith in
      ap (λ (x : ℕ). get_or after x 0) e
      ∙ r.table i (omega arith)
      ∙ staged_other image c g i (off_selectors image c g q h m (omega arith) (λ n. omega arith))
      ∙ byte_of image (active c.header) i (omega arith)
      ∙ ap (λ (x : ℕ). get_or image x 0) (sym f)

  seen : (after : List ℕ) → Ready after → (q : ℕ) → q < partitions c → SameSeen (staged_view c q) (committed_view c q) after image
  unfolding staged_view committed_view view_in master_in
  seen after r q h = record {
    masters = refl;
    level1 = refl;
    level2 = refl;
    level3 = refl;
    level4 = refl;
    external = refl;
    master = master_copied after r q h;
    inner = r.staged q h;
    outer = λ e y l. outside_stays image after c g None (λ i. absurd) (left after r) q h y e l (λ n. n);
  }

pub begins : (image : List ℕ) (c : Container) → opened image ≡ Ok c → BeginLaws c image
begins image c o =
    let g = guarantees image c o in
    let r = ready image c g in
    record {
      stores = left image c g (begun_image c image) r;
      table = begin_table image c g (begun_image c image) r;
      version = λ q h. same_version (staged_view c q) (committed_view c q) (begun_image c image) image (length image) (staged_rules image c g q h)
          (seen image c g (begun_image c image) r q h);
    }
