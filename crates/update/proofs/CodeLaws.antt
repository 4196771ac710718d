-- What the functions of a write ask of each other, and their steps. Assumes nothing.
use mathlib.Core.Path.{◌≡◌, refl, sym, ap, ◌∙◌, subst}
use mathlib.Core.List.{List, [], ◌∷◌}
use mathlib.Core.Bool.{Bool, true, false, not, ◌&&◌, cond, true≢false}
use Prim.Native.Nat.{ℕ, zero, suc, ◌+◌, ◌-◌, ◌*◌, ◌^◌, ◌≤◌, ◌<◌}
use native.Mathlib.Omega.{arith}
use lib.ListN.{length}
use lib.Seq.{sets}
use lib.Dec.{eqb}
use borrow.Author.Tests.{eqb-true}
use Rattle.number.proofs.Tests.{and_left, and_right}
use Rattle.number.specs.declared.Level.{Level}
use Rattle.number.specs.Blocks.{blocks, block_of, last_block}
use Rattle.number.specs.Frame.{Keeps}
use Rattle.number.proofs.FrameLaws.{keeps_refl}
use Rattle.number.proofs.Tests.{failed}
use Rattle.number.proofs.BlockLaws.{block_exists, block_mono, touches_in}
use Rattle.dpfs.specs.declared.Space.{Space}
use Rattle.dpfs.specs.Free.{Free}
use Rattle.dpfs.specs.Staging as dpfs
use Rattle.dpfs.proofs.SpaceLaws.{table_free}
use Rattle.ivfc.specs.declared.View.{View}
use Rattle.ivfc.specs.Blocks.{parent}
use Rattle.ivfc.specs.Rows.{digests}
use Rattle.ivfc.specs.Rules.{ViewRules}
use Rattle.ivfc.specs.Views.{level_of, content_of, verified}
use Rattle.ivfc.proofs.ViewLaws.{level_zero, inside_master, inside_inner, level_small, inner_test}
use Rattle.ivfc.proofs.VerifiedLaws.{entry_above}
use Rattle.update.specs.Covering.{covered}
use Rattle.update.specs.Writing.{cleared, entered, rehashed, written, zero_held}
use Rattle.update.specs.Staged.{put_level, written_to, holds_zero, outer}
use Rattle.update.specs.Rules.{StagedRules, OwnView, StagedIn, WriteRules, EndsRules}
use Rattle.update.proofs.StagedLaws.{Own, view_placed, staged, staged_kept}
use Rattle.update.proofs.ImageLaws.{master_in_table, staged_store}
use Rattle.update.proofs.StoreLaws.{entered_ok, entered_split, entered_at_once}

-- ---- bytes put into a level

module _ (view : View) (i x : ℕ) (values image : List ℕ) where
  pub put_master : i ≡ 0 → sets image (view.master.offset + x) values ≡ put_level view i x values image
  unfolding put_level
  put_master e = rw e

  pub put_inner : (i ≡ 0 → ⊥) → eqb i 4 && view.external ≡ false → dpfs.put view.tree ((level_of view i).offset + x) values image ≡ put_level view i x values image
  unfolding put_level outer
  put_inner ne e = go i ne e
    where
      go : (j : ℕ) → (j ≡ 0 → ⊥) → eqb j 4 && view.external ≡ false → dpfs.put view.tree ((level_of view j).offset + x) values image ≡ put_level view j x values image
      go zero ne e = absurd (ne refl)
      go (suc j) ne e = ap (λ (t : Bool). cond t (sets image (view.outside + x) values) (dpfs.put view.tree ((level_of view (suc j)).offset + x) values image)) (sym e)

  pub put_outer : eqb i 4 && view.external ≡ true → sets image (view.outside + x) values ≡ put_level view i x values image
  unfolding put_level outer
  put_outer e = go i e
    where
      go : (j : ℕ) → eqb j 4 && view.external ≡ true → sets image (view.outside + x) values ≡ put_level view j x values image
      go zero e = absurd (true≢false (sym e))
      go (suc j) e = ap (λ (t : Bool). cond t (sets image (view.outside + x) values) (dpfs.put view.tree ((level_of view (suc j)).offset + x) values image)) (sym e)

module _ (space : Space) (view : View) (image : List ℕ) (r : StagedRules space view (length image)) (i x n : ℕ) (fit : x + n ≤ (level_of view i).size) where
  -- into the master hash: its places are free
  pub master_ends : i ≡ 0 → view.master.offset + x + n ≤ length image
  master_ends e = omega (arith, inside_master view (length image) r.rules i e)

  pub master_free : i ≡ 0 → (m : ℕ) → m < n → Free space image (view.master.offset + x + m)
  master_free e m h =
      table_free space image (view.master.offset + x + m)
      (master_in_table space view (length image) r (view.master.offset + x + m) (omega arith, omega (arith, master_size e)))
    where
      master_size : i ≡ 0 → (level_of view i).size ≡ view.master.size
      master_size e = ap (λ (l : Level). l.size) (sym (level_zero view i e))

  -- into a level inside DPFS level 3
  pub inner_ends : i ≤ 4 → (i ≡ 0 → ⊥) → eqb i 4 && view.external ≡ false → (level_of view i).offset + x + n ≤ view.tree.level3.size
  inner_ends h ne e = omega (arith, inside_inner view (length image) r.rules i (omega arith) h (inner_test i view.external e))

-- into an external level 4
pub outer_external : (view : View) (i : ℕ) → eqb i 4 && view.external ≡ true → view.external ≡ true
outer_external view i e = and_right (eqb i 4) view.external e

pub outer_fits : (view : View) (i x n : ℕ) → eqb i 4 && view.external ≡ true → x + n ≤ (level_of view i).size → x + n ≤ view.level4.size
unfolding level_of
outer_fits view i x n e fit =
    let four : i ≡ 4 = eqb-true i 4 (and_left (eqb i 4) view.external e) in
    let size : (level_of view i).size ≡ view.level4.size = ap (λ (j : ℕ). (level_of view j).size) four in
    omega arith

-- such bytes end in the image
pub outer_ends : {view : View} {image : List ℕ} → OwnView view image → (x n : ℕ) → view.external ≡ true → x + n ≤ view.level4.size
    → (view.outside + x + n ≤ length image) × (length image ≤ 0x4000000)
outer_ends h x n e fit = (omega (arith, (view_placed h).outer4 e), (view_placed h).tree.limit)

-- what a put, and each step of a write, leaves has the same space and staged view
module _ {space : Space} {view : View} {image : List ℕ} (h : StagedIn space view image) where
  pub put_kept : (i x : ℕ) (values after : List ℕ) → i ≤ 4 → x + length values ≤ (level_of view i).size → after ≡ put_level view i x values image → StagedIn space view after
  put_kept i x values after l fit e =
      staged_kept h after
      (subst (Keeps (Own view image) image) (sym e)
      ((staged_store space view (length image) (staged h) image refl).stays i x values image (keeps_refl (Own view image) image) l fit))

-- ---- the entries of an interval, some at a time

-- the entries of the blocks b .. last
abbrev pub entries_from : View → (i last b : ℕ) → List ℕ → List ℕ
entries_from view i last b image = entered (level_of view) (content_of view) (put_level view) i b (suc last - b) image

module _ (view : View) (i last b : ℕ) (image : List ℕ) where
  -- those of n blocks, then those that are left
  pub enter_step : (n : ℕ) → b + n ≤ suc last
      → entries_from view i last b image ≡ entries_from view i last (b + n) (entered (level_of view) (content_of view) (put_level view) i b n image)
  enter_step n h =
      let k : suc last - b ≡ n + (suc last - (b + n)) = omega arith in
      ap (λ (m : ℕ). entered (level_of view) (content_of view) (put_level view) i b m image) k
      ∙ entered_split (level_of view) (content_of view) (put_level view) i b n (suc last - (b + n)) image

  pub enter_end : last < b → entries_from view i last b image ≡ image
  unfolding entered
  enter_end h =
      let n : suc last - b ≡ 0 = omega arith in
      rw n

-- the entries of n blocks from b on are brought up to date at once, and the image stays as long as it is
module _ (space : Space) (view : View) (image : List ℕ) (r : StagedRules space view (length image)) (i b n : ℕ) (h : i < 4)
    (e : b + n ≤ blocks (level_of view (suc i))) where
  -- by putting their digests one after another
  pub some_entered : (hashes : List ℕ) → hashes ≡ digests (level_of view (suc i)) (content_of view image (suc i)) b n
      → put_level view i (32 * b) hashes image ≡ entered (level_of view) (content_of view) (put_level view) i b n image
  some_entered hashes d =
      ap (λ (l : List ℕ). put_level view i (32 * b) l image) d
      ∙ sym (entered_at_once r.rules.hash (staged_store space view (length image) r image refl) i h b n image e (keeps_refl (Own view image) image))

  -- which lie in the level
  pub some_inside : 32 * b + 32 * n ≤ (level_of view i).size
  some_inside = omega (arith, r.rules.hash.enough i h)

module _ {space : Space} {view : View} {image : List ℕ} (h : StagedIn space view image) where
  pub some_keeps : (i b n : ℕ) → i < 4 → b + n ≤ blocks (level_of view (suc i)) → (now after : List ℕ) → Keeps (Own view image) image now
      → after ≡ entered (level_of view) (content_of view) (put_level view) i b n now → Keeps (Own view image) image after
  some_keeps i b n l e now after k q =
      subst (Keeps (Own view image) image) (sym q)
      (entered_ok (staged h).rules.hash (staged_store space view (length image) (staged h) image refl) i l b n now e k)

  pub entered_kept : (i first last : ℕ) → i < 4 → first ≤ last → last < blocks (level_of view (suc i)) → (after : List ℕ) → after ≡ entries_from view i last first image
      → StagedIn space view after
  entered_kept i first last l o e after q =
      staged_kept h after (some_keeps i first (suc last - first) l (omega arith) image after (keeps_refl (Own view image) image) q)

-- ---- level by level

pub log_small : (view : View) (n : ℕ) → ViewRules view n → (i : ℕ) → i ≤ 4 → (level_of view i).log < 64
log_small view n rules i h = omega (arith, rules.hash.logs i h)

-- a block of a level above which there is another
module _ (view : View) (n : ℕ) (rules : ViewRules view n) (i b : ℕ) (some : 1 ≤ i) (level : i ≤ 4) (e : b < blocks (level_of view i)) where
  pub below_exists : b < blocks (level_of view (suc (i - 1)))
  below_exists =
      let q : suc (i - 1) ≡ i = omega arith in
      rw q e

  pub number_small : 32 * b + 32 ≤ 0x4000000
  number_small = omega (arith, entry_above (level_of view) rules.hash i b some level e, level_small view n rules (i - 1) (omega arith))

-- and the entry of each block up to it is there, so that its place fits
pub parent_asks : (view : View) (n : ℕ) → ViewRules view n → (i last : ℕ) → 1 ≤ i → i ≤ 4 → last < blocks (level_of view i)
    → (upper : Level) → upper ≡ level_of view (i - 1) → (b : ℕ) → b ≤ last → (upper.log < 64) × (32 * b < 2 ^ 64)
parent_asks view n rules i last some level e upper u b o = (
  rw u (log_small view n rules (i - 1) (omega arith)),
  omega (arith, number_small view n rules i last some level e),
)

module _ (view : View) (i first last : ℕ) (image : List ℕ) where
  abbrev pub all_rehashed : List ℕ
  all_rehashed = rehashed (level_of view) (content_of view) (put_level view) i first last image

  pub rehash_none : i ≡ 0 → all_rehashed ≡ image
  unfolding rehashed
  rehash_none e = rw e

  pub rehash_step : 1 ≤ i
      → all_rehashed
      ≡ rehashed (level_of view) (content_of view) (put_level view) (i - 1) (parent (level_of view (i - 1)) first) (parent (level_of view (i - 1)) last)
      (entered (level_of view) (content_of view) (put_level view) (i - 1) first (suc last - first) image)
  unfolding rehashed
  rehash_step h = go i h
    where
      go : (j : ℕ) → 1 ≤ j
          → rehashed (level_of view) (content_of view) (put_level view) j first last image
          ≡ rehashed (level_of view) (content_of view) (put_level view) (j - 1) (parent (level_of view (j - 1)) first) (parent (level_of view (j - 1)) last)
          (entered (level_of view) (content_of view) (put_level view) (j - 1) first (suc last - first) image)
      go zero h = absurd (omega arith)
      go (suc j) h =
          let e : suc j - 1 ≡ j = omega arith in
          rw e

-- ---- the whole write

module _ (space : Space) (view : View) (image : List ℕ) (x : ℕ) (values : List ℕ) (w : WriteRules space view image x values) where
  pub write_fits : x + length values ≤ (level_of view 4).size
  unfolding level_of
  write_fits = w.fits

  pub write_small : x + length values ≤ 0x4000000
  write_small = omega (arith, write_fits, level_small view (length image) (staged w.own).rules 4 (omega arith))

module _ (view : View) (x : ℕ) (values image : List ℕ) where
  pub write_none : length values ≡ 0 → written_to view x values image ≡ image
  unfolding written_to written
  write_none e = go values e
    where
      go : (l : List ℕ) → length l ≡ 0 → written (level_of view) (content_of view) (put_level view) 4 x l image ≡ image
      go [] e = refl
      go (v ∷ l) e = absurd (omega arith)

  pub write_some : 0 < length values
      → written_to view x values image
      ≡ rehashed (level_of view) (content_of view) (put_level view) 4 (block_of (level_of view 4) x) (last_block (level_of view 4) x (length values))
      (put_level view 4 x values
      (cleared (level_of view) (content_of view) (put_level view) (verified view image) 4 (block_of (level_of view 4) x) (last_block (level_of view 4) x (length values)) image))
  unfolding written_to written
  write_some h = go values h
    where
      go : (l : List ℕ) → 0 < length l
          → written (level_of view) (content_of view) (put_level view) 4 x l image
          ≡ rehashed (level_of view) (content_of view) (put_level view) 4 (block_of (level_of view 4) x) (last_block (level_of view 4) x (length l))
          (put_level view 4 x l
          (cleared (level_of view) (content_of view) (put_level view) (verified view image) 4 (block_of (level_of view 4) x) (last_block (level_of view 4) x (length l)) image))
      go [] h = absurd (omega arith)
      go (v ∷ l) h = refl

-- and the digests that it holds
module _ (view : View) (x : ℕ) (values image : List ℕ) where
  pub none_holds : length values ≡ 0 → holds_zero view x values image ≡ false
  unfolding holds_zero
  none_holds e = go values e
    where
      go : (l : List ℕ) → length l ≡ 0 → holds_zero view x l image ≡ false
      go [] e = refl
      go (v ∷ l) e = absurd (omega arith)

  pub some_holds : 0 < length values
      → holds_zero view x values image
      ≡ zero_held (level_of view) (content_of view image) 4 (block_of view.level4 x) (last_block view.level4 x (length values))
  unfolding holds_zero
  some_holds h = go values h
    where
      go : (l : List ℕ) → 0 < length l
          → holds_zero view x l image ≡ zero_held (level_of view) (content_of view image) 4 (block_of view.level4 x) (last_block view.level4 x (length l))
      go [] h = absurd (omega arith)
      go (v ∷ l) h = refl

-- ---- the blocks at a write's ends

module _ (space : Space) (view : View) (image : List ℕ) (x n first last : ℕ) (w : EndsRules space view image x n first last) where
  pub ends_fit : x + n ≤ (level_of view 4).size
  unfolding level_of
  ends_fit = w.fits

  pub ends_ordered : first ≤ last
  unfolding last_block
  ends_ordered = rw (w.start, w.stop) (block_mono view.level4 x (x + n - 1) (omega (arith, w.some)))

  pub ends_exist : last < blocks (level_of view 4)
  unfolding last_block level_of
  ends_exist = rw w.stop (block_exists view.level4 (x + n - 1) (omega (arith, w.some, w.fits)))

  pub first_known : (l : Level) → l ≡ level_of view 4 → (r : Bool) → r ≡ covered l x n first → not r ≡ true → verified view image 4 first ≡ true
  unfolding level_of
  first_known l e r c h = w.judged_first (ap (λ (m : Level). covered m x n first) (sym e) ∙ failed c h)

  pub last_known : (l : Level) → l ≡ level_of view 4 → (r : Bool) → r ≡ covered l x n last → not r ≡ true → verified view image 4 last ≡ true
  unfolding level_of
  last_known l e r c h = w.judged_last (ap (λ (m : Level). covered m x n last) (sym e) ∙ failed c h)

module _ (space : Space) (view : View) (image : List ℕ) (x : ℕ) (values : List ℕ) (first last : ℕ) (w : EndsRules space view image x (length values) first last) where
  -- what the steps of a write come to
  pub write_done : (empty full end : List ℕ)
      → empty ≡ cleared (level_of view) (content_of view) (put_level view) (verified view image) 4 first last image
      → full ≡ put_level view 4 x values empty → end ≡ rehashed (level_of view) (content_of view) (put_level view) 4 first last full
      → end ≡ written_to view x values image
  unfolding level_of
  write_done empty full end a b c = c ∙ rw (b, a, w.start, w.stop) (sym (write_some view x values image w.some))

  pub held_done : (end : List ℕ) (r : Bool) → r ≡ zero_held (level_of view) (content_of view end) 4 first last → r ≡ holds_zero view x values end
  held_done end r e = e ∙ rw (w.start, w.stop) (sym (some_holds view x values end w.some))

pub write_ends : (space : Space) (view : View) (image : List ℕ) (x : ℕ) (values : List ℕ) → WriteRules space view image x values → 0 < length values
    → (first last : ℕ) → first ≡ block_of (level_of view 4) x → last ≡ block_of (level_of view 4) (x + length values - 1)
    → EndsRules space view image x (length values) first last
unfolding level_of last_block
write_ends space view image x values w some first last f l = record {
  own = w.own;
  some = some;
  fits = w.fits;
  start = f;
  stop = l;
  judged_first = λ c. w.judged first (touches_in view.level4 x (length values) first some (omega arith) (rw f ordered)) c;
  judged_last = λ c. w.judged last (touches_in view.level4 x (length values) last some (rw l ordered) (omega arith)) c;
}
  where
    ordered : block_of view.level4 x ≤ block_of view.level4 (x + length values - 1)
    ordered = block_mono view.level4 x (x + length values - 1) (omega arith)
