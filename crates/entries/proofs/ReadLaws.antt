-- Reading level 4 of a view, against its version. Assumes nothing.
use mathlib.Core.Path.{◌≡◌, refl, sym, ap, ap₂, ◌∙◌}
use mathlib.Core.Bool.{Bool, true, false, cond}
use mathlib.Core.List.{List}
use Prim.Native.Nat.{ℕ, suc, ◌+◌, ◌-◌, ◌/◌, ◌^◌, ◌≤◌, ◌<◌}
use native.Mathlib.Omega.{arith}
use native.Mathlib.Numerals.{add-one}
use lib.ListN.{get_or}
use Rattle.std.specs.Prelude.{Ok, Err}
use Rattle.std.specs.Int.{w32, from_le_bytes}
use Rattle.names.specs.declared.EntryError.TheVariants as entry
use Rattle.number.specs.declared.Level.{Level}
use Rattle.number.specs.Blocks.{blocks, block_of, block_size}
use Rattle.number.specs.Bytes.{bytes}
use Rattle.number.specs.Fields.{le16, le32}
use Rattle.number.proofs.ListLaws.{get_d_bytes, bytes_cong, bytes_inner}
use Rattle.number.proofs.BlockLaws.{block_mono, block_exists}
use Rattle.ivfc.specs.declared.View.{View}
use Rattle.ivfc.specs.Verified.{first_not}
use Rattle.ivfc.specs.Views.{level_of, content_of}
use Rattle.ivfc.specs.Views as ivfc
use Rattle.ivfc.proofs.LowestLaws.{first_cong}
use Rattle.views.specs.Versions.{version_of}
use Rattle.names.specs.Entries.{verified, read_at}
use Rattle.names.specs.Opening.{header_of}
use Rattle.names.proofs.EntryLaws.{read_yes, read_no}
use Rattle.views.proofs.VersionLaws.{version_byte, version_flag}

-- ---- level 4

pub level4_is : (view : View) → level_of view 4 ≡ view.level4
unfolding level_of
level4_is view = refl

-- ---- its bytes

-- the bytes that were gathered
pub bytes_at : (view : View) (image : List ℕ) (at n : ℕ) → at + n ≤ view.level4.size
    → bytes (content_of view image 4) at n ≡ bytes (λ (y : ℕ). get_or (version_of view image).bytes y 0) at n
bytes_at view image at n h = bytes_cong _ _ at at n (λ k l. sym (version_byte view image (at + k) (omega arith)))

-- the word of four gathered bytes
pub word_is : (view : View) (image word : List ℕ) (at : ℕ) → at + 4 ≤ view.level4.size → word ≡ bytes (content_of view image 4) at 4
    → from_le_bytes w32 word ≡ le32 (version_of view image).bytes at
unfolding le32 le16
word_is view image word at h e =
    let here : (k : ℕ) → k < 4 → get_or word k 0 ≡ get_or (version_of view image).bytes (at + k) 0 =
    (λ k l. ap (λ (w : List ℕ). get_or w k 0) e ∙ get_d_bytes (content_of view image 4) at 4 k l ∙ sym (version_byte view image (at + k) (omega arith))) in
    let a : at + 0 ≡ at = omega arith in
    let b : at + 3 ≡ at + 2 + 1 = omega arith in
    omega (
      arith,
      here 0 (omega arith) ∙ ap (λ (y : ℕ). get_or (version_of view image).bytes y 0) a,
      here 1 (omega arith),
      here 2 (omega arith),
      here 3 (omega arith) ∙ ap (λ (y : ℕ). get_or (version_of view image).bytes y 0) b,
    )

-- ---- which of its blocks are verified

vouched_at : (view : View) (image : List ℕ) (b : ℕ) → b < blocks view.level4 → ivfc.verified view image 4 b ≡ verified (version_of view image).verified b
unfolding verified
vouched_at view image b h = sym (version_flag view image b h)

-- the first of some blocks that is not verified
pub first_is : (view : View) (image : List ℕ) (first last : ℕ) → first ≤ last → last < blocks view.level4
    → first_not (ivfc.verified view image 4) first (suc last - first) ≡ first_not (verified (version_of view image).verified) first (suc last - first)
first_is view image first last o h = first_cong _ _ first (suc last - first) (λ a f k. vouched_at view image a (omega arith))

-- the blocks that some bytes of level 4 touch
pub touched : (l : Level) (at n : ℕ) → 1 ≤ n → at + n ≤ l.size → (block_of l at ≤ block_of l (at + (n - 1))) × (block_of l (at + (n - 1)) < blocks l)
touched l at n o h = (block_mono l at (at + (n - 1)) (omega arith), block_exists l (at + (n - 1)) (omega arith))

module _ (view : View) (image : List ℕ) (at n first last : ℕ) (o : 1 ≤ n) (h : at + n ≤ view.level4.size) (f : first ≡ block_of view.level4 at)
    (l : last ≡ block_of view.level4 (at + (n - 1))) where
  ends : last ≡ (at + n - 1) / 2 ^ view.level4.log
  unfolding block_of block_size
  ends = let s : at + (n - 1) ≡ at + n - 1 = omega arith in l ∙ ap (λ (x : ℕ). x / 2 ^ view.level4.log) s

  lowest_is : first_not (ivfc.verified view image 4) first (suc last - first) ≡ first_not (verified (version_of view image).verified) (at / 2 ^ view.level4.log) (suc ((at + n - 1) / 2 ^ view.level4.log) - at / 2 ^ view.level4.log)
  unfolding block_of block_size
  lowest_is =
      let t = touched view.level4 at n o h in
      first_is view image first last (omega (arith, f, l, t.0)) (omega (arith, l, t.1))
      ∙ ap₂ (λ (x y : ℕ). first_not (verified (version_of view image).verified) x (suc y - x)) f ends

  pub read_whole : last < first_not (ivfc.verified view image 4) first (suc last - first) → Ok at ≡ read_at (version_of view image).verified view.level4.log at n
  read_whole k = read_yes _ _ at n _ lowest_is (omega (arith, ends))

  pub read_refused : (b : ℕ) → b ≡ first_not (ivfc.verified view image 4) first (suc last - first) → b ≤ last
      → Err (entry.Unverified b) ≡ read_at (version_of view image).verified view.level4.log at n
  read_refused b e k = read_no _ _ at n b (e ∙ lowest_is) (omega (arith, ends))

-- ---- the search for a block

first_step : (P : ℕ → Bool) (b n : ℕ) → P b ≡ true → first_not P b (suc n) ≡ first_not P (suc b) n
unfolding first_not
first_step P b n h = ap (λ (t : Bool). cond t (first_not P (suc b) n) b) h

first_stop : (P : ℕ → Bool) (b n : ℕ) → P b ≡ false → first_not P b (suc n) ≡ b
unfolding first_not
first_stop P b n h = ap (λ (t : Bool). cond t (first_not P (suc b) n) b) h

pub first_good : (P : ℕ → Bool) (b last : ℕ) → b ≤ last → P b ≡ true → first_not P b (suc last - b) ≡ first_not P (b + 1) (suc last - (b + 1))
first_good P b last l h =
    let n : suc last - b ≡ suc (suc last - suc b) = omega arith in
    rw (n, add-one b) (first_step P b (suc last - suc b) h)

pub first_bad : (P : ℕ → Bool) (b last : ℕ) → b ≤ last → P b ≡ false → first_not P b (suc last - b) ≡ b
first_bad P b last l h =
    let n : suc last - b ≡ suc (suc last - suc b) = omega arith in
    rw n (first_stop P b (suc last - suc b) h)

first_none : (P : ℕ → Bool) (b last : ℕ) → last < b → first_not P b (suc last - b) ≡ b
unfolding first_not
first_none P b last l =
    let n : suc last - b ≡ 0 = omega arith in
    rw n

-- the last block, b, is verified too
pub first_passed : (P : ℕ → Bool) (first b last : ℕ) → b ≡ last → first_not P first (suc last - first) ≡ first_not P b (suc last - b) → P b ≡ true
    → last < first_not P first (suc last - first)
first_passed P first b last e h p = omega (arith, h, first_good P b last (omega arith) p, first_none P (b + 1) last (omega arith))

-- the header that was gathered
pub header_is : (view : View) (image : List ℕ) → 0x88 ≤ view.level4.size → bytes (content_of view image 4) 0 0x88 ≡ header_of (version_of view image).bytes
unfolding version_of header_of
header_is view image h = sym (bytes_inner (content_of view image 4) 0 view.level4.size 0 0x88 h)
