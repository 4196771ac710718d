-- Two views that see the same bytes have the same version. Assumes nothing.
use mathlib.Core.Path.{◌≡◌, refl, ap, ◌∙◌}
use mathlib.Core.Bool.{Bool, true, false, cond}
use mathlib.Core.List.{List}
use Prim.Native.Nat.{ℕ, zero, suc, ◌+◌, ◌≤◌, ◌<◌}
use native.Mathlib.Omega.{arith}
use lib.ListN.{get_or}
use Rattle.number.specs.declared.Level.{Level}
use Rattle.number.specs.Blocks.{blocks}
use Rattle.number.specs.Bytes.{bytes}
use Rattle.number.proofs.ListLaws.{bytes_cong}
use Rattle.dpfs.specs.Tree.{content}
use Rattle.ivfc.specs.declared.View.{View}
use Rattle.ivfc.specs.Views.{level_of, inner_byte, content_of, verified}
use Rattle.ivfc.specs.Rules.{ViewRules}
use Rattle.ivfc.proofs.VerifiedLaws.{view_verified_cong}
use Rattle.views.specs.Versions.{flags, version_of}
use Rattle.views.proofs.FlagLaws.{flags_cong}

-- the view v of s and the view w of t have the same levels, master hash, DPFS level 3 and external level 4
pub record SameSeen (v w : View) (s t : List ℕ) : Type 0 where
  pub masters : v.master.size ≡ w.master.size
  pub level1 : v.level1 ≡ w.level1
  pub level2 : v.level2 ≡ w.level2
  pub level3 : v.level3 ≡ w.level3
  pub level4 : v.level4 ≡ w.level4
  pub external : v.external ≡ w.external
  pub master : (y : ℕ) → y < v.master.size → get_or s (v.master.offset + y) 0 ≡ get_or t (w.master.offset + y) 0
  pub inner : (z : ℕ) → z < v.tree.level3.size → content v.tree s v.half z ≡ content w.tree t w.half z
  pub outer : v.external ≡ true → (y : ℕ) → y < v.level4.size → get_or s (v.outside + y) 0 ≡ get_or t (w.outside + y) 0

module _ (v w : View) (s t : List ℕ) (n : ℕ) (rules : ViewRules v n) (seen : SameSeen v w s t) where
  same_levels : (i : ℕ) → i ≤ 4 → level_of v i ≡ level_of w i
  unfolding level_of
  same_levels zero h = ap (λ (x : ℕ). record { offset = 0; size = x; log = 5 }) seen.masters
  same_levels (suc zero) h = seen.level1
  same_levels (suc (suc zero)) h = seen.level2
  same_levels (suc (suc (suc zero))) h = seen.level3
  same_levels (suc (suc (suc (suc i)))) h = seen.level4

  -- a level inside DPFS level 3
  inner_level : (l m : Level) (y : ℕ) → l ≡ m → l.offset + l.size ≤ v.tree.level3.size → y < l.size → inner_byte v s l y ≡ inner_byte w t m y
  unfolding inner_byte
  inner_level l m y e h k = seen.inner (l.offset + y) (omega arith) ∙ ap (λ (x : Level). content w.tree t w.half (x.offset + y)) e

  same_content : (i y : ℕ) → i ≤ 4 → y < (level_of v i).size → content_of v s i y ≡ content_of w t i y
  unfolding level_of content_of
  same_content zero y h k = seen.master y k
  same_content (suc zero) y h k = inner_level v.level1 w.level1 y seen.level1 rules.inner1 k
  same_content (suc (suc zero)) y h k = inner_level v.level2 w.level2 y seen.level2 rules.inner2 k
  same_content (suc (suc (suc zero))) y h k = inner_level v.level3 w.level3 y seen.level3 rules.inner3 k
  same_content (suc (suc (suc (suc i)))) y h k =
      by v.external refl ∙ ap (λ (x : Bool). cond x (get_or t (w.outside + y) 0) (inner_byte w t w.level4 y)) seen.external
    where
      by : (a : Bool) → v.external ≡ a
          → cond a (get_or s (v.outside + y) 0) (inner_byte v s v.level4 y) ≡ cond a (get_or t (w.outside + y) 0) (inner_byte w t w.level4 y)
      by true e = seen.outer e y k
      by false e = inner_level v.level4 w.level4 y seen.level4 (rules.inner4 e) k

  pub same_verified : (i b : ℕ) → i ≤ 4 → b < blocks (level_of v i) → verified v s i b ≡ verified w t i b
  same_verified = view_verified_cong v w s t n rules same_levels same_content

  pub same_version : version_of v s ≡ version_of w t
  unfolding version_of level_of
  same_version =
      let b : bytes (content_of v s 4) 0 v.level4.size ≡ bytes (content_of w t 4) 0 w.level4.size =
      bytes_cong (content_of v s 4) (content_of w t 4) 0 0 v.level4.size (λ k h. same_content 4 (0 + k) (omega arith) (omega arith))
      ∙ ap (λ (l : Level). bytes (content_of w t 4) 0 l.size) seen.level4 in
      let f : flags (verified v s 4) 0 (blocks v.level4) ≡ flags (verified w t 4) 0 (blocks w.level4) =
      flags_cong (verified v s 4) (verified w t 4) 0 (blocks v.level4)
      (λ k h. same_verified 4 (0 + k) (omega arith) (omega arith))
      ∙ ap (λ (l : Level). flags (verified w t 4) 0 (blocks l)) seen.level4 in
      λ i. record { level = seen.level4 i; bytes = b i; verified = f i }
