-- The hash tree of a blank image: every block is verified. Assumes nothing.
use Prim.Native.Nat.{ℕ, zero, suc, ◌+◌, ◌*◌, ◌≤◌, ◌<◌}
use mathlib.Core.Bool.{true, false}
use mathlib.Core.Path.{◌≡◌, refl, ap, ◌∙◌}
use native.Mathlib.Omega.{arith}
use native.Mathlib.Nat.{zero-add}
use lib.ListN.{get_or, take, drop}
use Rattle.number.specs.declared.Level.{Level}
use Rattle.number.specs.Blocks.{blocks}
use Rattle.number.proofs.Tests.{and_both}
use Rattle.number.proofs.ListLaws.{bytes_part}
use Rattle.sha256.specs.Sha256.{sha256}
use Rattle.ivfc.specs.Blocks.{block, entry, parent}
use Rattle.ivfc.specs.Verified.{vouches, matches, verified}
use Rattle.ivfc.specs.Rows.{digests}
use Rattle.ivfc.specs.Rules.{TreeRules}
use Rattle.ivfc.proofs.EntryLaws.{entry_cong}
use Rattle.ivfc.proofs.VerifiedLaws.{parent_inside}
use Rattle.ivfc.proofs.DigestLaws.{length_digests, digest_at}
use Rattle.blank.specs.Making.{some_zero}
use Rattle.blank_theorem.proofs.ZeroLaws.{none_zero}
use Rattle.update.proofs.EmptyLaws.{own_vouches}

-- entry b of the digests of a level's blocks is the digest of block b
pub own_entry : (l : Level) (f : ℕ → ℕ) (b : ℕ) → b < blocks l
    → entry (λ (y : ℕ). get_or (digests l f 0 (blocks l)) y 0) b ≡ sha256 (block l f b)
unfolding entry
own_entry l f b h =
    let e : 32 * b ≡ b * 32 = omega arith in
    bytes_part (digests l f 0 (blocks l)) (32 * b) 32 (omega (arith, length_digests l f 0 (blocks l)))
    ∙ ap (λ (x : ℕ). take 32 (drop x (digests l f 0 (blocks l)))) e
    ∙ digest_at l f 0 (blocks l) b h
    ∙ ap (λ (x : ℕ). sha256 (block l f x)) (zero-add b)

-- where each level holds the digests of the next one's blocks, none of them all zero, all blocks are verified
module _ (levels : ℕ → Level) (content : ℕ → ℕ → ℕ) (rules : TreeRules levels)
    (holds : (i : ℕ) → i < 4 → (y : ℕ) → content i y ≡ get_or (digests (levels (suc i)) (content (suc i)) 0 (blocks (levels (suc i)))) y 0)
    (none : (i : ℕ) → i < 4 → some_zero (levels (suc i)) (content (suc i)) (blocks (levels (suc i))) ≡ false) where
  own : (i b : ℕ) → i < 4 → b < blocks (levels (suc i)) → entry (content i) b ≡ sha256 (block (levels (suc i)) (content (suc i)) b)
  own i b k h =
      entry_cong (content i) (λ (y : ℕ). get_or (digests (levels (suc i)) (content (suc i)) 0 (blocks (levels (suc i)))) y 0) b
      (λ m q. holds i k (32 * b + m))
      ∙ own_entry (levels (suc i)) (content (suc i)) b h

  own_matches : (i b : ℕ) → i < 4 → b < blocks (levels (suc i)) → matches levels content (suc i) b ≡ true
  unfolding matches
  own_matches i b k h =
      ap (vouches (sha256 (block (levels (suc i)) (content (suc i)) b))) (own i b k h)
      ∙ own_vouches (sha256 (block (levels (suc i)) (content (suc i)) b))
      (none_zero (levels (suc i)) (content (suc i)) (blocks (levels (suc i))) b (none i k) h)

  pub all_verified : (i b : ℕ) → i ≤ 4 → b < blocks (levels i) → verified levels content i b ≡ true
  unfolding verified
  all_verified zero b k h = refl
  all_verified (suc i) b k h =
      and_both (matches levels content (suc i) b) (verified levels content i (parent (levels i) b)) (own_matches i b k h)
      (all_verified i (parent (levels i) b) (omega arith) (parent_inside levels rules i b k h))
