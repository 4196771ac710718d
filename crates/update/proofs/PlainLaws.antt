-- Where each hash block above a write is verified, nothing is emptied: the bytes are put and the entries brought up to date, and that is all.
-- Assumes nothing.
use mathlib.Core.Path.{◌≡◌, refl, ap, ◌∙◌}
use mathlib.Core.List.{List, ◌∷◌}
use mathlib.Core.Bool.{Bool, true}
use Prim.Native.Nat.{ℕ, zero, suc, ◌+◌, ◌-◌, ◌≤◌, max}
use native.Mathlib.Omega.{arith}
use lib.ListN.{length}
use Rattle.number.specs.declared.Level.{Level}
use Rattle.number.specs.Blocks.{block_of, last_block, touches}
use Rattle.number.proofs.Tests.{and_right}
use Rattle.number.proofs.BlockLaws.{block_mono, touches_in}
use Rattle.ivfc.specs.Blocks.{parent, child}
use Rattle.ivfc.specs.Verified.{matches, verified}
use Rattle.ivfc.specs.Rules.{TreeRules}
use Rattle.ivfc.proofs.EntryLaws.{parent_mono, child_between}
use Rattle.update.specs.Writing.{cleared, rehashed, written}
use Rattle.update.proofs.EmptyLaws.{emptied_none}

module _ (levels : ℕ → Level) (rules : TreeRules levels) {S : Type 0} (read : S → ℕ → ℕ → ℕ) (put : ℕ → ℕ → List ℕ → S → S) (start : S) where
  abbrev stood : ℕ → ℕ → Bool
  stood = verified levels (read start)

  -- with the blocks first .. last of level i themselves verified, all above them are
  cleared_below : (i first last : ℕ) (s : S) → i ≤ 4 → first ≤ last → ((b : ℕ) → first ≤ b → b ≤ last → stood i b ≡ true)
      → cleared levels read put stood i first last s ≡ s
  unfolding cleared verified
  cleared_below zero first last s h o v = refl
  cleared_below (suc i) first last s h o v =
      emptied_none levels read put (stood i) i (parent (levels i) first) (suc (parent (levels i) last) - parent (levels i) first) _
      (λ a f l. all a f (omega (arith, parent_mono (levels i) first last o)))
      ∙ cleared_below i (parent (levels i) first) (parent (levels i) last) s (omega arith) (parent_mono (levels i) first last o) all
    where
      all : (a : ℕ) → parent (levels i) first ≤ a → a ≤ parent (levels i) last → stood i a ≡ true
      all a f l =
          let (x, y, e) = child_between (levels i) (rules.logs i (omega arith)).0 first last a o f l in
          rw (← e) (and_right (matches levels (read start) (suc i) (max first (child (levels i) a))) _ (v (max first (child (levels i) a)) x y))

  -- with the blocks that hold the entries of first .. last verified
  pub cleared_plain : (i first last : ℕ) (s : S) → suc i ≤ 4 → first ≤ last
      → ((b : ℕ) → first ≤ b → b ≤ last → stood i (parent (levels i) b) ≡ true) → cleared levels read put stood (suc i) first last s ≡ s
  unfolding cleared
  cleared_plain i first last s h o v =
      emptied_none levels read put (stood i) i (parent (levels i) first) (suc (parent (levels i) last) - parent (levels i) first) _
      (λ a f l. all a f (omega (arith, parent_mono (levels i) first last o)))
      ∙ cleared_below i (parent (levels i) first) (parent (levels i) last) s (omega arith) (parent_mono (levels i) first last o) all
    where
      all : (a : ℕ) → parent (levels i) first ≤ a → a ≤ parent (levels i) last → stood i a ≡ true
      all a f l =
          let (x, y, e) = child_between (levels i) (rules.logs i (omega arith)).0 first last a o f l in
          rw (← e) (v (max first (child (levels i) a)) x y)

  -- so a write is what it was before blocks were rebuilt
  pub written_plain : (i x value : ℕ) (values : List ℕ) → suc i ≤ 4
      → ((b : ℕ) → touches (levels (suc i)) x (length (value ∷ values)) b ≡ true → stood i (parent (levels i) b) ≡ true)
      → written levels read put (suc i) x (value ∷ values) start
      ≡ rehashed levels read put (suc i) (block_of (levels (suc i)) x) (last_block (levels (suc i)) x (length (value ∷ values))) (put (suc i) x (value ∷ values) start)
  unfolding written last_block
  written_plain i x value values h v =
      ap (λ (s : S). rehashed levels read put (suc i) (block_of (levels (suc i)) x) (block_of (levels (suc i)) (x + length (value ∷ values) - 1)) (put (suc i) x (value ∷ values) s))
      (cleared_plain i (block_of (levels (suc i)) x) (block_of (levels (suc i)) (x + length (value ∷ values) - 1)) start h
      (block_mono (levels (suc i)) x (x + length (value ∷ values) - 1) (omega arith))
      (λ b f l. v b (touches_in (levels (suc i)) x (length (value ∷ values)) b (omega arith) f l)))
