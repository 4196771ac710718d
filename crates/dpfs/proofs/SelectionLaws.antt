-- A selection says that its tree lies in the image as the rules say, once: so it does, part by part. Assumes nothing.
use Prim.Native.Nat.{ℕ, ◌+◌, ◌≤◌}
use mathlib.Core.Logic.{∥∥₁_elim, ∥∥₁_map, ⊎_elim, inl, inr}
use mathlib.Core.HLevel.{×_prop}
use native.Mathlib.Bridge.{le_prop}
use native.Mathlib.Decide.{dec_le}
use base.Stored.{Coded-set, coded_ℕ}
use lib.ListN.{length}
use Rattle.number.specs.declared.Range.{Range}
use Rattle.number.specs.Ranges.{Apart}
use Rattle.dpfs.specs.declared.Tree.{Tree}
use Rattle.dpfs.specs.declared.Selection.{Selection}
use Rattle.dpfs.specs.Rules.{WellPlaced}

-- of two ranges that are apart, it can be said which comes first
which : (a b : Range) → ∥ Apart a b ∥₁ → Apart a b
which a b h = go (dec_le (a.offset + a.size) b.offset)
  where
    go : Dec (a.offset + a.size ≤ b.offset) → Apart a b
    go (yes p) = inl p
    go (no p) = inr (∥∥₁_elim h le_prop (⊎_elim (λ q. absurd (p q)) (λ q. q)))

pub well_placed : (tree : Tree) (n : ℕ) → ∥ WellPlaced tree n ∥₁ → WellPlaced tree n
well_placed tree n h = record {
  log2 = out (×_prop le_prop le_prop) (λ w. w.log2);
  log3 = out (×_prop le_prop le_prop) (λ w. w.log3);
  some1 = out le_prop (λ w. w.some1);
  words1 = out (Coded-set coded_ℕ _ _) (λ w. w.words1);
  words2 = out (Coded-set coded_ℕ _ _) (λ w. w.words2);
  inside1 = out le_prop (λ w. w.inside1);
  inside2 = out le_prop (λ w. w.inside2);
  inside3 = out le_prop (λ w. w.inside3);
  apart12 = which _ _ (∥∥₁_map h (λ w. w.apart12));
  apart13 = which _ _ (∥∥₁_map h (λ w. w.apart13));
  apart23 = which _ _ (∥∥₁_map h (λ w. w.apart23));
  bits1 = out le_prop (λ w. w.bits1);
  bits2 = out le_prop (λ w. w.bits2);
  limit = out le_prop (λ w. w.limit);
}
  where
    out : {A : Type 0} → IsProp A → (WellPlaced tree n → A) → A
    out p f = ∥∥₁_elim h p f

pub placed_of : (selection : Selection) → WellPlaced selection.tree (length selection.image.now)
placed_of selection = well_placed _ _ selection.placed
