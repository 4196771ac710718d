-- `write_blocks` empties, puts the bytes, brings the entries above them up to date, and looks at these. Assumes nothing.
use native.Mathlib.Omega.{arith}
use lib.ListN.{length}
use mathlib.Core.List.{List}
use mathlib.Core.Path.{◌≡◌}
use Prim.Native.Nat.{ℕ}
use Rattle.dpfs.specs.declared.Space.{Space}
use Rattle.ivfc.specs.declared.View.{View}
use Rattle.update.specs.Rules.{StagedIn, EndsRules}
use Rattle.update.proofs.StagedLaws.{staged}
use Rattle.update.proofs.ClearLaws.{all_cleared, cleared_kept}
use Rattle.update.proofs.CodeLaws.{put_kept, ends_fit, ends_ordered, ends_exist, write_done, held_done}
use Rattle.update.proofs.write_blocks.Goals as goal

-- what is left when the hash blocks are emptied
emptied : (space : Space) (view : View) (image : List ℕ) (x n first last : ℕ) → EndsRules space view image x n first last → (after : List ℕ)
    → after ≡ all_cleared view 4 first last image → StagedIn space view after
emptied space view image x n first last w after e =
    cleared_kept w.own 4 first last (omega arith) (ends_ordered space view image x n first last w) (ends_exist space view image x n first last w) after e

pub put_level-requires : goal.put_level-requires
put_level-requires c =
    let a = c.args in (
      emptied a.space a.view a.image.now a.x (length a.values.now) a.first a.last c.requires _ c.clear_for.ensures,
      omega arith,
      ends_fit a.space a.view a.image.now a.x (length a.values.now) a.first a.last c.requires,
    )

pub rehash-requires : goal.rehash-requires
rehash-requires c =
    let a = c.args in (
      put_kept (emptied a.space a.view a.image.now a.x (length a.values.now) a.first a.last c.requires _ c.clear_for.ensures) 4 a.x a.values.now _ (omega arith)
          (ends_fit a.space a.view a.image.now a.x (length a.values.now) a.first a.last c.requires) c.put_level.ensures,
      omega arith,
      ends_ordered a.space a.view a.image.now a.x (length a.values.now) a.first a.last c.requires,
      ends_exist a.space a.view a.image.now a.x (length a.values.now) a.first a.last c.requires,
    )

pub invariant_of-zero_held : goal.invariant_of-zero_held
invariant_of-zero_held c =
    record { rules = ∣ rw (c.rehash.auto.image, c.put_level.auto.image, c.clear_for.auto.image) (staged c.requires.own).rules ∣₁ }

pub zero_held-requires : goal.zero_held-requires
zero_held-requires c =
    let a = c.args in (
      omega arith,
      ends_ordered a.space a.view a.image.now a.x (length a.values.now) a.first a.last c.requires,
      ends_exist a.space a.view a.image.now a.x (length a.values.now) a.first a.last c.requires,
    )

pub returns : goal.returns
returns c =
    let a = c.args in (
      write_done a.space a.view a.image.now a.x a.values.now a.first a.last c.requires _ _ _
          c.clear_for.ensures
          c.put_level.ensures c.rehash.ensures,
      held_done a.space a.view a.image.now a.x a.values.now a.first a.last c.requires _ c.zero_held.result c.zero_held.ensures,
    )
