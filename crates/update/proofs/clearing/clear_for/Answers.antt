-- `clear_for`: a block at an end that is not covered in full is verified. Assumes nothing.
use Prim.Native.Nat.{ℕ, ◌+◌, ◌≤◌, ◌<◌, ◌^◌}
use native.Mathlib.Omega.{arith}
use lib.ListN.{length}
use mathlib.Core.List.{List}
use mathlib.Core.Path.{◌≡◌}
use Rattle.number.specs.declared.Level.{Level}
use Rattle.dpfs.specs.declared.Space.{Space}
use Rattle.ivfc.specs.declared.View.{View}
use Rattle.ivfc.specs.Views.{level_of}
use Rattle.update.specs.Rules.{EndsRules}
use Rattle.number.specs.Blocks.{blocks}
use Rattle.ivfc.proofs.ViewLaws.{level_small}
use Rattle.update.proofs.StagedLaws.{staged}
use Rattle.update.proofs.CodeLaws.{ends_fit, ends_ordered, ends_exist, first_known, last_known}
use Rattle.update.proofs.clearing.clear_for.Goals as goal

-- what is asked of a block at an end
asked : (space : Space) (view : View) (image : List ℕ) (x n first last : ℕ) → EndsRules space view image x n first last → (l : Level) → l ≡ level_of view 4
    → (b : ℕ) → b ≤ last → (l.log ≤ 16) × (l.size ≤ 0x4000000) × (b < blocks l) × (x + n < 2 ^ 64)
asked space view image x n first last w l e b o =
    let small = level_small view (length image) (staged w.own).rules 4 (omega arith) in (
      rw e ((staged w.own).rules.hash.logs 4 (omega arith)).1,
      rw e small,
      rw e (omega (arith, ends_exist space view image x n first last w)),
      omega (arith, ends_fit space view image x n first last w, small),
    )

pub covers-front-requires : goal.covers-front-requires
covers-front-requires c =
    let a = c.args in
    asked a.space a.view a.image.now a.x a.n a.first a.last c.requires _ c.level_of-level.ensures a.first
    (ends_ordered a.space a.view a.image.now a.x a.n a.first a.last c.requires)

pub covers-back-requires : goal.covers-back-requires
covers-back-requires c =
    let a = c.args in
    asked a.space a.view a.image.now a.x a.n a.first a.last c.requires _ c.level_of-level.ensures a.last (omega arith)

pub clear_above-requires : goal.clear_above-requires
clear_above-requires c =
    let a = c.args in
    let e = c.level_of-level.ensures in record {
      staged_in = (
        c.requires.own,
        omega arith,
        ends_ordered a.space a.view a.image.now a.x a.n a.first a.last c.requires,
        ends_exist a.space a.view a.image.now a.x a.n a.first a.last c.requires,
      );
      first_value = (
        first_known a.space a.view a.image.now a.x a.n a.first a.last c.requires _ e c.covers-front.result c.covers-front.ensures,
        last_known a.space a.view a.image.now a.x a.n a.first a.last c.requires _ e c.covers-back.result c.covers-back.ensures,
      );
    }
