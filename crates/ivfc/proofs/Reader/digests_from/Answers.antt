-- `digests_from` gives the digests of eight whole blocks that stand in one piece, or that of one block. Assumes nothing.
use Prim.Native.Nat.{ℕ, ◌+◌, ◌*◌, ◌≤◌}
use mathlib.Core.Path.{◌≡◌, sym, ap, ◌∙◌}
use native.Mathlib.Omega.{arith}
use lib.ListN.{length}
use Rattle.number.specs.declared.Level.{Level}
use Rattle.number.specs.Blocks.{block_size}
use Rattle.dpfs.proofs.RunLaws.{size_small}
use Rattle.ivfc.specs.Views.{level_of, content_of}
use Rattle.ivfc.proofs.ViewLaws.{level_small}
use Rattle.ivfc.proofs.DigestLaws.{eight_fit, size_even, eight_length, eight_all}
use Rattle.ivfc.proofs.ReaderLaws.{rules_of}
use Rattle.ivfc.proofs.Reader.digests_from.Goals as goal
use Rattle.ivfc.proofs.Reader.digests_from.Goals.{After-level_of-level, After-block_size-unit, Then-piece-unit}

log : (c : After-level_of-level) → c.level_of-level.result.log ≤ 16
log c =
    rw c.level_of-level.ensures ((rules_of c.args.self).hash.logs c.args.i c.requires.0).1

small : (c : After-level_of-level) → (level_of c.args.self.view c.args.i).size ≤ 0x4000000
small c =
    level_small c.args.self.view _ (rules_of c.args.self) c.args.i c.requires.0

pub eight_whole-requires : goal.eight_whole-requires
eight_whole-requires c =
    let at = (goal.at.eight_whole-requires c).After-level_of-level in
    (log at, c.requires.1, rw c.level_of-level.ensures c.requires.2, rw c.level_of-level.ensures (small at))

pub block_size-unit-requires : goal.block_size-unit-requires
block_size-unit-requires c = omega (arith, log (goal.at.block_size-unit-requires c).After-level_of-level)

-- what the test says of the level
fit : (c : After-block_size-unit) → (64 ≤ block_size (level_of c.args.self.view c.args.i))
    × (c.args.b + 8 ≤ c.args.end)
    × ((c.args.b + 8) * block_size (level_of c.args.self.view c.args.i) ≤ (level_of c.args.self.view c.args.i).size)
fit c =
    let a = c.args in
    eight_fit (level_of a.self.view a.i) a.b a.end
    (rw (← c.level_of-level.ensures) (sym c.eight_whole.ensures ∙ c.if-eight_whole.true))

unit : (c : After-block_size-unit) → c.block_size-unit.result ≡ block_size (level_of c.args.self.view c.args.i)
unit c = c.block_size-unit.ensures.0 ∙ ap block_size c.level_of-level.ensures

-- so the eight blocks lie in the level
inside : (c : After-block_size-unit) → (c.args.b + 8) * c.block_size-unit.result ≤ (level_of c.args.self.view c.args.i).size
inside c = rw (unit c) (fit c).2

pub overflow_mul-b : goal.overflow_mul-b
overflow_mul-b c =
    let at = goal.at.overflow_mul-b c in
    record { fits = omega (arith, inside at.After-block_size-unit, small at.After-level_of-level) }

pub overflow_add-b : goal.overflow_add-b
overflow_add-b c = record { fits = omega (arith, (fit (goal.at.overflow_add-b c).After-block_size-unit).1) }

pub overflow_mul-b-then-eight_whole : goal.overflow_mul-b-then-eight_whole
overflow_mul-b-then-eight_whole c =
    let at = goal.at.overflow_mul-b-then-eight_whole c in
    record { fits = omega (arith, inside at.After-block_size-unit, small at.After-level_of-level) }

pub run_of-piece-requires : goal.run_of-piece-requires
run_of-piece-requires c =
    (c.requires.0, omega (arith, c.block_size-unit.ensures.1), inside (goal.at.run_of-piece-requires c).After-block_size-unit)

pub overflow_mul-unit : goal.overflow_mul-unit
overflow_mul-unit c =
    let at = goal.at.overflow_mul-unit c in
    record { fits = omega (arith, inside at.After-block_size-unit, small at.After-level_of-level) }

-- the piece is eight messages of whole blocks of SHA-256
whole : (c : Then-piece-unit) → length c.run_of-piece.result.now ≡ 8 * c.block_size-unit.result
whole c = omega (arith, c.if-piece-unit.true)

pub digest_eight-bytes-requires : goal.digest_eight-bytes-requires
digest_eight-bytes-requires c =
    let at = goal.at.digest_eight-bytes-requires c in (
      whole at.Then-piece-unit,
      rw (unit at.After-block_size-unit) (size_even _ (fit at.After-block_size-unit).0),
      omega (
        arith,
        c.block_size-unit.ensures.0,
        size_small c.level_of-level.result (log at.After-level_of-level),
      ),
    )

pub returns-then-piece-unit : goal.returns-then-piece-unit
returns-then-piece-unit c =
    let a = c.args in
    let l : Level = level_of a.self.view a.i in
    let f : ℕ → ℕ = content_of a.self.view a.self.image.now a.i in
    let at = goal.at.returns-then-piece-unit c in
    let u = unit at.After-block_size-unit in
    let (many, before, inner) = fit at.After-block_size-unit in
    let run = c.run_of-piece in
    let n = whole at.Then-piece-unit in record {
      count_nonzero = (
        omega arith,
        omega arith,
        before,
        eight_length l f a.b _ run.result.now c.digest_eight-bytes.result u inner run.ensures.0 n c.digest_eight-bytes.ensures,
      );
      bytes_value = eight_all l f a.b _ run.result.now c.digest_eight-bytes.result u inner run.ensures.0 n c.digest_eight-bytes.ensures;
    }

pub returns : goal.returns
returns c =
    let (one, long, e) = c.digest_one.ensures in
    record { count_nonzero = (omega arith, omega arith, omega arith, long); bytes_value = rw one e }
