use mathlib.Core.Path.{◌≡◌, sym, ap, ◌∙◌}
use Prim.Native.Nat.{ℕ}
use lib.ListN.{length}
use lib.Seq.{sets}
use Rattle.views.specs.Places.{partitions}
use Rattle.faults.specs.Faults.{partitions_from, all_blocks, kept}
use Rattle.faults.specs.Marking.{is_unmarked}
use native.Mathlib.Omega.{arith}
use Rattle.faults.proofs.ListLaws.{none_there, partition_next}
use Rattle.faults.proofs.NumberLaws.{number_start}
use Rattle.faults.proofs.ListingLaws.{lists_none, lists_join, sets_front}
use Rattle.faults.proofs.listing.fill.Goals as goal

pub loop-q-init : goal.loop-q-init
loop-q-init c =
    (lists_none c.args.c c.args.marks.now c.args.row.now 0 _ (none_there c.args.c 0 1 0).2, record { blocks = sym (number_start c.args.c); faults = omega arith })

pub loop-q-preserved : goal.loop-q-preserved
loop-q-preserved c =
    let a = c.args in
    let l = c.loop-q in
    let e = c.list_partition-listed.ensures in
    (lists_join a.c a.marks.now a.row.now _ _ _ _ _ _ _ _ l.invariant.0 e.lists (partition_next a.c l.q), e.reaches)

pub returns : goal.returns
returns c =
    let a = c.args in
    let l = c.loop-q in
    let F = is_unmarked a.c a.marks.now in
    let e : l.q ≡ partitions a.c = omega arith in
    let all = ap (λ (n : ℕ). kept F (partitions_from a.c 0 n)) e in
    (omega (arith, l.invariant.0.counted, ap length all), l.invariant.0.stored ∙ ap (sets a.row.now 0) all ∙ sets_front (kept F (all_blocks a.c)) a.row.now)
