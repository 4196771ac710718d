-- `compare_from` compares the digests of some blocks with as many entries, one level higher. Assumes nothing.
use Prim.Native.Nat.{ℕ, ◌+◌, ◌-◌, ◌*◌, ◌≤◌}
use mathlib.Core.Path.{◌≡◌, sym, ap, ◌∙◌}
use mathlib.Core.List.{List, ◌++◌}
use native.Mathlib.Omega.{arith}
use native.Mathlib.Nat.{mul_comm}
use lib.ListN.{length, take, drop, replicate}
use lib.Seq.{length-take-le}
use Rattle.number.specs.declared.Level.{Level}
use Rattle.number.specs.Bytes.{bytes}
use Rattle.ivfc.specs.Rows.{digests}
use Rattle.ivfc.specs.Views.{level_of, content_of}
use Rattle.ivfc.proofs.ViewLaws.{level_small}
use Rattle.ivfc.proofs.DigestLaws.{row_fits, row_length, row_entries, agrees, row_before, row_matching, entries_above}
use Rattle.ivfc.proofs.ReaderLaws.{rules_of}
use Rattle.ivfc.proofs.Reader.compare_from.Goals as goal
use Rattle.ivfc.proofs.Reader.compare_from.Goals.{After-digests_from-digests, After-gather}

-- how many bytes the digests and the entries have
abbrev size : After-digests_from-digests → ℕ
size c = c.digests_from-digests.result.count * 32

few : (c : After-digests_from-digests) → size c ≤ 256
few c = omega (arith, c.digests_from-digests.ensures.count_nonzero.1)

zeros : (c : After-digests_from-digests) → length {A = ℕ} (take (size c) (replicate 256 0)) ≡ size c
zeros c = length-take-le {A = ℕ} (size c) (replicate 256 0) (few c)

-- the entries are there
inside : (c : After-digests_from-digests)
    → (c.args.b * 32 + size c ≤ (level_of c.args.self.view (c.args.i - 1)).size)
    × ((level_of c.args.self.view (c.args.i - 1)).size ≤ 0x4000000)
inside c =
    let (some, most, ends, long) = c.digests_from-digests.ensures.count_nonzero in (
      entries_above (level_of c.args.self.view) (rules_of c.args.self).hash c.args.i c.args.b _ c.args.end c.requires.0 c.requires.1 ends c.requires.3 some,
      level_small c.args.self.view _ (rules_of c.args.self) (c.args.i - 1) (omega arith),
    )

pub overflow_mul-b : goal.overflow_mul-b
overflow_mul-b c = record { fits = omega (arith, inside (goal.at.overflow_mul-b c).After-digests_from-digests) }

pub slice_bounds-entries-end : goal.slice_bounds-entries-end
slice_bounds-entries-end c = few (goal.at.slice_bounds-entries-end c).After-digests_from-digests

pub slice_bounds-gather-end : goal.slice_bounds-gather-end
slice_bounds-gather-end c = sym (zeros (goal.at.slice_bounds-gather-end c).After-digests_from-digests)

pub gather-requires : goal.gather-requires
gather-requires c =
    let at = (goal.at.gather-requires c).After-digests_from-digests in
    (omega arith, rw (zeros at) (omega (arith, inside at)))

hashes-long : (c : After-digests_from-digests) → length (take (size c) c.digests_from-digests.result.bytes) ≡ size c
hashes-long c = length-take-le (size c) c.digests_from-digests.result.bytes (omega (arith, few c, c.digests_from-digests.ensures.count_nonzero.3))

pub slice_bounds-compare-end : goal.slice_bounds-compare-end
slice_bounds-compare-end c = sym (hashes-long (goal.at.slice_bounds-compare-end c).After-digests_from-digests)

pub slice_bounds-entries-end-2 : goal.slice_bounds-entries-end-2
slice_bounds-entries-end-2 c =
    row_fits _ (replicate 256 0) c.gather.new.buffer _ (few (goal.at.slice_bounds-entries-end-2 c).After-digests_from-digests)
    c.gather.auto.buffer

-- the part of the buffer that is compared
abbrev part : After-gather → List ℕ
part c =
    take (c.digests_from-digests.result.count * 32)
    (c.gather.new.buffer ++ drop (c.digests_from-digests.result.count * 32) (replicate 256 0))

part-long : (c : After-gather) → c.digests_from-digests.result.count * 32 ≤ 256 → length (part c) ≡ c.digests_from-digests.result.count * 32
part-long c h =
    row_length _ (replicate 256 0) c.gather.new.buffer _ h
    c.gather.auto.buffer

part-is : (c : After-gather) → c.digests_from-digests.result.count * 32 ≤ 256 → let a = c.args in
    part c ≡ bytes (content_of a.self.view a.self.image.now (a.i - 1)) (a.b * 32) (c.digests_from-digests.result.count * 32)
part-is c h =
    row_entries _ (replicate 256 0) c.gather.new.buffer _ h
    c.gather.auto.buffer _ _ c.gather.ensures

pub slice_bounds-compare-end-2 : goal.slice_bounds-compare-end-2
slice_bounds-compare-end-2 c =
    let at = goal.at.slice_bounds-compare-end-2 c in
    sym (part-long at.After-gather (few at.After-digests_from-digests))

pub compare-requires : goal.compare-requires
compare-requires c =
    let n = c.digests_from-digests.result.count in
    let at = goal.at.compare-requires c in (
      hashes-long at.After-digests_from-digests ∙ mul_comm n 32,
      part-long at.After-gather (few at.After-digests_from-digests) ∙ mul_comm n 32,
      c.digests_from-digests.ensures.count_nonzero.1,
    )

pub returns : goal.returns
returns c =
    let d = c.digests_from-digests in
    let at = goal.at.returns c in
    let entries = part-is at.After-gather (few at.After-digests_from-digests) in
    let levels : ℕ → Level = level_of c.args.self.view in
    let content : ℕ → ℕ → ℕ = content_of c.args.self.view c.args.self.image.now in
    let (some, most, ends, long) = d.ensures.count_nonzero in
    let (n, before, matching) = c.compare.ensures.hashed_value in
    let hashes : take (d.result.count * 32) d.result.bytes ≡ digests (levels c.args.i) (content c.args.i) c.args.b d.result.count =
    ap (λ (m : ℕ). take m d.result.bytes) (mul_comm d.result.count 32) ∙ d.ensures.bytes_value in record {
      hashed_nonzero = (
        omega arith,
        omega arith,
        row_before levels content c.args.i c.args.b d.result.count _ _ c.requires.0 hashes entries _ _ n before,
        omega (arith, n, most),
        c.compare.ensures.each_len.0,
        λ j k.
            c.compare.ensures.each_len.1 j (omega (arith, n, k))
            ∙ agrees levels content c.args.i c.args.b d.result.count _ _ c.requires.0 hashes entries j (omega (arith, n, k)),
      );
      matching_value = row_matching levels content c.args.i c.args.b d.result.count _ _ c.requires.0 hashes entries _ _ n matching;
    }
