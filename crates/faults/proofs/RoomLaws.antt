-- There is a mark for each block of an image that opens. Each block has an entry in the level above, and the hash levels lie apart in DPFS level 3, of
-- which the image has two halves. Assumes nothing.
use Rattle.std.specs.Prelude.{Ok}
use mathlib.Core.Path.{◌≡◌, refl, ap}
use mathlib.Core.Bool.{true}
use mathlib.Core.Logic.{◌⊎◌, inl, inr}
use mathlib.Core.List.{List}
use Prim.Native.Nat.{ℕ, ◌+◌, ◌*◌, ◌≤◌, ◌<◌}
use native.Mathlib.Omega.{arith}
use lib.Dec.{leb}
use lib.ListN.{length}
use borrow.Author.Tests.{leb-true}
use Rattle.number.proofs.Tests.{and_right}
use Rattle.limits.specs.Limits.{master_allowed, size_allowed}
use Rattle.layout.specs.declared.Container.{Container}
use Rattle.layout.specs.Opening.{opened}
use Rattle.layout.specs.Guarantees.{Guarantees}
use Rattle.layout.proofs.GuaranteeLaws.{guarantees}
use Rattle.dpfs.specs.Rules.{Disjoint, WellPlaced}
use Rattle.ivfc.specs.declared.View.{View}
use Rattle.ivfc.specs.Views.{level_of}
use Rattle.ivfc.specs.Rules.{ViewRules, LevelsApart}
use Rattle.views.specs.Places.{partitions, tree_of, view_in, master_in, committed_view, space_of}
use Rattle.views.proofs.PlaceLaws.{present, committed_rules, committed_apart, tree_rules, space_rules, second_is}
use Rattle.views.proofs.FitLaws.{places_fit}
use Rattle.faults.specs.Marking.{blocks_before, partitions_before, most_blocks, Searchable}

-- three pieces of a room that lie apart
three : (o p q a b c d : ℕ) → o + a ≤ d → p + b ≤ d → q + c ≤ d → (o + a ≤ p) ⊎ (p + b ≤ o) → (o + a ≤ q) ⊎ (q + c ≤ o) → (p + b ≤ q) ⊎ (q + c ≤ p)
    → a + b + c ≤ d
three o p q a b c d x y z (inl f) (inl g) (inl h) = omega arith
three o p q a b c d x y z (inl f) (inl g) (inr h) = omega arith
three o p q a b c d x y z (inl f) (inr g) (inl h) = omega arith
three o p q a b c d x y z (inl f) (inr g) (inr h) = omega arith
three o p q a b c d x y z (inr f) (inl g) (inl h) = omega arith
three o p q a b c d x y z (inr f) (inl g) (inr h) = omega arith
three o p q a b c d x y z (inr f) (inr g) (inl h) = omega arith
three o p q a b c d x y z (inr f) (inr g) (inr h) = omega arith

-- the blocks of a view have their entries in the master hash and in DPFS level 3
view_few : (view : View) (n : ℕ) → ViewRules view n → LevelsApart view → 32 * blocks_before view 5 ≤ view.master.size + view.tree.level3.size
unfolding blocks_before level_of
view_few view n rules apart =
    omega (
      arith,
      rules.hash.enough 0 (omega arith),
      rules.hash.enough 1 (omega arith),
      rules.hash.enough 2 (omega arith),
      rules.hash.enough 3 (omega arith),
      three view.level1.offset view.level2.offset view.level3.offset view.level1.size view.level2.size view.level3.size view.tree.level3.size rules.inner1
          rules.inner2 rules.inner3 apart.apart12 apart.apart13 apart.apart23,
    )

master_few : (size : ℕ) → master_allowed size ≡ true → size ≤ 0x800
master_few size e = leb-true _ _ (and_right (size_allowed 32 size) (leb size (64 * 32)) e)

module _ (image : List ℕ) (c : Container) (g : Guarantees image c) where
  tree_is : (q : ℕ) → (committed_view c q).tree.level3.size ≡ (tree_of c q).level3.size
  unfolding committed_view view_in
  tree_is q = refl

  master_is : (q : ℕ) → q < partitions c → (committed_view c q).master.size ≤ 0x800
  unfolding committed_view view_in master_in
  master_is q h = master_few _ (present image c g q h).described.guarantees.master_sized

  few_in : (q : ℕ) → q < partitions c → 32 * blocks_before (committed_view c q) 5 ≤ 0x800 + (tree_of c q).level3.size
  few_in q h = omega (arith, view_few (committed_view c q) (length image) (committed_rules image c g q h) (committed_apart image c g q h), tree_is q, master_is q h)

  one_half : 0 < partitions c → 2 * (tree_of c 0).level3.size ≤ 0x4000000
  one_half h = omega (arith, (tree_rules image c g 0 h).inside3, g.longest)

  -- the pairs of both partitions lie apart
  two_halves : partitions c ≡ 2 → 2 * (tree_of c 0).level3.size + 2 * (tree_of c 1).level3.size ≤ 0x4000000
  unfolding space_of
  two_halves e = go ((space_rules image c g).aside (tree_of c 1) (second_is c e)).apart33
    where
      a : WellPlaced (tree_of c 0) (length image)
      a = tree_rules image c g 0 (omega (arith, e))

      b : WellPlaced (tree_of c 1) (length image)
      b = tree_rules image c g 1 (omega (arith, e))

      go : Disjoint (tree_of c 0).level3 (tree_of c 1).level3 → 2 * (tree_of c 0).level3.size + 2 * (tree_of c 1).level3.size ≤ 0x4000000
      go (inl h) = omega (arith, h, b.inside3, g.longest)
      go (inr h) = omega (arith, h, a.inside3, g.longest)

  one_few : partitions_before c 1 ≡ blocks_before (committed_view c 0) 5
  unfolding partitions_before
  one_few = omega arith

  two_few : partitions_before c 2 ≡ blocks_before (committed_view c 0) 5 + blocks_before (committed_view c 1) 5
  unfolding partitions_before
  two_few = omega arith

  all_few : (partitions c ≡ 1) ⊎ (partitions c ≡ 2) → (partitions c ≤ 2) × (partitions_before c (partitions c) ≤ most_blocks)
  all_few (inl e) = (omega (arith, e), omega (arith, ap (partitions_before c) e, one_few, few_in 0 (omega (arith, e)), one_half (omega (arith, e))))
  all_few (inr e) = (omega (arith, e), omega (arith, ap (partitions_before c) e, two_few, few_in 0 (omega (arith, e)), few_in 1 (omega (arith, e)), two_halves e))

  well_searchable : Searchable c
  well_searchable = record {
    places = λ q h. places_fit image c g q h;
    few = (all_few g.header.count).0;
    numbers = (all_few g.header.count).1;
  }

-- an image that opens may be searched
pub searchable : (image : List ℕ) (c : Container) → opened image ≡ Ok c → Searchable c
searchable image c e = well_searchable image c (guarantees image c e)
