-- `layout::descriptors::read_partition` meets its contract. Assumes nothing.
use Prim.Native.Nat.{ℕ}
use mathlib.Core.Path.{◌≡◌, ◌∙◌}
use mathlib.Core.List.{List}
use Rattle.number.specs.Ranges.{part}
use Rattle.layout.specs.declared.Difi.{Difi}
use Rattle.layout.specs.declared.Ivfc.{Ivfc}
use Rattle.layout.specs.declared.Dpfs.{Dpfs}
use Rattle.layout.specs.declared.Partition.{Partition}
use Rattle.layout.specs.Descriptors.{difi_fields, ivfc_fields, dpfs_fields, partition_fields}
use Rattle.layout.proofs.descriptors.read_partition.Goals as goal

pub read_difi-difi-requires : goal.read_difi-difi-requires
read_difi-difi-requires c = tt

pub part_of-requires : goal.part_of-requires
part_of-requires c = tt

pub read_ivfc-ivfc-requires : goal.read_ivfc-ivfc-requires
read_ivfc-ivfc-requires c = tt

pub part_of-requires-2 : goal.part_of-requires-2
part_of-requires-2 c = tt

pub read_dpfs-dpfs-requires : goal.read_dpfs-dpfs-requires
read_dpfs-dpfs-requires c = tt

-- the pieces that the calls made are those of the descriptor
made :
    (d : List ℕ) {s t : List ℕ} {x : Difi} {v : Ivfc} {p : Dpfs} →
    x ≡ difi_fields d →
    s ≡ part d x.ivfc →
    v ≡ ivfc_fields x.external s →
    t ≡ part d x.dpfs →
    p ≡ dpfs_fields t →
    ◌≡◌ {A = Partition} record { difi = x; ivfc = v; dpfs = p } (partition_fields d)
unfolding partition_fields
made d x s v t p = λ i. record {
  difi = x i;
  ivfc = (v ∙ λ j. ivfc_fields (x j).external ((s ∙ λ k. part d (x k).ivfc) j)) i;
  dpfs = (p ∙ λ j. dpfs_fields ((t ∙ λ k. part d (x k).dpfs) j)) i;
}

pub returns : goal.returns
returns c =
    made
    _
    c.read_difi-difi.ensures
    c.part_of.ensures
    c.read_ivfc-ivfc.ensures
    c.part_of-2.ensures
    c.read_dpfs-dpfs.ensures
