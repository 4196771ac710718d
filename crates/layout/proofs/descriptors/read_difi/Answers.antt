-- `layout::descriptors::read_difi` meets its contract. Assumes nothing.
use mathlib.Core.Path.{◌∙◌}
use mathlib.Core.Bool.{not, cond}
use lib.Dec.{eqb}
use Rattle.number.specs.Fields.{le64}
use Rattle.layout.specs.Descriptors.{difi_fields}
use Rattle.layout.proofs.descriptors.read_difi.Goals as goal

pub byte-external-requires : goal.byte-external-requires
byte-external-requires c = tt

pub byte-requires : goal.byte-requires
byte-requires c = tt

pub returns : goal.returns
unfolding difi_fields
returns c = λ i. record {
  ivfc = c.range_at.ensures i;
  dpfs = c.range_at-2.ensures i;
  master = c.range_at-3.ensures i;
  external = not (eqb (c.byte-external.ensures i) 0);
  selector = c.byte.ensures i;
  outside = (c.field8_if.ensures ∙ λ j. cond (not (eqb (c.byte-external.ensures j) 0)) (le64 c.args.d.now 0x3C) 0) i;
}
