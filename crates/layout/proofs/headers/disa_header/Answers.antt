-- `layout::headers::disa_header` meets its contract. Assumes nothing.
use Rattle.layout.specs.Headers.{disa_header}
use Rattle.layout.specs.declared.Kind.TheVariants.{Disa}
use Rattle.layout.proofs.headers.disa_header.Goals as goal

pub returns : goal.returns
unfolding disa_header
returns c = λ i. record { kind = Disa; count = c.field4-count.ensures i; flag = c.byte.ensures i; secondary = record { offset = c.field8.ensures i; size = c.field8-size.ensures i }; primary = record { offset = c.field8-2.ensures i; size = c.field8-size.ensures i }; a = record { descriptor = c.range_at.ensures i; partition = c.range_at-2.ensures i }; b = record { descriptor = c.range_at-3.ensures i; partition = c.range_at-4.ensures i } }
