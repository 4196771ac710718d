-- `layout::headers::diff_header` meets its contract. Assumes nothing.
use Rattle.layout.specs.Headers.{diff_header}
use Rattle.layout.specs.declared.Kind.TheVariants.{Diff}
use Rattle.layout.proofs.headers.diff_header.Goals as goal

pub returns : goal.returns
unfolding diff_header
returns c = λ i. record { kind = Diff; count = 1; flag = c.field4.ensures i; secondary = record { offset = c.field8.ensures i; size = c.field8-size.ensures i }; primary = record { offset = c.field8-2.ensures i; size = c.field8-size.ensures i }; a = record { descriptor = record { offset = 0; size = c.field8-size.ensures i }; partition = c.range_at.ensures i }; b = c.no_slot-none.ensures i }
