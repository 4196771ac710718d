-- `layout::descriptors::judge_partition` meets its contract. Assumes nothing.
use mathlib.Core.Path.{sym, ◌∙◌}
use borrow.Author.Tests.{lt-leb, le-leb}
use Rattle.layout.specs.Descriptors.{judged_partition}
use Rattle.layout.proofs.descriptors.judge_partition.Goals as goal

pub returns-then-length-lt-DIFI_SIZE : goal.returns-then-length-lt-DIFI_SIZE
unfolding judged_partition
returns-then-length-lt-DIFI_SIZE c = rw (judged_partition, lt-leb 0x44 _ c.if-length-lt-DIFI_SIZE.true)

pub read_partition-p-requires : goal.read_partition-p-requires
read_partition-p-requires c = tt

pub form_allowed-requires : goal.form_allowed-requires
form_allowed-requires c = tt

pub returns-then-not-form_allowed : goal.returns-then-not-form_allowed
unfolding judged_partition
returns-then-not-form_allowed c = rw (judged_partition, le-leb 0x44 _ c.if-length-lt-DIFI_SIZE.false, ← c.read_partition-p.ensures, sym c.form_allowed.ensures ∙ c.if-not-form_allowed.true)

pub places_allowed-requires : goal.places_allowed-requires
places_allowed-requires c = tt

pub returns-then-not-places_allowed : goal.returns-then-not-places_allowed
unfolding judged_partition
returns-then-not-places_allowed c = rw (judged_partition, le-leb 0x44 _ c.if-length-lt-DIFI_SIZE.false, ← c.read_partition-p.ensures, sym c.form_allowed.ensures ∙ c.if-not-form_allowed.false, sym c.places_allowed.ensures ∙ c.if-not-places_allowed.true)

pub returns : goal.returns
unfolding judged_partition
returns c = rw (judged_partition, le-leb 0x44 _ c.if-length-lt-DIFI_SIZE.false, ← c.read_partition-p.ensures, sym c.form_allowed.ensures ∙ c.if-not-form_allowed.false, sym c.places_allowed.ensures ∙ c.if-not-places_allowed.false)
