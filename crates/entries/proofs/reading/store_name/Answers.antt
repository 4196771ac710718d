-- `entries::reading::store_name` meets its contract. Assumes nothing.
use mathlib.Core.Path.{sym, ap, ◌∙◌}
use mathlib.Core.List.{List, ◌++◌}
use Prim.Native.Nat.{ℕ}
use native.Mathlib.Omega.{arith}
use Rattle.names.specs.Records.{head, put_record}
use Rattle.names.proofs.MeetLaws.{record_none}
use Rattle.entries.proofs.ReadLaws.{level4_is, bytes_at}
use Rattle.entries.proofs.reading.store_name.Goals as goal

pub gather-requires : goal.gather-requires
gather-requires c = (omega arith, rw (level4_is c.args.reader.view) c.requires)

pub returns-then-has_room : goal.returns-then-has_room
returns-then-has_room c =
    c.put_record.ensures
    ∙ ap (λ (l : List ℕ). put_record c.args.row.now c.args.n (head c.args.kind c.args.e ++ l)) (c.gather.ensures ∙ bytes_at c.args.reader.view c.args.reader.image.now c.args.at 16 c.requires)

pub returns-else-has_room : goal.returns-else-has_room
returns-else-has_room c = record_none c.args.row.now c.args.n _ (sym c.has_room.ensures ∙ c.if-has_room.false)
