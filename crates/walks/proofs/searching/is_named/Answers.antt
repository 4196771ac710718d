-- `walks::searching::is_named` meets its contract. Assumes nothing.
use mathlib.Core.Path.{◌∙◌}
use Prim.Native.Nat.{◌+◌}
use native.Mathlib.Omega.{arith}
use Rattle.views.specs.Versions.{version_of}
use Rattle.names.proofs.HashLaws.{named_is}
use Rattle.entries.proofs.ReadLaws.{level4_is, bytes_at}
use Rattle.walks.proofs.searching.is_named.Goals as goal

pub gather-requires : goal.gather-requires
gather-requires c = (omega arith, rw (level4_is c.args.reader.view) (omega (arith, c.requires.1)))

pub returns : goal.returns
returns c = named_is c.args.s (version_of c.args.reader.view c.args.reader.image.now).bytes c.args.parent c.args.name.now _ c.args.f c.args.at _ _ c.requires.0 c.word_at.ensures (c.gather.ensures ∙ bytes_at c.args.reader.view c.args.reader.image.now (c.args.at + 4) 16 (omega (arith, c.requires.1))) c.same_bytes.ensures
