-- `walks::searching::search_chain` meets its contract. Assumes nothing.
use Prim.Native.Nat.{suc, ◌-◌}
use mathlib.Core.List.{[]}
use mathlib.Core.Path.{◌≡◌}
use lib.ListN.{length}
use Rattle.views.specs.Versions.{version_of}
use Rattle.names.specs.Searching.{chain}
use Rattle.names.specs.Walks.{counted}
use Rattle.entries.specs.Known.{Knows}
use Rattle.walks.proofs.searching.search_chain.Given as goal

abbrev pub invariant-loop-step : goal.invariant-loop-step
invariant-loop-step l =
    (length l.known ≡ length l.initial.known) × Knows l.reader.view l.reader.image.now l.known
    × (chain l.s (version_of l.reader.view l.reader.image.now).bytes (version_of l.reader.view l.reader.image.now).verified l.parent l.name l.first [] ≡ counted l.s (version_of l.reader.view l.reader.image.now).bytes (version_of l.reader.view l.reader.image.now).verified l.parent l.name (suc l.s.files.max - l._step) l.f)
