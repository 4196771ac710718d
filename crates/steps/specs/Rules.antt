-- What the machinery behind the calls asks and gives.
use Rattle.std.specs.Prelude.{Result, Ok, Err, ◌≡◌, ℕ, ◌+◌, ◌≤◌, ◌<◌}
use Rattle.number.specs.Blocks.{block_of, last_block}
use Rattle.layout.specs.declared.Container.{Container}
use Rattle.layout.specs.declared.Refusal.{Refusal}
use Rattle.layout.specs.declared.Refusal.TheVariants.{Length}
use Rattle.ivfc.specs.declared.View.{View}
use Rattle.views.specs.Places.{slot_of, partition_of}
use Rattle.steps.specs.Sessions.{selector_place}

-- the places of a table from start to end hold partition q's selector and, behind it, its master hash
pub record HoldsMarks (c : Container) (q start end : ℕ) : Type 0 where
  pub selector : start ≤ selector_place (slot_of c q)
  pub behind : selector_place (slot_of c q) < (slot_of c q).descriptor.offset + (partition_of c q).difi.master.offset
  pub master : (slot_of c q).descriptor.offset + (partition_of c q).difi.master.offset + (partition_of c q).difi.master.size ≤ end
  pub bit : (partition_of c q).difi.selector ≤ 1

-- the blocks of a write's first and last byte
pub record EndRules (view : View) (place n first last : ℕ) : Type 0 where
  pub some : 0 < n
  pub fits : place + n ≤ view.level4.size
  pub start : first ≡ block_of view.level4 place
  pub stop : last ≡ last_block view.level4 place n

-- why opening, or what is checked after it, refuses; where it does not, nobody asks
abbrev pub refusal_of : Result Container Refusal → Refusal
refusal_of (Err r) = r
refusal_of (Ok c) = Length
