-- `entries::knowing::vouched` meets its contract. Assumes nothing.
use Rattle.entries.proofs.knowing.+vouched.Given as goal

abbrev pub decreases-vouched : goal.decreases-vouched
decreases-vouched l = l.i
