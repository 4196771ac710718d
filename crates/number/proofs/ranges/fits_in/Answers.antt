use Rattle.number.specs.Ranges.{fits}
use Rattle.number.proofs.ranges.fits_in.Goals as goal

pub returns : goal.returns
unfolding fits
returns c = cc
