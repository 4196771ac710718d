-- The two runs are the partition's numbers.
use Rattle.boundary.specs.Boundary.{partition_numbers}
use Rattle.boundary.proofs.description.partition_numbers.Goals as goal

pub returns : goal.returns
unfolding partition_numbers
returns c = cc
