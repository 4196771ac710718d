-- `any_cutting` is the law of cuttings. Assumes nothing.
use Rattle.signing.proofs.Cuttings.{cuttings}
use Rattle.signing.proofs.digests.any_cutting.Goals as goal

pub returns : goal.returns
returns c = cuttings
