-- `placing` is the law. Assumes nothing.
use Rattle.signing.proofs.FieldLaws as law
use Rattle.signing.proofs.blocks.placing.Goals as goal

pub returns : goal.returns
returns c = law.placing
