-- What layout's opening answers. Assumes nothing.
use Rattle.layout.proofs.AnswerLaws.{answers}
use Rattle.container.proofs.reading.open.Goals as goal

pub returns : goal.returns
returns c = answers c.«open».ensures
