-- The laws of the calls hold. Assumes nothing.
use Rattle.history.proofs.CallLaws.{CallLaws}
use Rattle.history.proofs.Begins.{begins}
use Rattle.history.proofs.Writes.{writes}
use Rattle.layout.proofs.GuaranteeLaws.{guarantees}
use Rattle.history.proofs.Commits.{commits}
use Rattle.history.proofs.Units.{headed}

pub call_laws : CallLaws
call_laws = record {
  begin = begins;
  write = λ image c o q place bytes there ok. writes image c o q place bytes there ok;
  commit = commits;
  units = λ image c o. headed image c (guarantees image c o);
}
