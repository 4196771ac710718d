-- `signer_as`: by the type's number. Assumes nothing.
use Rattle.boundary.proofs.SignerLaws.{is_card, is_title, is_system, is_quota, is_device, is_database}
use native.Mathlib.Omega.{arith}
use Rattle.boundary.proofs.signers.signer_as.Goals as goal

pub returns-in-0 : goal.returns-in-0
returns-in-0 c = is_card _ _ _ _ c.in-0.is

pub returns-in-1 : goal.returns-in-1
returns-in-1 c = is_title _ _ _ _ c.in-1.is

pub returns-in-2 : goal.returns-in-2
returns-in-2 c = is_system _ _ _ _ c.in-2.is

pub returns-in-3 : goal.returns-in-3
returns-in-3 c = is_quota _ _ _ _ c.in-3.is

pub returns-in-4 : goal.returns-in-4
returns-in-4 c = is_device _ _ _ _ c.in-4.is

pub returns-in_default : goal.returns-in_default
returns-in_default c = is_database _ _ _ _ (omega arith) (omega arith) (omega arith) (omega arith) (omega arith)
