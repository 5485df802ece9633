use Rattle.std.proofs.Common.{◌≡◌, Result, Ok}
use Rattle.nack_rtx.specs.declared.fault.NackFault.{NackFault}
use Rattle.nack_rtx.specs.Spelling.{Asked}
use Rattle.nack_rtx.specs.Reading.{nack_of}
use Rattle.nack_rtx.proofs.Outcomes.{spelled_is_read}
use Rattle.nack_rtx.proofs.laws.one_nack.Goals as goal

same : (r : Result Asked NackFault) (n m : Asked) → r ≡ Ok n → r ≡ Ok m → n ≡ m
same r n m h k = cc

pub returns : goal.returns
returns c = λ n m bytes s t. same (nack_of bytes) n m (spelled_is_read bytes n s) (spelled_is_read bytes m t)
