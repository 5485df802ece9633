-- What a call that gives the outcome tells.
use Rattle.std.proofs.Common.{ℕ, ◌<◌, inl, inr, List, length, All, Result, Ok, Err, sym, subst, arith}
use Rattle.std.specs.Prelude.{IfOk, IfErr}
use Rattle.std.proofs.lemmas.Bool.{cases_lt}
use Rattle.std.proofs.lemmas.List.{get_or_past}
use Rattle.std.proofs.lemmas.List.Elements.{All-get_or}
use Rattle.nack_rtx.specs.declared.fault.ReadNack.{ReadNack}
use Rattle.nack_rtx.specs.declared.fault.ReadNack.TheVariants as errors
use Rattle.nack_rtx.specs.declared.nack.Nack.{Nack}
use Rattle.nack_rtx.specs.Spelling.{Spells, view}
use Rattle.nack_rtx.specs.Reading.{Gives, nack_of}
use Rattle.nack_rtx.specs.Checks.{IsByChecks, IsCause}
use Rattle.nack_rtx.proofs.Pairs.{IsBytes}

pub found : (bytes : List ℕ) (r : Result Nack ReadNack) → IsByChecks bytes → Gives view r (nack_of bytes) → IfOk r (λ nack. Spells (view nack) bytes)
found bytes (Ok nack) law given = (law.nacks (view nack)).0 given
found bytes (Err e) law given = tt

pub cause : (bytes : List ℕ) (r : Result Nack ReadNack) → IsByChecks bytes → Gives view r (nack_of bytes) → IfErr r (IsCause bytes)
cause bytes (Ok nack) law given = tt
cause bytes (Err errors.NoMemory) law given = tt
cause bytes (Err (errors.Fault fault)) law given = (law.faults fault).0 given

pub each_byte : (bytes : List ℕ) → All (λ b. b < 256) bytes → IsBytes bytes
each_byte bytes all i = elim (cases_lt i (length bytes)) [
  | inl lt ↦ All-get_or (λ b. b < 256) bytes i 0 lt all
  | inr past ↦ subst (λ b. b < 256) (sym (get_or_past bytes i 0 past)) (omega arith)
]
