use Rattle.std.proofs.Common.{◌≡◌, ◌≤◌, ℕ, List, length, take, Result, Ok, Err, subst}
use Rattle.std.specs.Prelude.{IfOk, IfErr}
use Rattle.gcc_units.specs.declared.limits.TheConstants.{MOST_LINES}
use Rattle.gcc_units.specs.Listed.{bare}
use Rattle.call_trace.specs.declared.fault.TraceFault.{TraceFault}
use Rattle.call_trace.specs.declared.fault.ReadTrace.{ReadTrace}
use Rattle.call_trace.specs.declared.fault.ReadTrace.TheVariants as read_trace
use Rattle.call_trace.specs.declared.trace.Trace.{Trace}
use Rattle.call_trace.specs.Plain.{Plain, plain, Fits, IsSettled}
use Rattle.call_trace.specs.Faults.{IfFault, IsFrontFault}
use Rattle.call_trace.specs.Reading.{GivesFront, counted_at}
use Rattle.call_trace.specs.Grammar.{IsTrace}
use Rattle.call_trace.proofs.Fronts.{counted_found, counted_again, counted_fault, counted_fault_again}
use Rattle.call_trace.proofs.reading.read_front.Goals as goal

module _ (bytes : List ℕ) where
  found : (result : Result (Trace × ℕ) ReadTrace) → GivesFront result (counted_at MOST_LINES bytes) → IfOk result (λ p. IsTrace (take p.1 bytes) (plain p.0))
  found (Ok p) gives = (counted_found MOST_LINES bytes (plain p.0) p.1 gives).spelled
  found (Err e) gives = tt

  within : (result : Result (Trace × ℕ) ReadTrace) → GivesFront result (counted_at MOST_LINES bytes) → IfOk result (λ p. p.1 ≤ length bytes)
  within (Ok p) gives = (counted_found MOST_LINES bytes (plain p.0) p.1 gives).within
  within (Err e) gives = tt

  fits : (result : Result (Trace × ℕ) ReadTrace) → GivesFront result (counted_at MOST_LINES bytes) → IfOk result (λ p. Fits (plain p.0))
  fits (Ok p) gives =
      let read = counted_found MOST_LINES bytes (plain p.0) p.1 gives in
      record { some_actor = read.spelled.some_actor; few_actors = read.spelled.few_actors; few_lines = read.few; each = read.fits }
  fits (Err e) gives = tt

  is_settled : (result : Result (Trace × ℕ) ReadTrace) → GivesFront result (counted_at MOST_LINES bytes) → IfOk result (λ p. p.0.lines ≡ bare p.0.lines.items) → IfOk result (λ p. IsSettled p.0)
  is_settled (Ok p) gives lines = record { lines = lines; each = (counted_found MOST_LINES bytes (plain p.0) p.1 gives).settled }
  is_settled (Err e) gives lines = tt

  fault_is : (result : Result (Trace × ℕ) ReadTrace) → GivesFront result (counted_at MOST_LINES bytes) → IfErr result (λ e. IfFault e (λ f. IsFrontFault MOST_LINES bytes f))
  fault_is (Ok p) gives = tt
  fault_is (Err (read_trace.Fault f)) gives = counted_fault MOST_LINES bytes f gives
  fault_is (Err read_trace.NoMemory) gives = tt

pub returns-clause-found : goal.returns-clause-found
returns-clause-found c = found c.args.bytes.now c.counted.result c.counted.ensures.exact

pub returns-clause-within : goal.returns-clause-within
returns-clause-within c = within c.args.bytes.now c.counted.result c.counted.ensures.exact

pub returns-clause-only : goal.returns-clause-only
returns-clause-only c = λ trace front back is spelled few.
    subst (λ (read : Result (Plain × ℕ) TraceFault). GivesFront c.counted.result read) (counted_again MOST_LINES c.args.bytes.now front back trace is spelled few) c.counted.ensures.exact

pub returns-clause-fault : goal.returns-clause-fault
returns-clause-fault c = fault_is c.args.bytes.now c.counted.result c.counted.ensures.exact

pub returns-clause-faulty : goal.returns-clause-faulty
returns-clause-faulty c = λ f is. subst (λ (read : Result (Plain × ℕ) TraceFault). GivesFront c.counted.result read) (counted_fault_again MOST_LINES c.args.bytes.now f is) c.counted.ensures.exact

pub returns-clause-fits : goal.returns-clause-fits
returns-clause-fits c = fits c.args.bytes.now c.counted.result c.counted.ensures.exact

pub returns-clause-settled : goal.returns-clause-settled
returns-clause-settled c = is_settled c.args.bytes.now c.counted.result c.counted.ensures.exact c.counted.ensures.settled
