use Rattle.std.proofs.Common.{◌≡◌, ℕ, List, Result, Ok, Err, subst}
use Rattle.std.specs.Prelude.{IfOk, IfErr}
use Rattle.gcc_units.specs.declared.limits.TheConstants.{MOST_LINES}
use Rattle.gcc_units.specs.Listed.{bare}
use Rattle.call_trace.specs.declared.fault.TraceFault.{TraceFault}
use Rattle.call_trace.specs.declared.fault.ReadTrace.{ReadTrace}
use Rattle.call_trace.specs.declared.trace.Trace.{Trace}
use Rattle.call_trace.specs.Plain.{Plain, plain, Fits, IsSettled}
use Rattle.call_trace.specs.declared.fault.ReadTrace.TheVariants as read_trace
use Rattle.call_trace.specs.Faults.{IfFault, IsFirstFault}
use Rattle.call_trace.specs.Reading.{GivesTrace, trace_at}
use Rattle.call_trace.specs.Grammar.{IsTrace}
use Rattle.call_trace.proofs.Whole.{trace_found}
use Rattle.call_trace.proofs.Again.{trace_again}
use Rattle.call_trace.proofs.Faulty.{fault_found, fault_again}
use Rattle.call_trace.proofs.reading.read_trace.Goals as goal

found : (bytes : List ℕ) (result : Result Trace ReadTrace) → GivesTrace result (trace_at MOST_LINES bytes) → IfOk result (λ trace. IsTrace bytes (plain trace))
found bytes (Ok trace) gives = (trace_found MOST_LINES bytes (plain trace) gives).spelled
found bytes (Err e) gives = tt

fits : (bytes : List ℕ) (result : Result Trace ReadTrace) → GivesTrace result (trace_at MOST_LINES bytes) → IfOk result (λ trace. Fits (plain trace))
fits bytes (Ok trace) gives =
    let read = trace_found MOST_LINES bytes (plain trace) gives in
    record { some_actor = read.spelled.some_actor; few_actors = read.spelled.few_actors; few_lines = read.few; each = read.fits }
fits bytes (Err e) gives = tt

is_settled : (bytes : List ℕ) (result : Result Trace ReadTrace) → GivesTrace result (trace_at MOST_LINES bytes) → IfOk result (λ trace. trace.lines ≡ bare trace.lines.items) → IfOk result (λ trace. IsSettled trace)
is_settled bytes (Ok trace) gives lines = record { lines = lines; each = (trace_found MOST_LINES bytes (plain trace) gives).settled }
is_settled bytes (Err e) gives lines = tt

fault_is : (bytes : List ℕ) (result : Result Trace ReadTrace) → GivesTrace result (trace_at MOST_LINES bytes) → IfErr result (λ e. IfFault e (λ f. IsFirstFault MOST_LINES bytes f))
fault_is bytes (Ok trace) gives = tt
fault_is bytes (Err (read_trace.Fault f)) gives = fault_found MOST_LINES bytes f gives
fault_is bytes (Err read_trace.NoMemory) gives = tt

pub returns-clause-fault : goal.returns-clause-fault
returns-clause-fault c = fault_is c.args.bytes.now c.all.result c.all.ensures.exact

pub returns-clause-faulty : goal.returns-clause-faulty
returns-clause-faulty c = λ f is. subst (λ (read : Result Plain TraceFault). GivesTrace c.all.result read) (fault_again MOST_LINES c.args.bytes.now f is) c.all.ensures.exact

pub returns-clause-found : goal.returns-clause-found
returns-clause-found c = found c.args.bytes.now c.all.result c.all.ensures.exact

pub returns-clause-only : goal.returns-clause-only
returns-clause-only c = λ trace is few. subst (λ (read : Result Plain TraceFault). GivesTrace c.all.result read) (trace_again MOST_LINES c.args.bytes.now trace is few) c.all.ensures.exact

pub returns-clause-fits : goal.returns-clause-fits
returns-clause-fits c = fits c.args.bytes.now c.all.result c.all.ensures.exact

pub returns-clause-settled : goal.returns-clause-settled
returns-clause-settled c = is_settled c.args.bytes.now c.all.result c.all.ensures.exact c.all.ensures.settled
