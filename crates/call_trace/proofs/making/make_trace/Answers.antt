use Rattle.std.proofs.Common.{◌≡◌, ◌∙◌, ℕ, ◌*◌, ap, sym, subst, List, map}
use Rattle.gcc_units.specs.Listed.{Listed, bare}
use Rattle.send_core.specs.declared.call.Entry.{Entry}
use Rattle.call_trace.specs.declared.trace.Line.{Line}
use Rattle.call_trace.specs.Plain.{Plain, Fits}
use Rattle.call_trace.specs.Making.{milliseconds, line_of, made}
use Rattle.call_trace.proofs.MadeLines.{milliseconds-fine, lines-fit, trace-settled}
use Rattle.call_trace.proofs.making.make_trace.Goals as goal

lines-are : (lines : Listed Line) (seen sender made : List Entry) (actors : ℕ) → lines ≡ bare (map (line_of actors) seen) → seen ≡ sender → sender ≡ made → lines ≡ bare (map (line_of actors) made)
lines-are lines seen sender made actors are is made_is = are ∙ (ap (λ h. bare (map (line_of actors) h)) is ∙ ap (λ h. bare (map (line_of actors) h)) made_is)

pub returns-clause-made : goal.returns-clause-made
unfolding made
returns-clause-made c =
    let are : c.in_ok-lines.lines ≡ bare (map (line_of c.args.actors) (milliseconds c.args.seed c.args.calls (5 * c.args.calls)).history)
    = lines-are c.in_ok-lines.lines c.journal.result.now.items c.in_ok-maker.maker.sender (milliseconds c.args.seed c.args.calls (5 * c.args.calls)).history c.args.actors c.in_ok-lines.ensures c.journal.ensures.entries c.in_ok-maker.ensures in
    ap (λ (l : Listed Line). let trace : Plain = record { actors = c.args.actors; lines = l.items } in trace) are

pub returns-clause-fits : goal.returns-clause-fits
returns-clause-fits c =
    let are : c.in_ok-lines.lines ≡ bare (map (line_of c.args.actors) (milliseconds c.args.seed c.args.calls (5 * c.args.calls)).history)
    = lines-are c.in_ok-lines.lines c.journal.result.now.items c.in_ok-maker.maker.sender (milliseconds c.args.seed c.args.calls (5 * c.args.calls)).history c.args.actors c.in_ok-lines.ensures c.journal.ensures.entries c.in_ok-maker.ensures in
    subst (λ (l : Listed Line). Fits (record { actors = c.args.actors; lines = l.items })) (sym are)
    (lines-fit c.args.actors c.args.calls (milliseconds c.args.seed c.args.calls (5 * c.args.calls)) c.requires.some_actor c.requires.few_actors c.requires.few_calls (milliseconds-fine c.args.seed c.args.calls (5 * c.args.calls)))

pub returns-clause-settled : goal.returns-clause-settled
returns-clause-settled c =
    let are : c.in_ok-lines.lines ≡ bare (map (line_of c.args.actors) (milliseconds c.args.seed c.args.calls (5 * c.args.calls)).history)
    = lines-are c.in_ok-lines.lines c.journal.result.now.items c.in_ok-maker.maker.sender (milliseconds c.args.seed c.args.calls (5 * c.args.calls)).history c.args.actors c.in_ok-lines.ensures c.journal.ensures.entries c.in_ok-maker.ensures in
    trace-settled (record { actors = c.args.actors; lines = c.in_ok-lines.lines }) c.args.calls (milliseconds c.args.seed c.args.calls (5 * c.args.calls)) (milliseconds-fine c.args.seed c.args.calls (5 * c.args.calls)) are
