use Rattle.std.proofs.Common.{◌≡◌, ◌∙◌, ap, sym, subst, Option, Some}
use Rattle.run_top.specs.declared.words.Command.{Command}
use Rattle.run_top.specs.declared.words.Command.TheVariants as command
use Rattle.run_top.specs.Served.{IsRun, streams}
use Rattle.run_top.specs.Words.{◌>>=◌, unless_race, plain_command_of}
use Rattle.run_top.proofs.top.run_plain.Goals as goal

pub returns-in-Some-Make-clause-served : goal.returns-in-Some-Make-clause-served
returns-in-Some-Make-clause-served g c =
    let asks : plain_command_of c.args.words.now.items ≡ Some (command.Make c.in-Some-Make.seed c.in-Some-Make.calls c.in-Some-Make.actors) =
    ap (λ (o : Option Command). o >>= unless_race) (sym c.read_words.ensures.asked ∙ (c.in-Some-Make.is ∙ ap Some c.in-Some-Make.field-0-is)) in
    subst (λ (o : Option Command). IsRun o c.run_make.result
    (streams (g.S.Source.left c.args.source.now) (g.S.Source.faults c.args.source.now) (g.K.Sink.written c.args.sink.now) (g.K.Sink.faults c.args.sink.now))
    (streams (g.S.Source.left c.args.source.now) (g.S.Source.faults c.args.source.now) (g.K.Sink.written c.run_make.new.sink) (g.K.Sink.faults c.run_make.new.sink)))
    (sym asks) (c.run_make.ensures (g.S.Source.left c.args.source.now) (g.S.Source.faults c.args.source.now))

pub returns-in-Some-Demo-clause-served : goal.returns-in-Some-Demo-clause-served
returns-in-Some-Demo-clause-served g c =
    let asks : plain_command_of c.args.words.now.items ≡ Some (command.Demo c.in-Some-Demo.seed c.in-Some-Demo.calls) =
    ap (λ (o : Option Command). o >>= unless_race) (sym c.read_words.ensures.asked ∙ (c.in-Some-Demo.is ∙ ap Some c.in-Some-Demo.field-0-is)) in
    subst (λ (o : Option Command). IsRun o c.run_demo.result
    (streams (g.S.Source.left c.args.source.now) (g.S.Source.faults c.args.source.now) (g.K.Sink.written c.args.sink.now) (g.K.Sink.faults c.args.sink.now))
    (streams (g.S.Source.left c.args.source.now) (g.S.Source.faults c.args.source.now) (g.K.Sink.written c.run_demo.new.sink) (g.K.Sink.faults c.run_demo.new.sink)))
    (sym asks) (c.run_demo.ensures (g.S.Source.left c.args.source.now) (g.S.Source.faults c.args.source.now))

pub returns-in-Some-Loop-clause-served : goal.returns-in-Some-Loop-clause-served
returns-in-Some-Loop-clause-served g c =
    let asks : plain_command_of c.args.words.now.items ≡ Some (command.Loop c.in-Some-Loop.settings c.in-Some-Loop.millis) =
    ap (λ (o : Option Command). o >>= unless_race) (sym c.read_words.ensures.asked ∙ (c.in-Some-Loop.is ∙ ap Some c.in-Some-Loop.field-0-is)) in
    subst (λ (o : Option Command). IsRun o c.run_closed_loop.result
    (streams (g.S.Source.left c.args.source.now) (g.S.Source.faults c.args.source.now) (g.K.Sink.written c.args.sink.now) (g.K.Sink.faults c.args.sink.now))
    (streams (g.S.Source.left c.args.source.now) (g.S.Source.faults c.args.source.now) (g.K.Sink.written c.run_closed_loop.new.sink) (g.K.Sink.faults c.run_closed_loop.new.sink)))
    (sym asks) (c.run_closed_loop.ensures (g.S.Source.left c.args.source.now) (g.S.Source.faults c.args.source.now))
