use Rattle.std.proofs.Common.{◌++◌, List, map, take}
use Rattle.sent_history.specs.Events.{Event}
use Rattle.sent_history.specs.Kept.{StandsFor}
use Rattle.send_core.specs.Reports.{added_of}
use Rattle.send_core.proofs.recording.record_sent.Given as goal

abbrev pub invariant-loop-sent : goal.invariant-loop-sent
invariant-loop-sent l =
    (es : List Event) → StandsFor l.initial.history es → StandsFor l.history (es ++ map (added_of l.moment) (take l.sent-index l.records))
