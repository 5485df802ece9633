use Rattle.send_core.proofs.Refusing.{settings-stay, streams-stay, started-stays, clusters-stay, estimates-stay, accepted-stay, waiting-stay, sent-stay, events-stay, media-passes, padding-passes}
use Rattle.send_core.proofs.laws.refused_calls_change_nothing_else.Goals as goal

pub returns : goal.returns
returns c = record {
  media = media-passes;
  padding = padding-passes;
  settings = settings-stay;
  streams = streams-stay;
  started = started-stays;
  clusters = clusters-stay;
  estimates = estimates-stay;
  accepted = accepted-stay;
  waiting = waiting-stay;
  sent = sent-stay;
  credited = events-stay;
}
