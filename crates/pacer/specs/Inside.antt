-- What a pacer's fields say.
use Rattle.pacer.specs.declared.pacer.Pacer.TheInside.{Inside}
use Rattle.pacer.specs.State.{State}

abbrev pub state_of : Inside → State
state_of p = record {
  moment = p.moment;
  waiting = p.course.queues;
  media = p.course.media;
  padding = p.course.padding;
  began = p.course.began;
  pacing = p.pacing;
  rate = p.rate;
}
