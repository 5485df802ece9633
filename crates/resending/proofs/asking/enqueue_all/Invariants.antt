use Rattle.std.proofs.Common.{◌≡◌, map, fold}
use Rattle.shared_sender.specs.Served.{journal_of}
use Rattle.resending.specs.Serving.{called, resend_call}
use Rattle.resending.specs.Alone.{IsSeated, IsAlone}
use Rattle.resending.proofs.asking.enqueue_all.Given as goal

abbrev pub invariant-loop-resend : goal.invariant-loop-resend
invariant-loop-resend g l = record {
  seated : IsSeated l.shared.of l.seat;
  before : IsAlone l.seat → IsAlone l.fn.seat;
  grows : IsAlone l.seat → journal_of l.seat.seen ≡ fold called (journal_of l.fn.seat.seen) (map (resend_call l.at) l.yielded);
}
