use Rattle.std.proofs.Common.{arith, ◌∙◌, sym}
use Rattle.call_trace.specs.MadeReports.{words_at}
use Rattle.call_trace.proofs.Arriving.{arrivals-nil, words_after-none, IsDrawn, arrivals-more}
use Rattle.call_trace.proofs.made_reports.arrivals.Goals as goal

pub loop-sent_at-init : goal.loop-sent_at-init
loop-sent_at-init c = record {
  made = c.in_ok-arrivals.ensures.items ∙ sym (arrivals-nil (words_at c.args.words.now));
  words = words_after-none (words_at c.args.words.now);
  len = c.in_ok-arrivals.ensures.len;
  room = c.in_ok-arrivals.ensures.exact;
}

pub loop-sent_at-preserved : goal.loop-sent_at-preserved
loop-sent_at-preserved c =
    let more : IsDrawn (words_at c.args.words.now) (words_at c.loop-sent_at.words) (words_at c.next_u64-word.new.self) c.args.moments.now c.loop-sent_at.sent_at-index c.next_u64-word.result =
    arrivals-more (words_at c.args.words.now) (words_at c.loop-sent_at.words) (words_at c.next_u64-word.new.self) c.args.moments.now c.loop-sent_at.sent_at-index c.next_u64-word.result
    c.loop-sent_at-test.true c.loop-sent_at.invariant.words c.next_u64-word.ensures in
    record {
      made = rw (c.push_reserved.ensures.items, c.loop-sent_at.invariant.made, c.arrival.ensures) (sym more.there);
      words = more.left;
      len = omega (arith, c.push_reserved.ensures.len, c.loop-sent_at.invariant.len);
      room = c.push_reserved.ensures.capacity ∙ c.loop-sent_at.invariant.room;
    }
