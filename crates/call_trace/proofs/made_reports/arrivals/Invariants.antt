use Rattle.std.proofs.Common.{◌≡◌, length, take, vec_len, vec_capacity}
use Rattle.call_trace.specs.MadeReports.{words_at, words_after, arrivals}
use Rattle.call_trace.proofs.made_reports.arrivals.Given as goal

abbrev pub invariant-loop-sent_at : goal.invariant-loop-sent_at
invariant-loop-sent_at l = record {
  made : l.arrivals.items ≡ arrivals (words_at l.initial.words) (take l.sent_at-index l.moments);
  words : words_at l.words ≡ words_after l.sent_at-index (words_at l.initial.words);
  len : vec_len l.arrivals ≡ l.sent_at-index;
  room : vec_capacity l.arrivals ≡ length l.moments;
}
