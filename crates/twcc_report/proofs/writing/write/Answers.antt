use Rattle.std.proofs.Common.{◌≡◌, length, ap, arith}
use Rattle.std.proofs.lemmas.Int.{ints}
use Rattle.twcc_report.specs.Spelling.{view}
use Rattle.twcc_report.specs.Canonical.{body}
use Rattle.twcc_report.proofs.Spelled.{body-length}
use Rattle.twcc_report.proofs.writing.write.Goals as goal

pub overflow_cast-words : goal.overflow_cast-words
overflow_cast-words c =
    let len : length c.in_ok-body.body.items ≡ length (body (view c.args.report.now)) = ap length c.in_ok-body.ensures.body in
    let bound = body-length (view c.args.report.now) c.requires.few in
    omega (arith, len, bound.0, c.len.ensures)

pub returns-clause-fits : goal.returns-clause-fits
returns-clause-fits c = record {
  sender = omega arith;
  media = omega arith;
  base = omega arith;
  low = c.requires.low;
  high = omega (arith, ints);
  feedback = omega arith;
  some = c.requires.some;
  few = c.requires.few;
  statuses = c.in_ok-body.ensures.fit;
}
