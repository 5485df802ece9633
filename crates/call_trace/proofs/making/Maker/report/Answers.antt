use Rattle.std.proofs.Common.{◌≡◌, ◌∙◌, ap, sym, arith, subst, List, ℕ, take, drop, length, min, ◌+◌, ◌-◌}
use Rattle.std.proofs.lemmas.Result.{on_ok_weaker}
use Rattle.call_trace.specs.declared.making.Maker.{Maker}
use Rattle.call_trace.specs.MadeReports.{AreNear}
use Rattle.call_trace.specs.Making.{uncovered, moments}
use Rattle.call_trace.specs.Makers.{making, IsCounted}
use Rattle.call_trace.proofs.Framing.{report-due, report-not_due, uncovered-is, uncovered-length, report-asked}
use Rattle.call_trace.proofs.making.Maker.report.Goals as goal

-- the moments that it reports on are those that none told of, up to as many as one may tell of
abbrev Seen : Maker → List ℕ → ℕ → Type 0
Seen k ms end = (take (end - k.covered) (drop k.covered ms) ≡ uncovered (making k)) × (end ≡ k.covered + length (take (end - k.covered) (drop k.covered ms)))

seen-is : (k : Maker) (ms : List ℕ) (len end : ℕ) → IsCounted k → ms ≡ k.moments.items → len ≡ length k.moments.items → end ≡ min len (k.covered + 65535) → Seen k ms end
seen-is k ms len end counted are len_is end_is =
    let all : ms ≡ moments k.sender = are ∙ counted.sends in
    let long : len ≡ length (moments k.sender) = len_is ∙ ap length counted.sends in
    let is : take (end - k.covered) (drop k.covered ms) ≡ uncovered (making k) =
    ap (λ xs. take (end - k.covered) (drop k.covered xs)) all ∙ uncovered-is (moments k.sender) k.covered len end long end_is in
    (is, uncovered-length (moments k.sender) k.covered len end long counted.within end_is ∙ ap (λ (xs : List ℕ). k.covered + length xs) (sym is))

pub returns-then-not-is_report_due-clause-making : goal.returns-then-not-is_report_due-clause-making
returns-then-not-is_report_due-clause-making c = sym (report-not_due c.args.t (making c.args.self.now) (sym c.if-not-is_report_due.ensures))

pub report_bytes-requires-clause-near : goal.report_bytes-requires-clause-near
report_bytes-requires-clause-near c =
    subst AreNear
    (sym (seen-is c.args.self.now c.deref.result.now c.len.result c.min-end.result c.requires.counted c.deref.ensures.value (omega (arith, c.len.ensures, c.args.self.now.moments.ok.0)) c.min-end.ensures).0)
    c.requires.near

pub returns-clause-making : goal.returns-clause-making
returns-clause-making c =
    let k = c.args.self.now in
    let seen : Seen k c.deref.result.now c.min-end.result =
    seen-is k c.deref.result.now c.len.result c.min-end.result c.requires.counted c.deref.ensures.value (omega (arith, c.len.ensures, k.moments.ok.0)) c.min-end.ensures in
    on_ok_weaker c.ask.result
    (λ asked. asked
    ∙ (report-asked k c.args.t c.moment.result c.min-end.result c.report_bytes.new.words (take (c.min-end.result - k.covered) (drop k.covered c.deref.result.now)) c.in_ok-bytes.bytes
    seen.0 c.requires.counted.reports seen.1 c.in_ok-bytes.ensures.words c.moment.ensures c.in_ok-bytes.ensures.bytes
    ∙ sym (report-due c.args.t (making k) (sym c.if-not-is_report_due.ensures))))
    c.ask.ensures.making
