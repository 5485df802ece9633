use Rattle.std.proofs.Common.{◌≡◌, false, drop, sym, ◌∙◌, ap, subst}
use Rattle.send_core.specs.Settings.{is_some}
use Rattle.steered_sender.specs.Standing.{wanted_of}
use Rattle.capi.specs.Looking.{IsNextTime}
use Rattle.capi.specs.Serving.{Serving, has_any, kept_from}
use Rattle.capi.proofs.NextTimes.{next_paced}
use Rattle.capi.proofs.sender.Sender.next_time.Goals as goal

pub returns : goal.returns
returns c =
    let kept = kept_from c.self.inside.fetched c.self.inside.records.items c.self.inside.wires.items in
    let e = c.next_send.ensures in
    let absent : has_any kept ≡ false = ap (λ (s : Serving). has_any s.kept) c.self.view_is ∙ (sym c.has_kept.ensures ∙ c.if-has_kept.false) in
    let nothing : is_some (wanted_of c.self.inside.steered.steering) ≡ false = sym c.is_asked.ensures ∙ c.if-is_asked.false in
    subst (λ (s : Serving). IsNextTime s c.next_send.result) c.self.view_is
    (next_paced (record { steered = c.self.inside.steered; kept = kept; findings = drop c.self.inside.told c.self.inside.findings.items }) c.sender-2.result.now c.next_send.result c.sender-2.ensures.stands absent nothing e.from_on e.in_time e.sends e.none_before e.none)
