use Rattle.std.proofs.Common.{◌≡◌, length, Err, OnOk, IfErr, ap, sym, subst, ◌∙◌}
use Rattle.nack_rtx.specs.declared.resender.RtxSettings.{RtxSettings}
use Rattle.nack_rtx.specs.Reading.{nack_of, Fails}
use Rattle.resending.specs.Serving.{Serving, served_report}
use Rattle.resending.specs.Alone.{IsAlone, IsCause}
use Rattle.resending.specs.Standing.{Stands}
use Rattle.resending.proofs.server.Server.report.Goals as goal

pub returns-in-Err-Fault-clause-served : goal.returns-in-Err-Fault-clause-served
returns-in-Err-Fault-clause-served g c =
    let f = c.in-Err-Fault in
    let e : nack_of c.as_slice.result.now ≡ Err f.field-0-0 = subst (λ r. Fails r (nack_of c.as_slice.result.now)) f.field-0-is f.ensures.exact in
    subst
    (λ r. OnOk c.call.result ((s : RtxSettings) (v : Serving) → Stands s v c.args.self.now → Stands s (served_report s v c.args.at c.args.bytes r) c.call.new.self))
    (sym (ap nack_of (sym c.as_slice.ensures.items) ∙ e)) c.call.ensures.served

pub returns-in-Err-Fault-clause-stopped : goal.returns-in-Err-Fault-clause-stopped
returns-in-Err-Fault-clause-stopped g c =
    let f = c.in-Err-Fault in
    let e : nack_of c.as_slice.result.now ≡ Err f.field-0-0 = subst (λ r. Fails r (nack_of c.as_slice.result.now)) f.field-0-is f.ensures.exact in
    subst
    (λ r. IfErr c.call.result (λ why. (s : RtxSettings) (v : Serving) → Stands s v c.args.self.now → IsAlone c.call.new.self.seat → IsCause why (length (served_report s v c.args.at c.args.bytes r).history)))
    (sym (ap nack_of (sym c.as_slice.ensures.items) ∙ e)) c.call.ensures.stopped
