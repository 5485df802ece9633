use Rattle.std.proofs.Common.{length, OnOk, IfErr, sym, subst}
use Rattle.nack_rtx.specs.declared.resender.RtxSettings.{RtxSettings}
use Rattle.resending.specs.Serving.{Serving, served_asking}
use Rattle.resending.specs.Alone.{IsAlone, IsCause}
use Rattle.resending.specs.Standing.{Stands}
use Rattle.resending.proofs.server.Server.serve_call.Goals as goal

pub returns-in-Enqueue-clause-served : goal.returns-in-Enqueue-clause-served
returns-in-Enqueue-clause-served g c =
    subst
    (λ call. OnOk c.call.result ((s : RtxSettings) (v : Serving) → Stands s v c.args.self.now → Stands s (served_asking s v call) c.call.new.self))
    (sym c.in-Enqueue.is) c.call.ensures.served

pub returns-in-Enqueue-clause-stopped : goal.returns-in-Enqueue-clause-stopped
returns-in-Enqueue-clause-stopped g c =
    subst
    (λ call. IfErr c.call.result (λ why. (s : RtxSettings) (v : Serving) → Stands s v c.args.self.now → IsAlone c.call.new.self.seat → IsCause why (length (served_asking s v call).history)))
    (sym c.in-Enqueue.is) c.call.ensures.stopped

pub returns-in-Pace-clause-served : goal.returns-in-Pace-clause-served
returns-in-Pace-clause-served g c =
    subst
    (λ call. OnOk c.call-in-Pace.result ((s : RtxSettings) (v : Serving) → Stands s v c.args.self.now → Stands s (served_asking s v call) c.call-in-Pace.new.self))
    (sym c.in-Pace.is) c.call-in-Pace.ensures.served

pub returns-in-Pace-clause-stopped : goal.returns-in-Pace-clause-stopped
returns-in-Pace-clause-stopped g c =
    subst
    (λ call. IfErr c.call-in-Pace.result (λ why. (s : RtxSettings) (v : Serving) → Stands s v c.args.self.now → IsAlone c.call-in-Pace.new.self.seat → IsCause why (length (served_asking s v call).history)))
    (sym c.in-Pace.is) c.call-in-Pace.ensures.stopped

pub returns-in-Configure-clause-served : goal.returns-in-Configure-clause-served
returns-in-Configure-clause-served g c =
    subst
    (λ call. OnOk c.call-in-Configure.result ((s : RtxSettings) (v : Serving) → Stands s v c.args.self.now → Stands s (served_asking s v call) c.call-in-Configure.new.self))
    (sym c.in-Configure.is) c.call-in-Configure.ensures.served

pub returns-in-Configure-clause-stopped : goal.returns-in-Configure-clause-stopped
returns-in-Configure-clause-stopped g c =
    subst
    (λ call. IfErr c.call-in-Configure.result (λ why. (s : RtxSettings) (v : Serving) → Stands s v c.args.self.now → IsAlone c.call-in-Configure.new.self.seat → IsCause why (length (served_asking s v call).history)))
    (sym c.in-Configure.is) c.call-in-Configure.ensures.stopped
