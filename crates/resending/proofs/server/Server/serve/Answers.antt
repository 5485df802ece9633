use Rattle.std.proofs.Common.{OnOk, sym, subst}
use Rattle.nack_rtx.specs.declared.resender.RtxSettings.{RtxSettings}
use Rattle.resending.specs.Serving.{Serving, served_action}
use Rattle.resending.specs.Standing.{Stands}
use Rattle.resending.proofs.server.Server.serve.Goals as goal

pub returns-in-Look-clause-served : goal.returns-in-Look-clause-served
returns-in-Look-clause-served g c =
    subst (λ a. OnOk c.look.result ((s : RtxSettings) (v : Serving) → Stands s v c.args.self.now → Stands s (served_action s v a) c.look.new.self)) (sym c.in-Look.is)
    c.look.ensures.served
