use Rattle.std.proofs.Common.{map, sym, ◌∙◌, ap}
use Rattle.rtp_wire.specs.Wires.{bare_wires}
use Rattle.send_core.specs.History.{accepted}
use Rattle.send_core.specs.Reply.{extension_id}
use Rattle.send_core.specs.Wires.{wire_of}
use Rattle.live_sender.proofs.serving.quiet.Goals as goal

pub returns-clause-wires : goal.returns-clause-wires
returns-clause-wires c = λ h. c.new.ensures ∙ ap (λ rs. bare_wires (map (wire_of (extension_id h) (accepted h)) rs)) (sym c.requires)
