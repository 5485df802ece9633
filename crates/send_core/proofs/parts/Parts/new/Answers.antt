use Rattle.send_core.proofs.First.{stands-first}
use Rattle.send_core.proofs.parts.Parts.new.Goals as goal

pub returns : goal.returns
returns c = record {
  stands = stands-first c.in_ok-new.field-0 c.in_ok-new-2.field-0 c.in_ok-new-3.field-0 c.new-4.result c.new-5.result c.start.result
      c.in_ok-new.ensures c.in_ok-new-2.ensures c.in_ok-new-3.ensures c.new-4.ensures.stands c.new-5.ensures c.start.ensures;
}
