use Rattle.std.proofs.Common.{refl}
use Rattle.serde_json.specs.Errors.{IsMemory}
use Rattle.call_trace.proofs.Json.{json_is, json_is_none}
use Rattle.call_trace.proofs.change.change.Goals as goal

pub returns-in-Ok : goal.returns-in-Ok
returns-in-Ok c = rw (json_is c.args.text.now _ c.in-Ok.ensures.ok.0 c.in-Ok.ensures.ok.1) c.change_of.ensures

pub returns-in-Err-2 : goal.returns-in-Err-2
returns-in-Err-2 c =
    let other : ¬ IsMemory c.in-Err.error = λ m. (let is = c.is_memory.ensures.1 m in let not = c.if-is_memory.false in cc) in
    rw (json_is_none c.args.text.now (c.in-Err.ensures.err other)) refl
