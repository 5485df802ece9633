use Rattle.std.proofs.Common.{◌≡◌, ◌<◌, ℕ, List, ◌++◌, Some, None, sym, ◌∙◌, ap, arith, get_or, subst, refl, [], ◌∷◌}
use Rattle.std.specs.Prelude.{◌≢◌}
use Rattle.std.proofs.lemmas.Bool.Decides.{Decides-eqb}
use Rattle.std.proofs.lemmas.Slice.Eq.{strip_prefix_is}
use Rattle.send_core.specs.declared.call.Call.{Call}
use Rattle.send_core.specs.History.{entry}
use Rattle.send_core.specs.Reply.{reply}
use Rattle.call_trace.specs.Fields.{number_of}
use Rattle.reply_text.specs.Text.{line_of}
use Rattle.reply_text.specs.Verdict.{IsNext}
use Rattle.reply_text.proofs.NextLines.{no_number, no_actor, no_next, next_is, no_line, served_is, placed_more}
use Rattle.reply_text.proofs.serving.step.Goals as goal

pub returns-in_default-clause-bad : goal.returns-in_default-clause-bad
returns-in_default-clause-bad c =
    no_number c.args.lines.now c.args.actors c.args.sender.now c.args.rest.now c.requires.actors (ap number_of (sym c.cut.ensures.first) ∙ sym c.in_default.ensures)

pub returns-then-caller-from-clause-bad : goal.returns-then-caller-from-clause-bad
returns-then-caller-from-clause-bad c =
    no_actor c.args.lines.now c.args.actors c.args.sender.now c.args.rest.now c.requires.actors c.in-Some.caller (ap number_of (sym c.cut.ensures.first) ∙ sym c.in-Some.ensures)
    (omega (arith, c.from.ensures, c.if-caller-from.true))

pub returns-in_default-next_call-clause-bad : goal.returns-in_default-next_call-clause-bad
returns-in_default-next_call-clause-bad c =
    no_next c.args.lines.now c.args.actors c.args.sender.now c.args.rest.now c.requires.actors c.in-Some.caller (get_or c.args.cursors.now c.in-Some.caller 0)
    (ap number_of (sym c.cut.ensures.first) ∙ sym c.in-Some.ensures) (c.requires.placed.each c.in-Some.caller (omega (arith, c.from.ensures, c.if-caller-from.false))) c.in_default-next_call.ensures.none

pub returns-in_default-strip_prefix-clause-bad : goal.returns-in_default-strip_prefix-clause-bad
returns-in_default-strip_prefix-clause-bad c =
    let h = c.args.sender.now in
    let caller = c.in-Some.caller in
    let call = c.in-Some-next_call.call.now in
    let line_is : c.as_bytes.result.now ≡ line_of (entry caller call (reply h call))
    = c.as_bytes.ensures.value ∙ (c.in_ok-line.ensures.line ∙ ap (λ (k : Call). line_of (entry caller k (reply h k))) c.in_ok-copy_call.ensures) in
    let next : IsNext c.args.lines.now h caller call
    = next_is c.args.lines.now c.args.actors h c.args.rest.now c.requires.actors caller (get_or c.args.cursors.now caller 0) c.in-Some-next_call.place call
    (c.requires.placed.each caller (omega (arith, c.from.ensures, c.if-caller-from.false))) c.in-Some-next_call.ensures.some in
    no_line c.args.lines.now c.args.actors h c.args.rest.now c.requires.actors caller call (ap number_of (sym c.cut.ensures.first) ∙ sym c.in-Some.ensures) next
    (subst (λ xs. (more : List ℕ) → c.args.rest.now ≢ xs ++ more) line_is (strip_prefix_is Decides-eqb c.args.rest.now c.as_bytes.result.now None c.in_default-strip_prefix.ensures.cases))

pub returns-clause-good : goal.returns-clause-good
returns-clause-good c =
    let h = c.args.sender.now in
    let caller = c.in-Some.caller in
    let call = c.in-Some-next_call.call.now in
    let low : caller < c.args.actors = omega (arith, c.from.ensures, c.if-caller-from.false) in
    let line_is : c.as_bytes.result.now ≡ line_of (entry caller call (reply h call))
    = c.as_bytes.ensures.value ∙ (c.in_ok-line.ensures.line ∙ ap (λ (k : Call). line_of (entry caller k (reply h k))) c.in_ok-copy_call.ensures) in
    let next : IsNext c.args.lines.now h caller call
    = next_is c.args.lines.now c.args.actors h c.args.rest.now c.requires.actors caller (get_or c.args.cursors.now caller 0) c.in-Some-next_call.place call
    (c.requires.placed.each caller low) c.in-Some-next_call.ensures.some in
    let split : c.args.rest.now ≡ c.as_bytes.result.now ++ c.in-Some-strip_prefix.more.now
    = strip_prefix_is Decides-eqb c.args.rest.now c.as_bytes.result.now (Some c.in-Some-strip_prefix.more) c.in-Some-strip_prefix.ensures.cases in
    served_is c.args.lines.now c.args.actors h c.args.rest.now c.requires.actors caller call c.serve.new.sender c.in-Some-strip_prefix.more.now low next
    (c.in_ok-line.ensures.served ∙ ap (λ (k : Call). h ++ entry caller k (reply h k) ∷ []) c.in_ok-copy_call.ensures)
    (split ∙ ap (λ xs. xs ++ c.in-Some-strip_prefix.more.now) line_is)

pub returns-clause-placed : goal.returns-clause-placed
returns-clause-placed c =
    let h = c.args.sender.now in
    let caller = c.in-Some.caller in
    let call = c.in-Some-next_call.call.now in
    placed_more c.args.lines.now c.args.actors h c.serve.new.sender c.args.cursors.now caller c.in-Some-next_call.place (entry caller call (reply h call)) c.requires.actors c.requires.placed
    (omega (arith, c.from.ensures, c.if-caller-from.false)) c.in-Some-next_call.ensures.within c.in-Some-next_call.ensures.some refl
    (c.in_ok-line.ensures.served ∙ ap (λ (k : Call). h ++ entry caller k (reply h k) ∷ []) c.in_ok-copy_call.ensures)
