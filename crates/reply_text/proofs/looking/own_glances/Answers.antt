use Rattle.std.proofs.Common.{◌≡◌, ◌+◌, List, ◌∷◌, take, length, arith, length-take, ap, sym, ◌∙◌, subst, Bor}
use Rattle.call_trace.specs.Merge.{asked}
use Rattle.reply_text.specs.declared.looking.Standing.{Standing}
use Rattle.reply_text.specs.declared.seen.Seen.{Seen}
use Rattle.reply_text.proofs.OwnGlances.{IsGoing, IsAt, going_quiet, going_look, seen_of, few_asked}
use Rattle.reply_text.proofs.looking.own_glances.Goals as goal
use Rattle.reply_text.proofs.looking.own_glances.Goals.{in-Ask, in-Look+in_ok-first-in-Look+in_ok-standing-in-Look, in-None}

pub overflow_add-standing : goal.overflow_add-standing
overflow_add-standing c =
    let low = few_asked c.args.actor (take c.loop-line.line-index c.args.lines.now) in
    omega (arith, low, length-take c.loop-line.line-index c.args.lines.now, c.loop-line.invariant.asked, c.requires.lines)

pub loop-line-preserved : goal.loop-line-preserved
loop-line-preserved c =
    let h = c.args.served.now.sender in
    let lines = c.args.lines.now in
    let a = c.args.actor in
    let i = c.loop-line.line-index in
    let line = c.line-item.result in
    let before = c.loop-line.standing in
    let after = c.match-act_in.standing in
    let at : IsAt h lines a c.args.glances.now i line = record { low = omega (arith, c.loop-line-test.true); is = c.line-item.is } in
    elim c.match-act_in.branch [
      | in-Ask w ↦
          let rest_is : c.match-act_in.rest.now ≡ c.loop-line.rest.now = ap (λ (r : Bor (List Seen)). r.now) w.rest-is in
          subst (λ (xs : List Seen). IsGoing h lines a c.args.glances.now (i + 1) after xs) (sym rest_is)
          (going_quiet h lines a c.args.glances.now i line before after c.loop-line.rest.now at c.loop-line.invariant w.in-Ask.ensures.1
          (ap (λ (s : Standing). s.asked) w.standing-is ∙ ap (λ n. before.asked + n) (sym w.in-Ask.ensures.0)) (ap (λ (s : Standing). s.calls) w.standing-is) (ap (λ (s : Standing). s.made) w.standing-is))
      | in-Look+in_ok-first-in-Look+in_ok-standing-in-Look w ↦
          let rest_is : c.match-act_in.rest.now ≡ w.in_ok-first-in-Look.others.now = ap (λ (r : Bor (List Seen)). r.now) w.rest-is in
          let split : c.loop-line.rest.now ≡ w.in_ok-first-in-Look.first.now ∷ w.in_ok-first-in-Look.others.now = w.in_ok-first-in-Look.ensures.cases.0 in
          let going : IsGoing h lines a c.args.glances.now i before (w.in_ok-first-in-Look.first.now ∷ w.in_ok-first-in-Look.others.now)
          = subst (λ (xs : List Seen). IsGoing h lines a c.args.glances.now i before xs) split c.loop-line.invariant in
          subst (λ (xs : List Seen). IsGoing h lines a c.args.glances.now (i + 1) after xs) (sym rest_is)
          (subst (λ (s : Standing). IsGoing h lines a c.args.glances.now (i + 1) s w.in_ok-first-in-Look.others.now) (sym w.standing-is)
          (going_look h lines a c.args.glances.now i line before w.in_ok-standing-in-Look.standing w.in_ok-first-in-Look.first.now w.in_ok-first-in-Look.others.now c.requires.merges at going w.in-Look.ensures.1 w.in-Look.ensures.0
          w.in_ok-standing-in-Look.ensures.seen w.in_ok-standing-in-Look.ensures.asked w.in_ok-standing-in-Look.ensures.calls w.in_ok-standing-in-Look.ensures.standing))
      | in-None w ↦
          let rest_is : c.match-act_in.rest.now ≡ c.loop-line.rest.now = ap (λ (r : Bor (List Seen)). r.now) w.rest-is in
          let none : 0 ≡ length (asked a line) = ap length (sym w.in-None.ensures.0) in
          subst (λ (xs : List Seen). IsGoing h lines a c.args.glances.now (i + 1) after xs) (sym rest_is)
          (going_quiet h lines a c.args.glances.now i line before after c.loop-line.rest.now at c.loop-line.invariant w.in-None.ensures.1
          (omega (arith, none, ap (λ (s : Standing). s.asked) w.standing-is)) (ap (λ (s : Standing). s.calls) w.standing-is) (ap (λ (s : Standing). s.made) w.standing-is))
    ]

pub returns-in_err-standing-in-Look-clause-none : goal.returns-in_err-standing-in-Look-clause-none
returns-in_err-standing-in-Look-clause-none c = rw c.from_residual-in_err-standing-in-Look.ensures (λ own more split legal.
    let h = c.args.served.now.sender in
    let lines = c.args.lines.now in
    let a = c.args.actor in
    let i = c.loop-line.line-index in
    let at : IsAt c.args.served.now.sender c.args.lines.now c.args.actor c.args.glances.now c.loop-line.line-index c.line-item.result = record { low = omega (arith, c.loop-line-test.true); is = c.line-item.is } in
    let going : IsGoing c.args.served.now.sender c.args.lines.now c.args.actor c.args.glances.now c.loop-line.line-index c.loop-line.standing (c.in_ok-first-in-Look.first.now ∷ c.in_ok-first-in-Look.others.now)
    = subst (λ (xs : List Seen). IsGoing c.args.served.now.sender c.args.lines.now c.args.actor c.args.glances.now c.loop-line.line-index c.loop-line.standing xs) c.in_ok-first-in-Look.ensures.cases.0 c.loop-line.invariant in
    c.in_err-standing-in-Look.ensures.none
    (seen_of c.args.served.now.sender c.args.lines.now c.args.actor c.args.glances.now c.loop-line.line-index c.line-item.result c.loop-line.standing c.in_ok-first-in-Look.first.now c.in_ok-first-in-Look.others.now own more
    at going c.in-Look.ensures.1 split legal))
