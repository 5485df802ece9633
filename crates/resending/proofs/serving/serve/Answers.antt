use Rattle.std.proofs.Common.{rules, ◌≡◌, ◌++◌, ◌∷◌, [], ap, sym, ◌∙◌}
use Rattle.gcc_units.specs.Listed.{Listed}
use Rattle.send_core.specs.declared.call.Call.{Call}
use Rattle.send_core.specs.declared.call.Answer.{Answer}
use Rattle.turn_lock.specs.Seats.{SeatIs}
use Rattle.resending.specs.Serving.{serving}
use Rattle.resending.proofs.Closed.{only_seat, has_one, whole_of, served_all, journal_is}
use Rattle.resending.proofs.Few.{memory_alone}
use Rattle.resending.proofs.serving.serve.Goals as goal

pub close-requires-clause-every : goal.close-requires-clause-every
close-requires-clause-every g c =
    let seat = c.serve_lines-ended.new.server.seat in
    let only = only_seat c.in-Ok.shared.of c.pop.new.self.items c.in-Some.seat (sym c.in-Ok.ensures.seats ∙ c.in-Some.ensures.some) in
    let is : c.push.new.self.items ≡ seat ∷ [] = ap (λ (l : Listed (SeatIs Call Answer)). l.items) c.in-Ok-push.ensures.ok ∙ ap (λ xs. xs ++ seat ∷ []) only.0 in
    has_one c.in-Ok.shared.seats c.push.new.self.items seat c.in-Ok.ensures.count is c.serve_lines-ended.ensures.seated.number

pub returns-in-Ok-ended-clause-history : goal.returns-in-Ok-ended-clause-history
returns-in-Ok-ended-clause-history g c =
    let now = c.serve_lines-ended.new.server in
    let only = only_seat c.in-Ok.shared.of c.pop.new.self.items c.in-Some.seat (sym c.in-Ok.ensures.seats ∙ c.in-Some.ensures.some) in
    let is : c.push.new.self.items ≡ now.seat ∷ [] = ap (λ (l : Listed (SeatIs Call Answer)). l.items) c.in-Ok-push.ensures.ok ∙ ap (λ xs. xs ++ now.seat ∷ []) only.0 in
    let e = c.in-Ok-close.ensures in
    let seated = c.serve_lines-ended.ensures.seated in
    let all = whole_of c.in-Ok.shared.seats c.in-Ok-close.sender c.push.new.self.items now.seat c.in-Ok.ensures.count is seated.number seated.own e.seen e.mine e.others in
    journal_is c.args.settings (serving c.args.settings c.args.lines.items) now c.in-Ok-close.sender all (c.in-Ok-ended.ensures.served c.args.settings c.in_ok-server.ensures.stands)

pub returns-in-Ok-ended-clause-nacks : goal.returns-in-Ok-ended-clause-nacks
returns-in-Ok-ended-clause-nacks g c =
    let now = c.serve_lines-ended.new.server in
    let only = only_seat c.in-Ok.shared.of c.pop.new.self.items c.in-Some.seat (sym c.in-Ok.ensures.seats ∙ c.in-Some.ensures.some) in
    let is : c.push.new.self.items ≡ now.seat ∷ [] = ap (λ (l : Listed (SeatIs Call Answer)). l.items) c.in-Ok-push.ensures.ok ∙ ap (λ xs. xs ++ now.seat ∷ []) only.0 in
    let e = c.in-Ok-close.ensures in
    let seated = c.serve_lines-ended.ensures.seated in
    let all = whole_of c.in-Ok.shared.seats c.in-Ok-close.sender c.push.new.self.items now.seat c.in-Ok.ensures.count is seated.number seated.own e.seen e.mine e.others in
    (served_all c.args.settings (serving c.args.settings c.args.lines.items) now c.in-Ok-close.sender all (c.in-Ok-ended.ensures.served c.args.settings c.in_ok-server.ensures.stands)).nacks

pub returns-in-Ok-ended-clause-glances : goal.returns-in-Ok-ended-clause-glances
returns-in-Ok-ended-clause-glances g c =
    let now = c.serve_lines-ended.new.server in
    let only = only_seat c.in-Ok.shared.of c.pop.new.self.items c.in-Some.seat (sym c.in-Ok.ensures.seats ∙ c.in-Some.ensures.some) in
    let is : c.push.new.self.items ≡ now.seat ∷ [] = ap (λ (l : Listed (SeatIs Call Answer)). l.items) c.in-Ok-push.ensures.ok ∙ ap (λ xs. xs ++ now.seat ∷ []) only.0 in
    let e = c.in-Ok-close.ensures in
    let seated = c.serve_lines-ended.ensures.seated in
    let all = whole_of c.in-Ok.shared.seats c.in-Ok-close.sender c.push.new.self.items now.seat c.in-Ok.ensures.count is seated.number seated.own e.seen e.mine e.others in
    (served_all c.args.settings (serving c.args.settings c.args.lines.items) now c.in-Ok-close.sender all (c.in-Ok-ended.ensures.served c.args.settings c.in_ok-server.ensures.stands)).glances

pub only_memory-requires : goal.only_memory-requires
only_memory-requires g c =
    let now = c.serve_lines-ended.new.server in
    let only = only_seat c.in-Ok.shared.of c.pop.new.self.items c.in-Some.seat (sym c.in-Ok.ensures.seats ∙ c.in-Some.ensures.some) in
    let is : c.push.new.self.items ≡ now.seat ∷ [] = ap (λ (l : Listed (SeatIs Call Answer)). l.items) c.in-Ok-push.ensures.ok ∙ ap (λ xs. xs ++ now.seat ∷ []) only.0 in
    let e = c.in-Ok-close.ensures in
    let seated = c.serve_lines-ended.ensures.seated in
    let all = whole_of c.in-Ok.shared.seats c.in-Ok-close.sender c.push.new.self.items now.seat c.in-Ok.ensures.count is seated.number seated.own e.seen e.mine e.others in
    let st = c.in-Err.ensures.stopped c.args.settings c.in_ok-server.ensures.stands all.alone in
    memory_alone c.args.settings c.args.lines.items st.0 c.in-Err.why (record { few = c.requires.repeats; differ = c.requires.ssrcs; small = search rules }) c.requires.few st.1 st.2
