use Rattle.std.proofs.Common.{sym, subst, rules, [], ◌∷◌, ◌++◌}
use Rattle.std.specs.Result.{is_ok}
use Rattle.link_path.specs.Receiver.{KeptReceiver, IsNext}
use Rattle.std.proofs.lemmas.Result.{on_ok_weaker}
use Rattle.link_path.specs.Taking.{StandsFor, took}
use Rattle.link_path.proofs.Heard.{rise-pushed}
use Rattle.link_path.proofs.Lists.{stands-took}
use Rattle.link_path.proofs.receiver.Receiver.take.Goals as goal

pub invariant_of-self : goal.invariant_of-self
invariant_of-self c =
    let P : KeptReceiver → Type 0 = λ k. IsNext k c.args.arrival.now in
    let next = subst P (sym c.self.view_is) c.requires in
    record {
      rise = rise-pushed (is_ok c.push.result) c.self.inside.from c.self.inside.taken.items c.push.new.self.items c.args.arrival.now c.push.ensures.items c.self.invariant.rise next.after next.range;
      early = c.self.invariant.early;
    }

pub returns-clause-state : goal.returns-clause-state
returns-clause-state c = search rules

pub returns-clause-stands : goal.returns-clause-stands
returns-clause-stands c =
    on_ok_weaker c.match-push.result
    (λ state steps h.
    let P : KeptReceiver → Type 0 = λ k. StandsFor k (steps ++ took c.args.arrival.now ∷ []) in
    subst P (sym state) (stands-took c.args.self.now steps c.args.arrival.now h))
    (returns-clause-state c)
