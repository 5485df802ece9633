use Rattle.std.proofs.Common.{◌≡◌, ◌∙◌, ap, sym, subst, map, [], All, List, ◌∷◌, ◌++◌}
use Rattle.gcc_units.specs.Listed.{Listed}
use Rattle.twcc_report.specs.Spelling.{Feedback, view}
use Rattle.twcc_report.specs.declared.report.Report.{Report}
use Rattle.link_path.specs.Division.{runs_of, last_time}
use Rattle.link_path.specs.Building.{IsAt}
use Rattle.link_path.specs.Receiver.{KeptReceiver, IsWritable, heard, next_from, next_reports, told_before, told_all}
use Rattle.link_path.specs.Taking.{StandsFor, listed, reported}
use Rattle.link_path.proofs.Heard.{all-numbers, empty-by, kept-after}
use Rattle.link_path.proofs.Lists.{list-is, stands-listed}
use Rattle.link_path.proofs.Writable.{all-writable, last-kept}
use Rattle.link_path.proofs.receiver.Receiver.reports.Goals as goal

pub returns-clause-value : goal.returns-clause-value
returns-clause-value c =
    let now : KeptReceiver = record { from = c.self.inside.from; last = c.self.inside.last; feedback = c.self.inside.feedback; taken = c.self.inside.taken.items } in
    let done : IsAt c.end.new.self (told_before now) (runs_of (heard now.from now.taken)) [] =
    rw c.as_slice.ensures.value at (c.in_ok-end.ensures (told_before now) (heard now.from c.as_slice.result.now) (c.in_ok-next.ensures.built (told_before now) [] c.new-building.ensures)) in
    let V : KeptReceiver → Type 0 = λ k. map view c.end.new.self.reports.items ≡ next_reports k in
    ap (λ (l : Listed Report). map view l.items) c.settle.ensures ∙ subst V c.self.view_is done.done

pub returns-clause-state : goal.returns-clause-state
returns-clause-state c =
    let now : KeptReceiver = record { from = c.self.inside.from; last = c.self.inside.last; feedback = c.self.inside.feedback; taken = c.self.inside.taken.items } in
    let done : IsAt c.end.new.self (told_before now) (runs_of (heard now.from now.taken)) [] =
    rw c.as_slice.ensures.value at (c.in_ok-end.ensures (told_before now) (heard now.from c.as_slice.result.now) (c.in_ok-next.ensures.built (told_before now) [] c.new-building.ensures)) in
    kept-after now c.in_ok-next.next c.end.new.self.before c.end.new.self.feedback c.clear.new.self.items
    (c.in_ok-next.ensures.next ∙ ap (next_from now.from) c.as_slice.ensures.value) done.before done.feedback c.clear.ensures.items
    ∙ ap told_all c.self.view_is

pub returns-clause-empty : goal.returns-clause-empty
returns-clause-empty c = empty-by c.args.self.now c.settle.new.self.items (returns-clause-value c)

pub returns-clause-writable : goal.returns-clause-writable
returns-clause-writable c =
    let P : KeptReceiver → Type 0 = λ k. All IsWritable (next_reports k) in
    let now : KeptReceiver = record { from = c.self.inside.from; last = c.self.inside.last; feedback = c.self.inside.feedback; taken = c.self.inside.taken.items } in
    subst (All IsWritable) (sym (returns-clause-value c)) (subst P c.self.view_is (all-writable now c.self.invariant))

pub invariant_of-self : goal.invariant_of-self
invariant_of-self c =
    let now : KeptReceiver = record { from = c.self.inside.from; last = c.self.inside.last; feedback = c.self.inside.feedback; taken = c.self.inside.taken.items } in
    let done : IsAt c.end.new.self (told_before now) (runs_of (heard now.from now.taken)) [] =
    rw c.as_slice.ensures.value at (c.in_ok-end.ensures (told_before now) (heard now.from c.as_slice.result.now) (c.in_ok-next.ensures.built (told_before now) [] c.new-building.ensures)) in
    last-kept now.from now.last c.end.new.self.before c.in_ok-next.next now.taken c.clear.new.self.items c.self.invariant
    (done.before ∙ ap (last_time now.last) (all-numbers (heard now.from now.taken))) c.clear.ensures.items

pub returns-clause-reported : goal.returns-clause-reported
returns-clause-reported c steps h = list-is c.args.self.now steps h ∙ ap (λ (fs : List Feedback). reported steps ++ fs) (sym (returns-clause-value c))

pub returns-clause-stands : goal.returns-clause-stands
returns-clause-stands c steps h =
    let P : KeptReceiver → Type 0 = λ k. StandsFor k (steps ++ listed ∷ []) in
    subst P (sym (returns-clause-state c)) (stands-listed c.args.self.now steps h)
