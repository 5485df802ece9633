use Rattle.std.proofs.Common.{List, take}
use Rattle.gcc_units.specs.declared.shared_types.Credit.{Credit}
use Rattle.estimator.specs.Signals.{Follow}
use Rattle.estimator.proofs.Reports.{Hears}
use Rattle.estimator.proofs.hearing.hear.Given as goal

-- for whatever credits they followed before
abbrev pub invariant-loop-credit : goal.invariant-loop-credit
invariant-loop-credit l =
    (before : List Credit) → Follow before l.initial.groups l.initial.filter l.initial.detector
    → Hears before (take l.credit-index l.received) l.groups l.filter l.detector l.heard
