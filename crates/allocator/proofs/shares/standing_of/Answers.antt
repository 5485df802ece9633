use Rattle.std.proofs.Common.{◌≡◌, None, ap, sym, ◌∙◌}
use Rattle.allocator.specs.Shares.{level_of}
use Rattle.allocator.proofs.Levels.{level_within, level_fits, spread-minima}
use Rattle.allocator.proofs.shares.standing_of.Goals as goal

pub sum_at-requires-clause-level : goal.sum_at-requires-clause-level
sum_at-requires-clause-level c =
    level_within c.args.total c.args.served.now.streams.items c.in-Some.level
    (ap (level_of c.args.total) (sym c.deref.ensures.0) ∙ sym c.level_of.ensures ∙ c.in-Some.is)

pub overflow_sub-result : goal.overflow_sub-result
overflow_sub-result c =
    rw (c.sum_at.ensures, c.deref-in-Some.ensures.0) (level_fits c.args.total c.args.served.now.streams.items c.in-Some.level
    (ap (level_of c.args.total) (sym c.deref.ensures.0) ∙ sym c.level_of.ensures ∙ c.in-Some.is))

pub returns-in-None-clause-spread : goal.returns-in-None-clause-spread
returns-in-None-clause-spread c =
    let none : level_of c.args.total c.args.served.now.streams.items ≡ None = ap (level_of c.args.total) (sym c.deref.ensures.0) ∙ sym c.level_of.ensures ∙ c.in-None.is in
    rw none (spread-minima c.args.served.now.streams.items)

pub returns-in-Some-clause-level : goal.returns-in-Some-clause-level
returns-in-Some-clause-level c =
    level_within c.args.total c.args.served.now.streams.items c.in-Some.level
    (ap (level_of c.args.total) (sym c.deref.ensures.0) ∙ sym c.level_of.ensures ∙ c.in-Some.is)
