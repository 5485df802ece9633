use Rattle.trendline.proofs.Windows.{held-small, gone-small, held-more, held-last, kept-is}
use Rattle.trendline.proofs.window.Window.push.Goals as goal

pub with-more-requires-clause-sums : goal.with-more-requires-clause-sums
with-more-requires-clause-sums c = held-small c.self.inside.points.capacity c.self.inside.sums c.self.inside.points.items c.self.invariant

pub with-more-requires-clause-point : goal.with-more-requires-clause-point
with-more-requires-clause-point c = c.requires

pub without-self-inside-requires-clause-sums : goal.without-self-inside-requires-clause-sums
without-self-inside-requires-clause-sums c = c.with-more.ensures.small

pub without-self-inside-requires-clause-point : goal.without-self-inside-requires-clause-point
without-self-inside-requires-clause-point c =
    gone-small c.self.inside.points.capacity c.self.inside.sums c.self.inside.points.items c.args.point c.in-Some.gone c.self.invariant c.in-Some.ensures.value

pub invariant_of-self : goal.invariant_of-self
invariant_of-self c =
    held-more c.self.inside.points.capacity c.self.inside.sums c.with-more.result c.self.inside.points.items c.args.point c.push_back.new.self
    c.self.invariant c.requires c.in_default.ensures.value c.with-more.ensures.value c.push_back.ensures.items

pub invariant_of-self-2 : goal.invariant_of-self-2
invariant_of-self-2 c =
    held-last c.self.inside.points.capacity c.self.inside.sums c.with-more.result c.without-self-inside.result c.self.inside.points.items c.args.point c.in-Some.gone
    c.push_back.new.self c.self.invariant c.requires c.in-Some.ensures.value c.with-more.ensures.value c.without-self-inside.ensures c.push_back.ensures.items

pub returns-in_default : goal.returns-in_default
returns-in_default c =
    kept-is c.self.inside.points.capacity c.self.inside.points.items c.args.self.now c.args.point c.push_back.new.self c.self.invariant.room c.self.view_is c.push_back.ensures.items

pub returns : goal.returns
returns c =
    kept-is c.self.inside.points.capacity c.self.inside.points.items c.args.self.now c.args.point c.push_back.new.self c.self.invariant.room c.self.view_is c.push_back.ensures.items
