use Rattle.packet_groups.specs.Groups.{samples}
use Rattle.run_top.proofs.OneMore.{last-within, takes-sample, so_far-some, on_ok}
use Rattle.run_top.proofs.comparing.Comparing.take.Goals as goal

pub add-requires : goal.add-requires
add-requires c = last-within c.requires.0 c.args.credit.now c.requires.2

pub step-compared-requires : goal.step-compared-requires
step-compared-requires c =
    takes-sample c.gaps_stay_within.ensures c.samples_stay_few.ensures.short c.args.self.now c.requires.0 c.args.credit.now c.in-Some.sample c.requires.1 c.requires.2
    (c.in-Some.ensures.sample c.requires.0 c.requires.1.groups)

pub returns : goal.returns
returns c =
    on_ok c.push_compared.result
    (λ text credits so_far.
    so_far-some c.args.self.now _ credits c.args.credit.now c.in-Some.sample c.count-k.result c.step-compared.result so_far (c.add.ensures.stands credits so_far.groups)
    (c.in-Some.ensures.sample credits so_far.groups) (c.step-compared.ensures.beside (samples credits) so_far.beside) (c.count-k.ensures (samples credits) so_far.beside)
    (c.step-compared.ensures.compared (samples credits) so_far.beside) text)
    c.push_compared.ensures
