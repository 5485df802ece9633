use Rattle.std.proofs.Common.{◌≡◌, ◌++◌, codes, ℕ, ◌∙◌, append_assoc}
use Rattle.std.specs.Fmt.{decimal}
use Rattle.run_top.proofs.looping.fates_line.Goals as goal

-- the parts of the line, one behind the other
in_order : (a b c d : ℕ)
    → codes "sent " ++ (decimal a ++ (codes " delivered " ++ (decimal b ++ (codes " dropped " ++ (decimal c ++ (codes " inside " ++ (decimal d ++ codes "\n")))))))
    ≡ codes "sent " ++ decimal a ++ codes " delivered " ++ decimal b ++ codes " dropped " ++ decimal c ++ codes " inside " ++ decimal d ++ codes "\n"
in_order a b c d = simp append_assoc

pub returns : goal.returns
returns c = c.in_ok-format.ensures.ok ∙ in_order c.args.sent c.args.delivered c.args.dropped c.args.inside
