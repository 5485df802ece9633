use Rattle.std.proofs.Common.{◌≡◌, ◌++◌, codes, ℕ, ◌∙◌, append_assoc}
use Rattle.std.specs.Fmt.{decimal}
use Rattle.run_top.proofs.summing.kinds_line.Goals as goal

-- the parts of the line, one behind the other
in_order : (a b c d : ℕ)
    → codes "kinds audio " ++ (decimal a ++ (codes " media " ++ (decimal b ++ (codes " probe " ++ (decimal c ++ (codes " padding " ++ (decimal d ++ codes "\n")))))))
    ≡ codes "kinds audio " ++ decimal a ++ codes " media " ++ decimal b ++ codes " probe " ++ decimal c ++ codes " padding " ++ decimal d ++ codes "\n"
in_order a b c d = simp append_assoc

pub returns : goal.returns
returns c = c.in_ok-format.ensures.ok ∙ in_order c.args.audio c.args.media c.args.probe c.args.padding
