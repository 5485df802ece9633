use Rattle.std.proofs.Common.{◌≡◌, ◌++◌, codes, ℕ, ◌∙◌, append_assoc}
use Rattle.std.specs.Fmt.{decimal}
use Rattle.resending.proofs.text.nack_text.Goals as goal

-- the parts of the line, one behind the other
in_order : (k a b c d : ℕ)
    → codes "nack " ++ (decimal k ++ (codes " named " ++ (decimal a ++ (codes " resent " ++ (decimal b ++ (codes " unknown " ++ (decimal c ++ (codes " spent " ++ (decimal d ++ codes "\n")))))))))
    ≡ codes "nack " ++ decimal k ++ codes " named " ++ decimal a ++ codes " resent " ++ decimal b ++ codes " unknown " ++ decimal c ++ codes " spent " ++ decimal d ++ codes "\n"
in_order k a b c d = simp append_assoc

pub returns : goal.returns
returns c = c.in_ok-format.ensures.ok ∙ in_order c.args.number c.args.line.now.named c.args.line.now.resent c.args.line.now.unknown c.args.line.now.spent
