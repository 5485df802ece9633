use Rattle.std.proofs.Common.{◌≡◌, ◌++◌, codes, List, ℕ, ap, append_assoc}
use Rattle.std.proofs.lemmas.Result.{on_ok_weaker}
use Rattle.std.specs.Fmt.{decimal}
use Rattle.reply_text.specs.Text.{shares_text}
use Rattle.reply_text.proofs.lines.push_configured.Goals as goal

-- the parts, each behind those before it
parts : (at : ℕ) (old first second third all rates shares given : List ℕ) → first ≡ old ++ (codes "configured " ++ (decimal at ++ codes " ")) → second ≡ first ++ rates → third ≡ second ++ codes " shares " → given ≡ shares
    → all ≡ third ++ given → all ≡ old ++ (codes "configured " ++ decimal at ++ codes " " ++ rates ++ codes " shares " ++ shares)
parts at old first second third all rates shares given a b c d e = rw (e, d, c, b, a) (simp append_assoc)

pub returns : goal.returns
returns c =
    on_ok_weaker c.push_shares.result
    (λ told. parts c.args.at _ _ _ _ _ _ _ _ c.in_ok-write.ensures.bytes c.in_ok-push_rates.ensures c.in_ok-push_str.ensures.bytes (ap shares_text c.as_slice.ensures.items) told)
    c.push_shares.ensures
