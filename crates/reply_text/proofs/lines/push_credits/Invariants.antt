use Rattle.std.proofs.Common.{◌≡◌, ◌++◌, codes, take}
use Rattle.std.specs.String.{string_bytes}
use Rattle.std.specs.List.{flat_map}
use Rattle.gcc_units.specs.declared.shared_types.Credit.{Credit}
use Rattle.reply_text.specs.Text.{credit_text}
use Rattle.reply_text.proofs.lines.push_credits.Given as goal

abbrev pub invariant-loop-credit : goal.invariant-loop-credit
invariant-loop-credit l = string_bytes l.text ≡ string_bytes l.initial.text ++ flat_map (λ (x : Credit). codes " " ++ credit_text x) (take l.credit-index l.others)
