use Rattle.std.proofs.Common.{◌≡◌, ◌++◌, codes, take}
use Rattle.std.specs.String.{string_bytes}
use Rattle.std.specs.List.{flat_map}
use Rattle.gcc_units.specs.declared.shared_types.Share.{Share}
use Rattle.reply_text.specs.Text.{share_text}
use Rattle.reply_text.proofs.lines.push_shares.Given as goal

abbrev pub invariant-loop-share : goal.invariant-loop-share
invariant-loop-share l = string_bytes l.text ≡ string_bytes l.initial.text ++ flat_map (λ (x : Share). codes "," ++ share_text x) (take l.share-index l.others)
