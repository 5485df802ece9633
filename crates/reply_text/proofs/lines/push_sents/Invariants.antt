use Rattle.std.proofs.Common.{◌≡◌, ◌++◌, take}
use Rattle.std.specs.String.{string_bytes}
use Rattle.std.specs.List.{flat_map}
use Rattle.reply_text.specs.Text.{sent_text}
use Rattle.reply_text.proofs.lines.push_sents.Given as goal

abbrev pub invariant-loop-record : goal.invariant-loop-record
invariant-loop-record l = string_bytes l.text ≡ string_bytes l.fn.text ++ flat_map sent_text (take l.record-index l.records)
