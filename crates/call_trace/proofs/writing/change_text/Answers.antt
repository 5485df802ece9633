use Rattle.std.proofs.lemmas.Str.{IsUtf8-string_bytes}
use Rattle.call_trace.proofs.ChangeText.{text_is, spells, text_feedless}
use Rattle.call_trace.proofs.writing.change_text.Goals as goal

pub returns-clause-written : goal.returns-clause-written
returns-clause-written c = text_is c.args.change.now _ _ c.in_ok-value.ensures.written c.in_ok-text.ensures.text

pub returns-clause-spells : goal.returns-clause-spells
returns-clause-spells c =
    spells c.args.change.now _ _ c.in_ok-value.ensures.written (text_is c.args.change.now _ _ c.in_ok-value.ensures.written c.in_ok-text.ensures.text) (IsUtf8-string_bytes c.in_ok-text.text) c.in_ok-text.ensures.reads_back
    c.in_ok-value.ensures.spells

pub returns-clause-feedless : goal.returns-clause-feedless
returns-clause-feedless c = text_feedless c.args.change.now
