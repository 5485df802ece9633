use Rattle.std.proofs.Common.{◌++◌, take, sym, ◌∙◌, ap, append_assoc}
use Rattle.std.specs.String.{string_bytes}
use Rattle.std.specs.List.{flat_map}
use Rattle.reply_text.specs.Text.{line_of}
use Rattle.reply_text.proofs.OneMore.{flat_map-next}
use Rattle.reply_text.proofs.text.push_entries.Goals as goal

pub loop-k-preserved : goal.loop-k-preserved
loop-k-preserved c =
    c.in_ok-push_line.ensures c.in-Some.entry.now.call
    ∙ (ap (λ xs. xs ++ line_of c.in-Some.entry.now) c.loop-k.invariant
    ∙ (append_assoc (string_bytes c.args.text.now) (flat_map line_of (take c.loop-k.k c.args.journal.now.items)) (line_of c.in-Some.entry.now)
    ∙ ap (λ ys. string_bytes c.args.text.now ++ ys) (sym (flat_map-next line_of c.args.journal.now.items c.loop-k.k c.in-Some.entry.now (sym c.in-Some.ensures)))))
