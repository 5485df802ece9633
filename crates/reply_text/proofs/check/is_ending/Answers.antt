use Rattle.std.proofs.Common.{◌≡◌, List, [], ◌++◌, true, false, refl, sym, ◌∙◌, ap}
use Rattle.std.proofs.lemmas.Bool.Decides.{Decides-eqb}
use Rattle.std.proofs.lemmas.Slice.Eq.{slice_eq-Decides}
use Rattle.reply_text.specs.Text.{glance_lines, tail_line}
use Rattle.send_core.specs.declared.call.Entry.{Entry}
use Rattle.call_trace.specs.Fields.{lines_of}
use Rattle.reply_text.specs.Legal.{AreGlancesOf}
use Rattle.reply_text.specs.Looking.{glances_in}
use Rattle.reply_text.proofs.Endings.{no_ending, ending_is}
use Rattle.reply_text.proofs.check.is_ending.Goals as goal

pub returns-then-not-are_glances : goal.returns-then-not-are_glances
returns-then-not-are_glances c =
    let h = c.args.served.now.sender in
    let glances = c.as_slice-glances.result.now in
    let is : glances ≡ glances_in (lines_of c.args.text.now).whole = c.as_slice-glances.ensures.items ∙ c.in_ok-read.ensures in
    let none : ¬ AreGlancesOf h c.args.lines.now c.args.actors glances = λ t. let wrong : false ≡ true = c.if-not-are_glances.ensures.1 t in absurd cc in (
      λ wrong. absurd (let w : false ≡ true = wrong in cc),
      λ e. absurd (no_ending h c.args.lines.now c.args.actors c.args.served.now.targets.items c.requires.actors c.journal-journal.ensures.legal.short c.requires.targets c.args.text.now glances is none e),
    )

pub returns : goal.returns
returns c =
    let h = c.args.served.now.sender in
    let glances = c.as_slice-glances.result.now in
    let is : glances ≡ glances_in (lines_of c.args.text.now).whole = c.as_slice-glances.ensures.items ∙ c.in_ok-read.ensures in
    let seen : AreGlancesOf h c.args.lines.now c.args.actors glances = c.if-not-are_glances.ensures.0 refl in
    let printed : c.as_bytes.result.now ≡ glance_lines [] glances ++ tail_line h
    = c.as_bytes.ensures.value ∙ (c.in_ok-expected.ensures ∙ ap (λ (x : List Entry). glance_lines [] glances ++ tail_line x) c.journal-journal.ensures.entries) in
    let same = slice_eq-Decides Decides-eqb c.as_bytes.result.now c.args.text.now c.eq.result c.eq.ensures in (
      λ equal. (glances, seen, sym (same.0 equal) ∙ printed),
      λ e. same.1 (printed ∙ ending_is h c.args.lines.now c.args.actors c.args.served.now.targets.items c.requires.actors c.journal-journal.ensures.legal.short c.requires.targets c.args.text.now glances is e),
    )
