use Rattle.std.proofs.Common.{sym, subst, ◌∙◌}
use Rattle.twcc_report.proofs.Chosen.{AreSymbols}
use Rattle.twcc_report.proofs.Spelled.{statuses_symbols}
use Rattle.twcc_report.proofs.writing.write_body.Goals as goal

pub push_chunks-requires : goal.push_chunks-requires
push_chunks-requires c = subst AreSymbols (sym (c.deref.ensures.value ∙ c.in_ok-symbols.ensures)) (statuses_symbols c.as_slice-statuses.result.now)
