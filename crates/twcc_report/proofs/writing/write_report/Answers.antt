use Rattle.std.proofs.Common.{◌≡◌, sym, ap, subst, ◌∙◌, arith}
use Rattle.twcc_report.specs.Spelling.{Spells, view}
use Rattle.twcc_report.specs.Reading.{read_of}
use Rattle.twcc_report.specs.Canonical.{canonical}
use Rattle.twcc_report.proofs.Spelled.{length_from, canonical_spells, canonical_is_read}
use Rattle.twcc_report.proofs.writing.write_report.Goals as goal

pub from_vec-requires : goal.from_vec-requires
from_vec-requires c = omega (arith, length_from (view c.args.report.now) c.in_ok-write.field-0.items c.requires.few c.in_ok-write.ensures.canonical)

pub returns-clause-spells : goal.returns-clause-spells
returns-clause-spells c =
    let f = view c.args.report.now in
    let e : c.from_vec.result.items ≡ canonical f = ap (λ l. l.items) c.from_vec.ensures ∙ c.in_ok-write.ensures.canonical in
    subst (Spells f) (sym e) (canonical_spells f c.requires.few)

pub returns-clause-read : goal.returns-clause-read
returns-clause-read c =
    let f = view c.args.report.now in
    let e : c.from_vec.result.items ≡ canonical f = ap (λ l. l.items) c.from_vec.ensures ∙ c.in_ok-write.ensures.canonical in
    ap read_of e ∙ canonical_is_read f c.in_ok-write.ensures.fits
