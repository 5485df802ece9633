use Rattle.std.proofs.Common.{get_or, [], ◌∷◌, ◌++◌, w16, w32, ap, ◌∙◌, arith}
use Rattle.std.specs.Int.{to_be_bytes, cast_unsigned}
use Rattle.std.proofs.lemmas.Int.{ints, of_z-to_z}
use Rattle.twcc_report.specs.Spelling.{low24}
use Rattle.twcc_report.proofs.Spelled.{then}
use Rattle.twcc_report.proofs.writing.push_header.Goals as goal

pub returns : goal.returns
returns c =
    let old = c.args.bytes.now.items in
    then old _ _ _ _ _
    (then old _ _ _ _ _
    (then old _ _ _ _ _
    (then old _ _ _ _ _
    (then old _ _ _ _ _
    (then old _ _ _ _ (to_be_bytes w16 c.args.words) c.in_ok-extend_from_slice.ensures.items c.in_ok-extend_from_slice-2.ensures.items c.to_be_bytes-2.ensures)
    c.in_ok-extend_from_slice-3.ensures.items c.to_be_bytes-3.ensures)
    c.in_ok-extend_from_slice-4.ensures.items c.to_be_bytes-4.ensures)
    c.in_ok-extend_from_slice-5.ensures.items c.to_be_bytes-5.ensures)
    c.in_ok-extend_from_slice-6.ensures.items (c.to_be_bytes-6.ensures ∙ ap (to_be_bytes w16) c.len.ensures))
    c.in_ok-extend_from_slice-7.ensures.items
    (ap (λ xs. get_or xs 1 0 ∷ get_or xs 2 0 ∷ get_or xs 3 0 ∷ c.args.report.now.feedback ∷ []) c.to_be_bytes.ensures
    ∙ ap (λ n. low24 n ++ c.args.report.now.feedback ∷ []) (of_z-to_z w32 (cast_unsigned w32 c.args.report.now.reference) (omega (arith, ints))))
