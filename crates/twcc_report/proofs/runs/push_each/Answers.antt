use Rattle.std.proofs.Common.{◌≡◌, ◌+◌, ◌++◌, [], ◌∷◌, map, ap, sym, ◌∙◌, arith, append_assoc}
use Rattle.std.proofs.lemmas.List.FromFn.{map-range_with_len_more}
use Rattle.std.specs.List.{range_with_len}
use Rattle.twcc_report.specs.Chunks.{symbol_at}
use Rattle.twcc_report.specs.Runs.{all_symbols_of}
use Rattle.twcc_report.proofs.Gathering.{taken}
use Rattle.twcc_report.proofs.InRuns.{one_more}
use Rattle.twcc_report.proofs.runs.push_each.Goals as goal

pub loop-k-preserved : goal.loop-k-preserved
loop-k-preserved c =
    let old = all_symbols_of c.args.runs.now.items in
    let f = symbol_at c.args.word in
    let next : 0 + c.loop-k.k ≡ c.loop-k.k = omega arith in
    ap all_symbols_of c.in_ok-push.ensures.items
    ∙ one_more c.loop-k.runs.items c.symbol_at.result
    ∙ ap (λ s. all_symbols_of c.loop-k.runs.items ++ s ∷ []) c.symbol_at.ensures.value
    ∙ ap (λ xs. xs ++ f c.loop-k.k ∷ []) c.loop-k.invariant
    ∙ append_assoc old (map f (range_with_len 0 c.loop-k.k)) (f c.loop-k.k ∷ [])
    ∙ ap (λ xs. old ++ xs) (sym (map-range_with_len_more f 0 c.loop-k.k c.loop-k.k next))

pub returns : goal.returns
returns c =
    c.loop-k.invariant
    ∙ ap (λ xs. all_symbols_of c.args.runs.now.items ++ xs) (taken c.args.word c.loop-k.k c.args.left (omega arith))
