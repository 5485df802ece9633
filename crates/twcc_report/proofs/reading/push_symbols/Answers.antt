use Rattle.std.proofs.Common.{◌≡◌, ◌+◌, ◌-◌, [], ◌∷◌, ◌++◌, length, map, ap, sym, ◌∙◌, arith, append_assoc, length-append}
use Rattle.std.proofs.lemmas.List.FromFn.{length-map-range_with_len, map-range_with_len_more}
use Rattle.std.specs.List.{range_with_len}
use Rattle.twcc_report.specs.Chunks.{symbol_at}
use Rattle.twcc_report.proofs.Gathering.{taken}
use Rattle.twcc_report.proofs.reading.push_symbols.Goals as goal

pub push_reserved-requires : goal.push_reserved-requires
push_reserved-requires c =
    let old = c.args.symbols.now.items in
    let more = map (symbol_at c.args.word) (range_with_len 0 c.loop-k.k) in
    omega (arith, ap length c.loop-k.invariant.0, length-append old more, length-map-range_with_len (symbol_at c.args.word) 0 c.loop-k.k)

pub loop-k-preserved : goal.loop-k-preserved
loop-k-preserved c =
    let old = c.args.symbols.now.items in
    let f = symbol_at c.args.word in
    let next : 0 + c.loop-k.k ≡ c.loop-k.k = omega arith in (
      c.push_reserved.ensures.items ∙ ap (λ s. c.loop-k.symbols.items ++ s ∷ []) c.symbol_at.ensures.value
          ∙ ap (λ xs. xs ++ f c.loop-k.k ∷ []) c.loop-k.invariant.0
          ∙ append_assoc old (map f (range_with_len 0 c.loop-k.k)) (f c.loop-k.k ∷ [])
          ∙ ap (λ xs. old ++ xs) (sym (map-range_with_len_more f 0 c.loop-k.k c.loop-k.k next)),
      c.push_reserved.ensures.capacity ∙ c.loop-k.invariant.1,
    )

pub returns-clause-items : goal.returns-clause-items
returns-clause-items c =
    c.loop-k.invariant.0
    ∙ ap (λ xs. c.args.symbols.now.items ++ xs) (taken c.args.word c.loop-k.k (c.args.count - length c.args.symbols.now.items) (omega arith))
