use Rattle.std.proofs.Common.{◌++◌, length, min, drop, ap, ◌∙◌, sym}
use Rattle.twcc_report.specs.Chunks.{chunk_bytes}
use Rattle.twcc_report.specs.Canonical.{chunks_for}
use Rattle.twcc_report.proofs.Spelled.{IsBehind, some_of, behind_symbols, behind_smaller, behind_bytes, all_put}
use Rattle.twcc_report.proofs.writing.push_chunks.Goals as goal

behind : (c : goal.After-rest-1) → IsBehind c.loop-rest.rest.now c.next_chunk-chunk.result c.split_at.result.1.now
behind c = record {
  some = some_of c.loop-rest.rest.now (sym c.is_empty.ensures ∙ c.loop-rest-test.true);
  symbols = c.loop-rest.invariant.1;
  chunk = c.next_chunk-chunk.ensures;
  left_is = c.split_at.ensures.back ∙ ap (λ n. drop n c.loop-rest.rest.now) (c.min.ensures ∙ ap (λ n. min n (length c.loop-rest.rest.now)) c.symbol_count.ensures);
}

pub loop-rest-smaller : goal.loop-rest-smaller
loop-rest-smaller c = behind_smaller c.loop-rest.rest.now c.next_chunk-chunk.result c.split_at.result.1.now (behind c)

pub loop-rest-preserved : goal.loop-rest-preserved
loop-rest-preserved c =
    let rest = c.loop-rest.rest.now in
    let word = c.next_chunk-chunk.result in
    let left = c.split_at.result.1.now in (
      behind_bytes rest word left c.loop-rest.bytes.items c.extend_from_slice.new.self.items c.to_be_bytes.result (behind c)
          c.in_ok-extend_from_slice.ensures.items c.to_be_bytes.ensures
          ∙ c.loop-rest.invariant.0,
      behind_symbols rest word left (behind c),
    )

pub returns : goal.returns
returns c =
    all_put c.loop-rest.rest.now c.loop-rest.bytes.items (c.args.bytes.now.items ++ chunk_bytes (chunks_for c.args.symbols.now))
    (sym c.is_empty.ensures ∙ c.loop-rest-test.false) c.loop-rest.invariant.0
