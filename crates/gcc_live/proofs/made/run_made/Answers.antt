use Rattle.std.proofs.Common.{ℕ, ◌+◌, ◌%◌, ◌^◌, ◌++◌, sym, ◌∙◌, ap}
use Rattle.std.specs.String.{string_bytes}
use Rattle.call_trace.specs.Making.{made}
use Rattle.call_trace.specs.Ordered.{ordered}
use Rattle.run_top.proofs.Serving.{flat_map-range}
use Rattle.gcc_live.specs.Summing.{sum_line, line_at}
use Rattle.gcc_live.proofs.made.run_made.Goals as goal

pub loop-k-preserved : goal.loop-k-preserved
loop-k-preserved c =
    let calls : ℕ = c.args.calls in
    let seed : ℕ = c.args.seed in
    let k : ℕ = c.loop-k.k in
    c.in_ok-sender.ensures
    ∙ (ap (λ s. string_bytes c.loop-k.text ++ sum_line calls (ordered (made s calls 1).lines)) (ap (λ n. (seed + n) % 2 ^ 64) c.from.ensures)
    ∙ (ap (λ t. t ++ line_at seed calls k) c.loop-k.invariant
    ∙ sym (flat_map-range (line_at seed calls) k)))
