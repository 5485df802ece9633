use Rattle.std.proofs.Common.{ℕ, ◌++◌, List, take, ◌∙◌, ap, arith, append_assoc}
use Rattle.std.proofs.lemmas.List.{take-append-drop}
use Rattle.run_io.proofs.Growth.{Grew-then}
use Rattle.run_top.proofs.writing.write_all.Goals as goal

pub loop-rest-preserved : goal.loop-rest-preserved
loop-rest-preserved g c =
    let begun : List ℕ = c.loop-rest.invariant.0.0 in
    let n : ℕ = c.in_ok-count.count in (
      (
        begun ++ take n c.loop-rest.rest.now,
        append_assoc begun (take n c.loop-rest.rest.now) c.split_at.result.1.now
            ∙ (ap (λ ys. begun ++ (take n c.loop-rest.rest.now ++ ys)) c.split_at.ensures.back
            ∙ (ap (λ ys. begun ++ ys) (take-append-drop n c.loop-rest.rest.now) ∙ c.loop-rest.invariant.0.1)),
        Grew-then (g.K.Sink.written c.args.sink.now) (g.K.Sink.written c.loop-rest.sink) (g.K.Sink.written c.write.new.self) begun (take n c.loop-rest.rest.now)
            c.loop-rest.invariant.0.2 c.in_ok-count.ensures.bytes,
      ),
      omega (arith, c.loop-rest.invariant.1, c.in_ok-count.ensures.cause.later),
    )
