-- How many of the lines are an actor's own.
use Rattle.std.specs.Prelude.{ℕ, ◌==◌, List, count_by}
use Rattle.call_trace.specs.declared.trace.Line.{Line}

abbrev pub own_lines : ℕ → List Line → ℕ
own_lines actor lines = count_by (λ (line : Line). line.actor == actor) lines
