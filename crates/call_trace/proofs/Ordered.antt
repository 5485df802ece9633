-- One more line of a trace that is served.
use Rattle.std.specs.Prelude.{◌≡◌, List, [], ◌∷◌, ◌++◌, refl}
use Rattle.send_core.specs.declared.call.Entry.{Entry}
use Rattle.call_trace.specs.declared.trace.Line.{Line}
use Rattle.call_trace.specs.Ordered.{added, served, ordered}

-- a line more is served after those before it
pub served-push : (history : List Entry) (lines : List Line) (line : Line)
    → served history (lines ++ line ∷ []) ≡ served history lines ++ added (served history lines) line
unfolding served
served-push history [] line = refl
served-push history (first ∷ lines) line = served-push (history ++ added history first) lines line

pub ordered-push : (lines : List Line) (line : Line) → ordered (lines ++ line ∷ []) ≡ ordered lines ++ added (ordered lines) line
unfolding ordered
ordered-push lines line = served-push [] lines line

pub ordered-nil : ordered [] ≡ []
unfolding ordered served
ordered-nil = refl
