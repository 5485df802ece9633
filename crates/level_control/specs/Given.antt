-- What a control is given, oldest first, and what it makes of it.
use Rattle.std.specs.Prelude.{ℕ, ℤ, ◌≡◌, ◌≤◌, ◌++◌, ◌&&◌, Bool, List, [], ◌∷◌, fold, Option, Some, None, is_some, is_none}
use Rattle.gcc_units.specs.declared.shared_types.Bounds.{Bounds}
use Rattle.level_control.specs.declared.Answer.{Answer}
use Rattle.level_control.specs.declared.state.Report.{Report}
use Rattle.level_control.specs.declared.state.Probed.{Probed}
use Rattle.level_control.specs.declared.state.State.{State}
use Rattle.level_control.specs.Delays.{above, delays_after}
use Rattle.level_control.specs.Rule.{started, set_to, after_report}
use Rattle.level_control.specs.Steps.{after, answer}

-- a report, the results of probes, whether a cluster waits, and the bounds; or a setting, with its start
pub data Given : Type 0 where
  reported : Report → List Probed → Bool → Bounds → Given
  setting : Option ℕ → Bounds → Given

abbrev pub given_to : State → Given → State
given_to s (reported x results waits bounds) = after s x results waits bounds
given_to s (setting start bounds) = set_to s start bounds

-- the state after all of it
abbrev pub after_all : ℕ → List Given → State
after_all start given = fold given_to (started start) given

-- what a report is answered
abbrev pub answer_to : State → Given → List Answer
answer_to s (reported x results waits bounds) = answer s x results waits bounds ∷ []
answer_to s (setting start bounds) = []

abbrev pub answers_from : State → List Given → List Answer
answers_from s [] = []
answers_from s (g ∷ given) = answer_to s g ++ answers_from (given_to s g) given

-- all answers
abbrev pub answers : ℕ → List Given → List Answer
answers start given = answers_from (started start) given

-- A report that credited something: its delay, how far that lay above the base, whether there was a cut, and whether
-- a drain ended.
pub record Seen : Type 0 where
  pub delay : ℤ
  pub height : ℕ
  pub now : ℕ
  pub rtt : ℕ
  pub cut : Bool
  pub ended : Bool

abbrev pub seen_by : State → Report → Option ℤ → Bounds → List Seen
seen_by s x None bounds = []
seen_by s x (Some delay) bounds =
    let m = after_report s x bounds in
    record {
      delay = delay;
      height = above delay (delays_after s.delays delay x.now).base;
      now = x.now;
      rtt = x.rtt;
      cut = m.cut;
      ended = is_some s.drain && is_none m.state.drain;
    } ∷ []

abbrev pub seen_in : State → Given → List Seen
seen_in s (reported x results waits bounds) = seen_by s x x.delay bounds
seen_in s (setting start bounds) = []

abbrev pub seen_from : State → List Given → List Seen
seen_from s [] = []
seen_from s (g ∷ given) = seen_in s g ++ seen_from (given_to s g) given

-- all of them
abbrev pub seen : ℕ → List Given → List Seen
seen start given = seen_from (started start) given

-- In the order of their moments.
abbrev pub AreInOrder : List Seen → Type 0
AreInOrder xs = (front rest : List Seen) (one other : Seen) → xs ≡ front ++ one ∷ other ∷ rest → one.now ≤ other.now
