-- Histories whose replies credit each packet at most once, and texts that print such a history.
use Rattle.std.specs.Prelude.{◌≡◌, ◌≢◌, ℕ, ◌+◌, List, length, AllPairs}
use Rattle.sent_history.specs.Crediting.{outstanding}
use Rattle.sent_history.specs.Balance.{expired}
use Rattle.send_core.specs.declared.call.Entry.{Entry}
use Rattle.send_core.specs.History.{sent}
use Rattle.send_core.specs.Reply.{IsLegal}
use Rattle.send_core.specs.Reports.{events}
use Rattle.send_laws.specs.Credits.{credited_numbers}
use Rattle.call_trace.specs.Merge.{Merges}
use Rattle.call_trace.specs.Plain.{Plain}
use Rattle.reply_text.specs.declared.seen.Seen.{Seen}
use Rattle.reply_text.specs.Text.{text}

pub record HasExactCredits (history : List Entry) : Type 0 where
  -- no number stands twice among those that the replies list as credited
  pub once : AllPairs (λ (m n : ℕ). m ≢ n) (credited_numbers history)
  -- each packet that was sent is credited, outstanding or expired
  pub balance : length (sent history) ≡ length (credited_numbers history) + outstanding (events history) + expired (events history)

-- the bytes are the printed history of a legal history that serves the trace's calls, and its credits are exact
pub record PrintsExactCredits (trace : Plain) (bytes : List ℕ) : Type 0 where
  pub history : List Entry
  pub glances : List Seen
  pub legal : IsLegal history
  pub merges : Merges trace.lines history
  pub spelled : bytes ≡ text history glances
  pub credits : HasExactCredits history
