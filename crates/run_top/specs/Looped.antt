-- What a closed loop comes to: four lines of counts and rates.
use Rattle.std.specs.Prelude.{ℕ, List, ◌++◌, length, count_by, codes}
use Rattle.std.specs.Fmt.{decimal}
use Rattle.std.specs.List.{flat_map}
use Rattle.twcc_report.specs.declared.report.Status.{Status}
use Rattle.twcc_report.specs.Spelling.{Feedback}
use Rattle.sent_history.specs.Crediting.{account, is_received}
use Rattle.estimator.specs.Est.{estimate}
use Rattle.send_core.specs.declared.call.Entry.{Entry}
use Rattle.send_core.specs.History.{sent}
use Rattle.send_core.specs.Reports.{events}
use Rattle.send_core.specs.Estimates.{est, target}
use Rattle.link_path.specs.declared.link.LinkSettings.{LinkSettings}
use Rattle.link_path.specs.Link.{offers, held, delivered, dropped}
use Rattle.link_loop.specs.Looping.{Looping}
use Rattle.run_top.specs.Summary.{calls_line, rates_line}

abbrev pub statuses_of : Feedback → List Status
statuses_of report = report.statuses

-- how many statuses of these reports say that their packet was received
abbrev pub reported : List Feedback → ℕ
reported reports = count_by is_received (flat_map statuses_of reports)

-- what became of the packets that left
abbrev pub fates_line : ℕ → ℕ → ℕ → ℕ → List ℕ
fates_line sent delivered dropped inside =
    codes "sent " ++ decimal sent ++ codes " delivered " ++ decimal delivered
    ++ codes " dropped " ++ decimal dropped ++ codes " inside " ++ decimal inside ++ codes "\n"

abbrev pub reported_line : ℕ → ℕ → List ℕ
reported_line reported credited = codes "reported " ++ decimal reported ++ codes " credited " ++ decimal credited ++ codes "\n"

-- the lines for a history, so many packets delivered, dropped and inside the link, and these reports
unfoldable pub end_lines : List Entry → ℕ → ℕ → ℕ → List Feedback → List ℕ
end_lines history delivered dropped inside reports =
    calls_line (length history)
    ++ fates_line (length (sent history)) delivered dropped inside
    ++ reported_line (reported reports) (length (account (events history)).credited)
    ++ rates_line (target history) (estimate (est history)).delay (estimate (est history)).loss

abbrev pub loop_text : LinkSettings → Looping → List ℕ
loop_text s m = end_lines m.history (length (delivered s m.events)) (length (dropped s (offers m.events))) (length (held s m.events)) m.reports
