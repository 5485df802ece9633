-- The summary of a history: six lines of counts, bounds and rates.
use Rattle.std.specs.Prelude.{ℕ, ◌*◌, List, [], ◌++◌, length, take, drop, codes}
use Rattle.std.specs.Fmt.{decimal}
use Rattle.sent_history.specs.Crediting.{account, outstanding}
use Rattle.sent_history.specs.Balance.{expired}
use Rattle.estimator.specs.Est.{estimate}
use Rattle.send_core.specs.declared.call.Entry.{Entry}
use Rattle.send_core.specs.History.{sent}
use Rattle.send_core.specs.Levels.{rate, window}
use Rattle.send_core.specs.Reports.{events}
use Rattle.send_core.specs.Estimates.{est, target}
use Rattle.send_laws.specs.Spans.{spent_bytes, last_media, integral}
use Rattle.run_top.specs.declared.totals.Totals.{Totals}
use Rattle.run_top.specs.Totals.{totals_of}

abbrev pub calls_line : ℕ → List ℕ
calls_line entries = codes "calls " ++ decimal entries ++ codes "\n"

-- the packets that left
abbrev pub sent_line : Totals → List ℕ
sent_line t = codes "sent " ++ decimal t.packets ++ codes " " ++ decimal t.bytes ++ codes "\n"

abbrev pub kinds_line : ℕ → ℕ → ℕ → ℕ → List ℕ
kinds_line audio media probe padding =
    codes "kinds audio " ++ decimal audio ++ codes " media " ++ decimal media
    ++ codes " probe " ++ decimal probe ++ codes " padding " ++ decimal padding ++ codes "\n"

abbrev pub kinds_of : Totals → List ℕ
kinds_of t = kinds_line t.audio t.media t.probe t.padding

-- what became of them
abbrev pub balance_line : ℕ → ℕ → ℕ → List ℕ
balance_line credited outstanding expired =
    codes "credited " ++ decimal credited ++ codes " outstanding " ++ decimal outstanding ++ codes " expired " ++ decimal expired ++ codes "\n"

-- the paced media from the first entry to the last, with the probes before the last of it, and what bounds them
abbrev pub media_line : ℕ → ℕ → ℕ → ℕ → List ℕ
media_line bytes integral window last =
    codes "media " ++ decimal bytes ++ codes " integral " ++ decimal integral ++ codes " window " ++ decimal window
    ++ codes " last " ++ decimal last ++ codes "\n"

-- the rates after the last entry
abbrev pub rates_line : ℕ → ℕ → ℕ → List ℕ
rates_line target delay loss = codes "target " ++ decimal target ++ codes " delay " ++ decimal delay ++ codes " loss " ++ decimal loss ++ codes "\n"

unfoldable pub summary : List Entry → List ℕ
summary history =
    calls_line (length history)
    ++ (sent_line (totals_of (sent history)) ++ kinds_of (totals_of (sent history)))
    ++ balance_line (length (account (events history)).credited) (outstanding (events history)) (expired (events history))
    ++ media_line (spent_bytes (sent history)) (integral (take 1 history) (drop 1 history)) (rate [] * window []) (last_media (sent history))
    ++ rates_line (target history) (estimate (est history)).delay (estimate (est history)).loss
