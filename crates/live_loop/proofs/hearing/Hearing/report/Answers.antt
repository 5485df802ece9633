use Rattle.std.proofs.Common.{sym, subst, All}
use Rattle.live_loop.specs.Hearings.{HasSpelling}
use Rattle.live_loop.proofs.Numbers.{have-spellings}
use Rattle.live_loop.proofs.hearing.Hearing.report.Goals as goal

pub send_all-requires : goal.send_all-requires
send_all-requires c =
    subst (All HasSpelling) (sym c.as_slice.ensures.items) (have-spellings c.in_ok-reports.reports.items c.in_ok-reports.ensures.writable)
