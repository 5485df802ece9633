-- The rates that a reply tells, if it tells some.
use Rattle.std.specs.Prelude.{ℕ, Option, None, Some}
use Rattle.send_core.specs.declared.call.Rates.{Rates}
use Rattle.send_core.specs.declared.call.Reply.{Reply}
use Rattle.send_core.specs.declared.call.Reply.TheVariants.{Accepted, Paced, Credited, Configured, Refused}

abbrev pub rates_in : Reply → Option Rates
rates_in (Accepted moment index) = None
rates_in (Paced moment records) = None
rates_in (Credited moment judged signal m acked rates shares) = Some rates
rates_in (Configured moment rates shares) = Some rates
rates_in (Refused moment cause) = None

-- the estimates of delay control and of loss control after a reply, by those before it
abbrev pub told_after : ℕ × ℕ → Option Rates → ℕ × ℕ
told_after before None = before
told_after before (Some rates) = (rates.delay, rates.loss)
