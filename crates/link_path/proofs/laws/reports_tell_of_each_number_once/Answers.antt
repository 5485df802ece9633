use Rattle.std.proofs.Common.{◌*◌}
use Rattle.link_path.specs.Division.{reference_of}
use Rattle.link_path.proofs.Runs.{statuses-length}
use Rattle.link_path.proofs.Heard.{all-numbers}
use Rattle.link_path.proofs.Lists.{all-times, all-counted, all-based}
use Rattle.link_path.proofs.laws.reports_tell_of_each_number_once.Goals as goal

pub returns-clause-runs : goal.returns-clause-runs
returns-clause-runs c numbers = all-numbers numbers

pub returns-clause-statuses : goal.returns-clause-statuses
returns-clause-statuses c told before run = statuses-length (256 * reference_of told before run) run

pub returns-clause-times : goal.returns-clause-times
returns-clause-times c steps rise times = all-times steps rise times

pub returns-clause-count : goal.returns-clause-count
returns-clause-count c steps rise times = all-counted steps rise times

pub returns-clause-bases : goal.returns-clause-bases
returns-clause-bases c steps rise times = all-based steps rise times
