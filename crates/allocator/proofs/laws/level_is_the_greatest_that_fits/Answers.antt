use Rattle.gcc_units.specs.declared.limits.TheConstants.{GREATEST_RATE}
use Rattle.allocator.proofs.Greatest.{is_greatest, greatest_is_one, none_passes}
use Rattle.allocator.specs.Shares.{fits}
use Rattle.allocator.proofs.laws.level_is_the_greatest_that_fits.Goals as goal

pub returns-clause-level : goal.returns-clause-level
returns-clause-level c = λ total streams level h. is_greatest (fits total streams) GREATEST_RATE level h

pub returns-clause-one : goal.returns-clause-one
returns-clause-one c = λ test bound m n h k. greatest_is_one test bound m n h k

pub returns-clause-none : goal.returns-clause-none
returns-clause-none c = λ total streams level h within. none_passes (fits total streams) GREATEST_RATE level h within
