use Rattle.std.proofs.Common.{arith}
use Rattle.resending.proofs.Few.{all_few, short_history}
use Rattle.resending.proofs.laws.entries_are_few.Goals as goal

pub returns-clause-legal : goal.returns-clause-legal
returns-clause-legal c = λ s lines repeats differ small few. (all_few s lines (record { few = repeats; differ = differ; small = small }) (omega (arith, few))).legal

pub returns-clause-few : goal.returns-clause-few
returns-clause-few c = λ s lines repeats differ small few. short_history s lines (record { few = repeats; differ = differ; small = small }) (omega (arith, few))
