use Rattle.allocator.proofs.Changed.{found-changed, IsStreamSet-changed}
use Rattle.allocator.proofs.laws.changes_are_of_a_map.Goals as goal

pub returns-clause-map : goal.returns-clause-map
returns-clause-map c = λ streams set removed id differ. found-changed streams set removed id differ

pub returns-clause-set : goal.returns-clause-set
returns-clause-set c = λ streams set removed was sound differ few. IsStreamSet-changed streams set removed was sound differ few
