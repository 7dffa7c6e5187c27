use Rattle.std.proofs.Common.{◌||◌}
use Rattle.stamps.proofs.sets.ReferenceSet.or.Given as goal

abbrev pub ghost-combine : goal.ghost-combine
ghost-combine a = λ x y. x || y
