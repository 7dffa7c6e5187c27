use Rattle.std.proofs.Common.{◌&&◌, not}
use Rattle.stamps.proofs.sets.ReferenceSet.without.Given as goal

abbrev pub ghost-combine : goal.ghost-combine
ghost-combine a = λ x y. x && not y
