use Rattle.stamps.proofs.Swept.{Good}
use Rattle.stamps.proofs.sweep.combine.Given as goal

abbrev pub invariant-loop-turn : goal.invariant-loop-turn
invariant-loop-turn g l = Good g.op l.a l.b l.turn-iterator.first.now l.turn-iterator.second.now l.edges l.used
