use Rattle.calendar.proofs.Decimals.{Begins}
use Rattle.calendar.proofs.decimal.number.Given as goal

abbrev pub invariant-loop-b : goal.invariant-loop-b
invariant-loop-b l = Begins l.bytes l.b-index l.n
