use Rattle.std.proofs.Common.{refl, arith}
use Rattle.stamps.proofs.Ends.{zeros}
use Rattle.stamps.proofs.sets.ReferenceSet.empty.Goals as goal

pub invariant_of-result : goal.invariant_of-result
invariant_of-result c = record {
  long = refl;
  fits = omega arith;
  even = refl;
  rises = λ i j l m. absurd (omega arith);
  rest = λ k l. zeros 32 k;
}
