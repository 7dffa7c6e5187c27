use Rattle.std.proofs.Common.{◌+◌, replicate, refl, arith}
use Rattle.stamps.proofs.Readings.{pair_rises, pair_rest}
use Rattle.stamps.proofs.sets.ReferenceSet.range.Goals as goal

pub invariant_of-result : goal.invariant_of-result
invariant_of-result c =
    let low = c.args.low in
    let past = c.min-high.result + 1 in
    record {
      long = refl;
      fits = omega arith;
      even = refl;
      rises = pair_rises low past (replicate 30 0) (omega arith);
      rest = pair_rest low past 30;
    }
