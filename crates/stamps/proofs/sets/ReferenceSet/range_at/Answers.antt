use Rattle.std.proofs.Common.{◌<◌, length, arith}
use Rattle.stamps.specs.Sets.{listing}
use Rattle.stamps.proofs.Readings.{placed}
use Rattle.stamps.proofs.sets.ReferenceSet.range_at.Goals as goal

pub overflow_sub-result : goal.overflow_sub-result
overflow_sub-result c =
    let h : c.args.i < length (listing c.args.self.now) = omega (arith, c.count.ensures.count) in
    omega (arith, (placed c.args.self.now c.args.i h).rises)

pub returns : goal.returns
returns c =
    let h : c.args.i < length (listing c.args.self.now) = omega (arith, c.count.ensures.count) in
    (h, (placed c.args.self.now c.args.i h).is)
