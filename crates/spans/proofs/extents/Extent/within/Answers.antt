use Rattle.std.proofs.Common.{arith}
use Rattle.std.proofs.lemmas.Bool.Decides.{nat_tests}
use Rattle.spans.proofs.Bounds.{within_stretch}
use Rattle.spans.proofs.extents.Extent.within.Goals as goal

pub returns : goal.returns
returns c r =
    within_stretch c.args.self.last c.args.p c.args.q r _ _
    (let b = c.if-start-from.branch in grind (arith, nat_tests)) (let b = c.if-end-to.branch in grind (arith, nat_tests))
