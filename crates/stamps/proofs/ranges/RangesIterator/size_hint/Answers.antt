use Rattle.std.proofs.Common.{◌≡◌, ◌/◌, length, refl, sym, ap, ◌∙◌, arith}
use Rattle.stamps.proofs.Bridge.{length-ranges}
use Rattle.stamps.proofs.ranges.RangesIterator.size_hint.Goals as goal

pub returns : goal.returns
returns c =
    let left : length c.self.inside.edges.now / 2 ≡ length c.args.self.now =
    sym (length-ranges c.self.inside.edges.now) ∙ ap length c.self.view_is in
    record { lower = λ _. omega (arith, left); upper = (tt, omega (arith, left)); exact = rw left refl }
