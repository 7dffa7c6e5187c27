use Rattle.stamps.proofs.Bridge.{after_two}
use Rattle.stamps.proofs.ranges.RangesIterator.next.Goals as goal

pub invariant_of-self : goal.invariant_of-self
invariant_of-self c = after_two c.self.inside.edges.now c.in-len2-up.len_at_least c.self.invariant
