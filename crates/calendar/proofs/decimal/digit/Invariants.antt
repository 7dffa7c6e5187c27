use Rattle.std.proofs.Common.{◌≡◌, ◌-◌, ◌<◌, get_or}
use Rattle.calendar.specs.Decimals.{decimal}
use Rattle.calendar.proofs.decimal.digit.Given as goal

abbrev pub invariant-loop-left : goal.invariant-loop-left
invariant-loop-left l = (l.i < l.left) × (get_or (decimal l.left l.rest) l.i 0 ≡ get_or (decimal l.count l.n) l.i 0)

abbrev pub decreases-loop-left : goal.decreases-loop-left
decreases-loop-left l = l.left - l.i
