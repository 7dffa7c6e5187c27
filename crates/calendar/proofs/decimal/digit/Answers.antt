use Rattle.std.proofs.Common.{◌-◌, sym, ◌∙◌, arith}
use Rattle.calendar.proofs.Decimals.{digit_left, digit_last}
use Rattle.calendar.proofs.decimal.digit.Goals as goal

pub loop-left-preserved : goal.loop-left-preserved
loop-left-preserved c = (
  omega arith,
  sym (digit_left c.loop-left.left (c.loop-left.left - 1) c.loop-left.rest c.args.i (omega arith) (omega arith)) ∙ c.loop-left.invariant.1,
)

pub returns : goal.returns
returns c = (
  omega arith,
  sym (digit_last c.loop-left.left c.loop-left.rest c.args.i (omega arith)) ∙ c.loop-left.invariant.1,
)
