use Rattle.std.proofs.Common.{sym, ◌∙◌, arith}
use Rattle.calendar.proofs.Parts.{part_refused}
use Rattle.calendar.proofs.hours.HourPrintable.read.Goals as goal

pub returns-in_err-count : goal.returns-in_err-count
returns-in_err-count c =
    part_refused 6 c.args.bytes.now c.number.result _ c.from_residual.result _ _ c.if-bytes-ne-WIDTH.false
    (sym c.ok_or.ensures.value ∙ c.in_err-count.was) c.number.ensures c.from_residual.ensures.1
    (λ none n h e. none n (omega arith) (omega arith, e))
