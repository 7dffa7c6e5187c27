use Rattle.std.proofs.Common.{◌≡◌, ◌+◌, ◌-◌, ◌≤◌, Bool, refl, ap, arith}
use Rattle.gregorian.specs.Years.{month_start}
use Rattle.gregorian.specs.Dates.{date, date_at}
use Rattle.gregorian.specs.Counting.{month_more, month_length}
use Rattle.gregorian.specs.DatesLemmas.{named, assembled}
use Rattle.gregorian.proofs.days.Day.from_parts.Goals as goal
use Rattle.gregorian.proofs.days.Day.from_parts.Goals.{After-year_start}

pub returns-then-not-matches : goal.returns-then-not-matches
returns-then-not-matches c = (
  refl,
  λ n h e.
      let p = named n c.args.year c.args.month c.args.day h e in
      grind arith,
)

pub overflow_sub-month_start : goal.overflow_sub-month_start
overflow_sub-month_start c = omega (arith, month_more c.is_leap-leap.result c.args.month (omega arith))

pub returns-then-day-month_start : goal.returns-then-day-month_start
returns-then-day-month_start c = (
  refl,
  λ n h e.
      let p = named n c.args.year c.args.month c.args.day h e in
      let a = ap (λ (x : Bool). month_start x c.args.month) c.is_leap-leap.ensures in
      let b = ap (λ (x : Bool). month_start x (c.args.month - 1)) c.is_leap-leap.ensures in
      omega (arith, p.0, a, b, month_length c.args.year c.args.month p.0.month_from),
)

made : (c : goal.After-year_start) → (c.year_start.result + c.month_start-before.result + (c.args.day - 1) ≤ 109572) × (date_at (c.year_start.result + c.month_start-before.result + (c.args.day - 1)) ≡ date c.args.year c.args.month c.args.day)
made c =
    assembled c.args.year c.args.month c.args.day c.is_leap-leap.result c.month_start.result c.month_start-before.result
    c.year_start.result c.is_leap-leap.ensures c.month_start-before.ensures c.month_start.ensures c.year_start.ensures
    (omega arith) (omega arith) (omega arith) (omega arith) (omega arith) (omega arith)

pub overflow_add-result : goal.overflow_add-result
overflow_add-result c = omega (arith, (made c).0)

pub overflow_add-result-2 : goal.overflow_add-result-2
overflow_add-result-2 c = omega (arith, (made c).0)

pub invariant_of-result : goal.invariant_of-result
invariant_of-result c = record { within = (made c).0 }

pub returns : goal.returns
returns c = (made (goal.at.returns c).After-year_start).1
