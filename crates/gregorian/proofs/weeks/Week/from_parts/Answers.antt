use Rattle.std.proofs.Common.{◌≡◌, ◌+◌, ◌-◌, ◌≤◌, refl, arith}
use Rattle.gregorian.specs.Weeks.{week, week_at}
use Rattle.gregorian.specs.WeekDates.{named, week_more, assembled}
use Rattle.gregorian.proofs.weeks.Week.from_parts.Goals as goal
use Rattle.gregorian.proofs.weeks.Week.from_parts.Goals.{Else-number-week_start}

pub returns-then-not-matches : goal.returns-then-not-matches
returns-then-not-matches c = (
  refl,
  λ n h e.
      let p = named n c.args.year c.args.number h e in
      grind arith,
)

pub overflow_sub-week_start : goal.overflow_sub-week_start
overflow_sub-week_start c = omega (arith, week_more c.args.year (omega arith))

pub returns-then-number-week_start : goal.returns-then-number-week_start
returns-then-number-week_start c = (
  refl,
  λ n h e.
      let p = named n c.args.year c.args.number h e in
      omega (arith, p.0, week_more c.args.year p.0.from),
)

made : (c : goal.Else-number-week_start) → (c.week_start-before.result + (c.args.number - 1) ≤ 15652) × (week_at (c.week_start-before.result + (c.args.number - 1)) ≡ week c.args.year c.args.number)
made c =
    assembled c.args.year c.args.number c.week_start-before.result c.week_start.result c.week_start-before.ensures
    c.week_start.ensures (omega arith) (omega arith) (omega arith) (omega arith)

pub invariant_of-result : goal.invariant_of-result
invariant_of-result c = record { within = omega (arith, (made c).0) }

pub returns : goal.returns
returns c = (made (goal.at.returns c).Else-number-week_start).1
