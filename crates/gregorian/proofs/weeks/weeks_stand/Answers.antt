use Rattle.gregorian.specs.WeekDates.{at_week, week_at_lem, week_one, thursdays, last_week_lem, long_year}
use Rattle.gregorian.proofs.weeks.weeks_stand.Goals as goal

pub returns : goal.returns
returns c = record { counted = at_week; stepped = week_at_lem; one_place = week_one; thursdays = thursdays; ended = last_week_lem; long_year = long_year }
