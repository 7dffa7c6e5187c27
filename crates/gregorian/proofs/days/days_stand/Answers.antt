use Rattle.gregorian.specs.DatesLemmas.{at_date, date_at_lem, date_one, last_day_lem, leap_day}
use Rattle.gregorian.proofs.days.days_stand.Goals as goal

pub returns : goal.returns
returns c = record { counted = at_date; stepped = date_at_lem; one_place = date_one; ended = last_day_lem; leap_day = leap_day }
