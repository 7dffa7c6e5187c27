-- A day and a week that there are not.
use Rattle.std.proofs.Common.{◌≡◌, ℕ, ◌≤◌, Ok, Err, Result, arith}
use Rattle.calendar.specs.declared.refusals.Refusal.{Refusal}
use Rattle.gregorian.specs.declared.days.Day.{Day}
use Rattle.gregorian.specs.declared.weeks.Week.{Week}
use Rattle.gregorian.specs.Totals.{total}
use Rattle.gregorian.specs.Dates.{date, date_at, last_day}
use Rattle.gregorian.specs.Weeks.{week, week_at, last_week}
use Rattle.gregorian.specs.DatesLemmas as dates
use Rattle.gregorian.specs.WeekDates as week-dates
use Rattle.figures.specs.Words.{Refuses, DayFrom, WeekFrom}

pub no_leap_day : (n : ℕ) → n ≤ last_day → date_at n ≡ date 2100 2 29 → ⊥
no_leap_day n h e = omega (arith, (dates.named n 2100 2 29 h e).0.day_to)

pub leap_day_refused : (r : Result Day Refusal) → DayFrom 2100 2 29 r → Refuses r 11
leap_day_refused (Ok s) h = no_leap_day s.number s.within h
leap_day_refused (Err e) h = h.0

pub no_week : (n : ℕ) → n ≤ last_week → week_at n ≡ week 2021 53 → ⊥
unfolding total
no_week n h e = omega (arith, (week-dates.named n 2021 53 h e).0.week_to)

pub week_refused : (r : Result Week Refusal) → WeekFrom 2021 53 r → Refuses r 11
week_refused (Ok s) h = no_week s.number s.within h
week_refused (Err e) h = h.0
