-- What the definitions come to on numbers that can be checked by hand. A–B is the closed range of
-- the places from A to B, and A+B the point that stands at A up to there and at B from there on, and
-- between them moves with the reference place.
use Rattle.std.specs.Prelude.{◌≡◌, ℕ, ◌≤◌, min, ◌||◌, [], ◌∷◌, length, Result, ◌≢◌}
use Rattle.std.proofs.Common.{lit≤}
use Rattle.calendar.specs.declared.hours.Hour.{Hour}
use Rattle.calendar.specs.declared.refusals.Refusal.{Refusal}
use Rattle.calendar.specs.Hours.{last_hour}
use Rattle.gregorian.specs.declared.days.Day.{Day}
use Rattle.gregorian.specs.declared.weeks.Week.{Week}
use Rattle.gregorian.specs.Dates.{date, date_at, last_day}
use Rattle.gregorian.specs.Weeks.{week, week_at, last_week}
use Rattle.stamps.specs.declared.sets.ReferenceSet.{ReferenceSet}
use Rattle.stamps.specs.Ranges.{range, member}
use Rattle.stamps.specs.Sets.{listing, has}
use Rattle.ongoing.specs.declared.points.Point.{Point}
use Rattle.ongoing.specs.Points.{place_at, starts, stops}
use Rattle.figures.specs.Words.{hours, before, Lists, evens, besides_evens, odds, Gives, Refuses, Complement, DayFrom, WeekFrom}

pub record WorkedFigures : Type 0 where
  -- at 5 the point 10+20 still stands at 10
  pub stands_before : place_at last_hour (hours 10 20 (lit≤ tt)) 5 ≡ 10
  -- at 15 it is 15
  pub moves_inside : place_at last_hour (hours 10 20 (lit≤ tt)) 15 ≡ 15
  -- at 25 it stands at 20
  pub stands_after : place_at last_hour (hours 10 20 (lit≤ tt)) 25 ≡ 20
  -- 10+15 is the lesser, of 10+20 and 12+15
  pub lesser : (m : Point Hour) → starts m ≡ min (starts (hours 10 20 (lit≤ tt))) (starts (hours 12 15 (lit≤ tt)))
      → stops m ≡ min (stops (hours 10 20 (lit≤ tt))) (stops (hours 12 15 (lit≤ tt))) → (starts m ≡ 10) × (stops m ≡ 15)
  -- 10+20 is before 12+30 at 0–11 and at 21–999999, and nowhere else
  pub before_at_two : Lists (range 0 11 ∷ range 21 999999 ∷ []) (before (hours 10 20 (lit≤ tt)) (hours 12 30 (lit≤ tt)))
  -- 10+20 is never before 5+20
  pub never_before : Lists [] (before (hours 10 20 (lit≤ tt)) (hours 5 20 (lit≤ tt)))
  -- a set of the places of 3–5 or of 6–9 has the one range 3–9
  pub touching : (s : ReferenceSet) → ((p : ℕ) → has s p ≡ member (range 3 5 ∷ []) p || member (range 6 9 ∷ []) p) → listing s ≡ range 3 9 ∷ []
  -- there are sets of 0, 2, .., 30
  pub some_evens : (a : ReferenceSet) × (listing a ≡ evens)
  -- 1, 3, .., 29 and 31–999999 are sixteen ranges,
  pub sixteen : length besides_evens ≡ 16
  -- and the complement of such a set has just these
  pub complement_fits : (a : ReferenceSet) (r : Result ReferenceSet Refusal) → listing a ≡ evens → Complement a r → Gives r besides_evens
  -- there are sets of 1, 3, .., 31
  pub some_odds : (a : ReferenceSet) × (listing a ≡ odds)
  -- the complement of such a set would take more than sixteen ranges: refusal 16
  pub complement_refused : (a : ReferenceSet) (r : Result ReferenceSet Refusal) → listing a ≡ odds → Complement a r → Refuses r 16
  -- 29 February 2000 is the day at place 36583
  pub leap_day : date_at 36583 ≡ date 2000 2 29
  -- 2100 has no 29 February,
  pub no_leap_day : (n : ℕ) → n ≤ last_day → date_at n ≢ date 2100 2 29
  -- and whoever asks for it is answered by refusal 11
  pub leap_day_refused : (r : Result Day Refusal) → DayFrom 2100 2 29 r → Refuses r 11
  -- week 53 of 2020 is at place 6313
  pub long_year : week_at 6313 ≡ week 2020 53
  -- week 1 of 2021 follows it
  pub next_year : week_at 6314 ≡ week 2021 1
  -- 2021 has no week 53,
  pub no_week : (n : ℕ) → n ≤ last_week → week_at n ≢ week 2021 53
  -- and whoever asks for it is answered by refusal 11
  pub week_refused : (r : Result Week Refusal) → WeekFrom 2021 53 r → Refuses r 11
