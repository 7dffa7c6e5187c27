-- The calendar of weeks of ISO 8601: the week at each place. Place 0 is the first week of 1900.
use Rattle.std.specs.Prelude.{◌≡◌, ℕ, zero, suc, ◌+◌, ◌-◌, ◌*◌, ◌%◌, ◌≤◌, cond, ◌&&◌, ◌||◌, List, ◌++◌, codes, ◌==◌, nat_lt}
use Rattle.calendar.specs.Decimals.{decimal}
use Rattle.gregorian.specs.Totals.{total}
use Rattle.gregorian.specs.Years.{leap, new_year}
use Rattle.gregorian.specs.Dates.{date_at}

pub record WeekDate : Type 0 where
  pub year : ℕ
  pub week : ℕ

abbrev pub week : ℕ → ℕ → WeekDate
week y w = record { year = y; week = w }

-- the weekday of the day at a place: 0 is Monday, as the day at place 0 is
abbrev pub weekday : ℕ → ℕ
weekday n = n % 7

-- a year that begins on a Thursday has 53 weeks, and so has a leap year that begins on a Wednesday; any other has 52
abbrev pub weeks : ℕ → ℕ
weeks y = cond (weekday (new_year y) == 3 || (leap y && weekday (new_year y) == 2)) 53 52

-- the week after
unfoldable pub next_week : WeekDate → WeekDate
next_week t = cond (nat_lt t.week (weeks t.year)) (week t.year (t.week + 1)) (week (t.year + 1) 1)

unfoldable pub week_at : ℕ → WeekDate
week_at zero = week 1900 1
week_at (suc n) = next_week (week_at n)

-- the place of the last week of 2199
abbrev pub last_week : ℕ
last_week = 15652

-- as 2020-W53
abbrev pub week_text : WeekDate → List ℕ
week_text t = decimal 4 t.year ++ (codes "-W" ++ decimal 2 t.week)

abbrev pub week_width : ℕ
week_width = 8

-- the weeks of the first n years from 1900 on
abbrev pub week_start : ℕ → ℕ
week_start n = total (λ k. weeks (1900 + k)) n

-- a week of 1900 or later that there is
pub record Real (t : WeekDate) : Type 0 where
  pub from : 1900 ≤ t.year
  pub week_from : 1 ≤ t.week
  pub week_to : t.week ≤ weeks t.year

-- the weeks of the years before, and before in the year
abbrev pub place_of : WeekDate → ℕ
place_of t = week_start (t.year - 1900) + (t.week - 1)

-- stepping comes to each real week, at the place that counting gives it,
abbrev pub Counted : Type 0
Counted = (t : WeekDate) → Real t → week_at (place_of t) ≡ t

-- to no other,
abbrev pub Stepped : Type 0
Stepped = (n : ℕ) → Real (week_at n) × (place_of (week_at n) ≡ n)

-- and to none twice
abbrev pub OnePlace : Type 0
OnePlace = (m n : ℕ) → week_at m ≡ week_at n → m ≡ n

-- the week at place n has the days at places 7 n to 7 n + 6, and the year of the fourth of them
abbrev pub Thursdays : Type 0
Thursdays = (n : ℕ) → (week_at n).year ≡ (date_at (7 * n + 3)).year

abbrev pub Ended : Type 0
Ended = week_at last_week ≡ week 2199 52

-- 2020 has 53 weeks
abbrev pub LongYear : Type 0
LongYear = (week_at 6313 ≡ week 2020 53) × (week_at 6314 ≡ week 2021 1)
