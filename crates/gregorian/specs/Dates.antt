-- The calendar of days: the date at each place. Place 0 is Monday, 1 January 1900, and each
-- place after it has the date that follows.
use Rattle.std.specs.Prelude.{◌≡◌, ℕ, zero, suc, ◌+◌, ◌-◌, ◌≤◌, cond, List, ◌++◌, codes, nat_lt}
use Rattle.calendar.specs.Decimals.{decimal}
use Rattle.gregorian.specs.Years.{leap, month_days, month_start, new_year}

pub record Date : Type 0 where
  pub year : ℕ
  pub month : ℕ
  pub day : ℕ

abbrev pub date : ℕ → ℕ → ℕ → Date
date y m d = record { year = y; month = m; day = d }

-- the date of the day after
unfoldable pub next : Date → Date
next t =
    cond (nat_lt t.day (month_days t.year t.month)) (date t.year t.month (t.day + 1))
    (cond (nat_lt t.month 12) (date t.year (t.month + 1) 1) (date (t.year + 1) 1 1))

unfoldable pub date_at : ℕ → Date
date_at zero = date 1900 1 1
date_at (suc n) = next (date_at n)

-- the place of 31 December 2199
abbrev pub last_day : ℕ
last_day = 109572

-- as 2026-01-31
abbrev pub date_text : Date → List ℕ
date_text t = decimal 4 t.year ++ (codes "-" ++ (decimal 2 t.month ++ (codes "-" ++ decimal 2 t.day)))

abbrev pub date_width : ℕ
date_width = 10

-- a date of 1900 or later that some day has
pub record Real (t : Date) : Type 0 where
  pub from : 1900 ≤ t.year
  pub month_from : 1 ≤ t.month
  pub month_to : t.month ≤ 12
  pub day_from : 1 ≤ t.day
  pub day_to : t.day ≤ month_days t.year t.month

-- the days of the years before, of the months before in the year, and before in the month
abbrev pub place_of : Date → ℕ
place_of t = new_year t.year + month_start (leap t.year) (t.month - 1) + (t.day - 1)

-- stepping comes to each real date, at the place that counting gives it,
abbrev pub Counted : Type 0
Counted = (t : Date) → Real t → date_at (place_of t) ≡ t

-- to no other date,
abbrev pub Stepped : Type 0
Stepped = (n : ℕ) → Real (date_at n) × (place_of (date_at n) ≡ n)

-- and to no date twice
abbrev pub OnePlace : Type 0
OnePlace = (m n : ℕ) → date_at m ≡ date_at n → m ≡ n

abbrev pub Ended : Type 0
Ended = date_at last_day ≡ date 2199 12 31

-- 2000 is a leap year
abbrev pub LeapDay : Type 0
LeapDay = date_at 36583 ≡ date 2000 2 29
