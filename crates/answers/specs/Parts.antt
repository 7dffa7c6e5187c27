-- What the numbers that a script gives name in each calendar.
use Rattle.std.specs.Prelude.{◌≡◌, ℕ}
use Rattle.gregorian.specs.Dates.{date, date_at}
use Rattle.gregorian.specs.Weeks.{week, week_at}
use Rattle.language.specs.declared.calendars.Parts.{Parts}
use Rattle.language.specs.declared.calendars.Parts.TheVariants.{One, Two, Three}

-- how many numbers there are
abbrev pub count_of : Parts → ℕ
count_of (One a) = 1
count_of (Two a b) = 2
count_of (Three a b c) = 3

-- an hour is named by its count
abbrev pub names_hour : Parts → ℕ → Type 0
names_hour (One a) n = n ≡ a
names_hour (Two a b) n = ⊥
names_hour (Three a b c) n = ⊥

-- a day by its year, month and day
abbrev pub names_day : Parts → ℕ → Type 0
names_day (One a) n = ⊥
names_day (Two a b) n = ⊥
names_day (Three y m d) n = date_at n ≡ date y m d

-- a week by its year and number
abbrev pub names_week : Parts → ℕ → Type 0
names_week (One a) n = ⊥
names_week (Two y w) n = week_at n ≡ week y w
names_week (Three a b c) n = ⊥
