-- The years and months of the Gregorian calendar.
use Rattle.std.specs.Prelude.{ℕ, ◌+◌, ◌-◌, ◌%◌, Bool, cond, not, ◌&&◌, ◌||◌, List, [], ◌∷◌, ◌==◌, slice_index}
use Rattle.gregorian.specs.Totals.{total}

abbrev pub divides : ℕ → ℕ → Bool
divides k y = y % k == 0

-- a leap year: every fourth, but of those that begin a century only every fourth
abbrev pub leap : ℕ → Bool
leap y = divides 4 y && (not (divides 100 y) || divides 400 y)

abbrev pub year_days : ℕ → ℕ
year_days y = cond (leap y) 366 365

-- the lengths of the months, January first
abbrev pub months : Bool → List ℕ
months l = 31 ∷ cond l 29 28 ∷ 31 ∷ 30 ∷ 31 ∷ 30 ∷ 31 ∷ 31 ∷ 30 ∷ 31 ∷ 30 ∷ 31 ∷ []

abbrev pub month_days : ℕ → ℕ → ℕ
month_days y m = slice_index (months (leap y)) (m - 1)

-- the days of the first n years from 1900 on
abbrev pub year_start : ℕ → ℕ
year_start n = total (λ k. year_days (1900 + k)) n

-- the days of the first k months of a year
abbrev pub month_start : Bool → ℕ → ℕ
month_start l k = total (λ i. slice_index (months l) i) k

-- the place of 1 January
abbrev pub new_year : ℕ → ℕ
new_year y = year_start (y - 1900)
