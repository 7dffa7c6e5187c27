-- Running hours.
use Rattle.std.specs.Prelude.{ℕ, List}
use Rattle.calendar.specs.Decimals.{decimal}

abbrev pub last_hour : ℕ
last_hour = 999999

abbrev pub hour_width : ℕ
hour_width = 6

-- as 004217
abbrev pub hour_text : ℕ → List ℕ
hour_text n = decimal hour_width n
