-- The bound on every calendar.
use Rattle.std.specs.Prelude.{ℕ}

-- no calendar's last place is past this one
abbrev pub place_limit : ℕ
place_limit = 16777215
