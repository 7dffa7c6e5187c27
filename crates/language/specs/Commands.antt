-- The words that spell each command.
use Rattle.std.specs.Prelude.{◌≡◌, ℕ, List, [], ◌∷◌, codes, Result, MatchResult}
use Rattle.language.specs.declared.misreads.Misread.{Misread}
use Rattle.language.specs.declared.commands.Command.{Command}
use Rattle.language.specs.declared.commands.Command.TheVariants.{Choose, Calendar, Points, Help}
use Rattle.language.specs.Calendars.{kind_text, SpelledCalendar}
use Rattle.language.specs.Points.{SpelledPoints}

-- the words spell the command
abbrev pub Spelled : Command → List (List ℕ) → Type 0
Spelled (Choose k) ws = ws ≡ codes "calendar" ∷ kind_text k ∷ []
Spelled (Calendar c) ws = SpelledCalendar c ws
Spelled (Points c) ws = SpelledPoints c ws
Spelled Help ws = ws ≡ codes "help" ∷ []

-- the command that the words spell, or that they spell none
abbrev pub CommandRead : List (List ℕ) → Result Command Misread → Type 0
CommandRead ws r = MatchResult r (λ c. Spelled c ws) (λ _. (c : Command) → Spelled c ws → ⊥)
