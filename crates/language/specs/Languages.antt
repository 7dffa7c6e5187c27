-- Which commands a language has.
use Rattle.std.specs.Prelude.{◌≡◌, ℕ, Bool, true, false, ◌||◌, List, [], ◌∷◌, codes, IsTrue, ◌↔◌, Result, MatchResult, nat_eq}
use Rattle.std.specs.Cmp.Lexicographic.{pointwise}
use Rattle.language.specs.declared.misreads.Misread.{Misread}
use Rattle.language.specs.declared.commands.Command.{Command}
use Rattle.language.specs.declared.commands.Command.TheVariants.{Choose, Calendar, Points, Help}
use Rattle.language.specs.Commands.{Spelled}

abbrev same : List ℕ → List ℕ → Bool
same a b = pointwise nat_eq a b

-- the keywords of the commands on calendars
abbrev pub calendar_keyword : List ℕ → Bool
calendar_keyword w = same w (codes "calendar") || (same w (codes "place") || (same w (codes "stamp") || (same w (codes "parts") || same w (codes "help"))))

-- the first word
abbrev pub keyword : List (List ℕ) → List ℕ
keyword [] = []
keyword (w ∷ ws) = w

-- the words spell the command, and begin with a keyword of the language
abbrev pub Knows : (List ℕ → Bool) → Command → List (List ℕ) → Type 0
Knows has c ws = IsTrue (has (keyword ws)) × Spelled c ws

-- the command of the language that the words spell, or that they spell none
abbrev pub ReadIn : (List ℕ → Bool) → List (List ℕ) → Result Command Misread → Type 0
ReadIn has ws r = MatchResult r (λ c. Knows has c ws) (λ _. (c : Command) → Knows has c ws → ⊥)

abbrev pub on_points : Command → Bool
on_points (Choose k) = false
on_points (Calendar c) = false
on_points (Points c) = true
on_points Help = false

-- the language has all commands but those on points
abbrev pub HasAllButPoints : (List ℕ → Bool) → Type 0
HasAllButPoints has = (c : Command) (ws : List (List ℕ)) → Knows has c ws ↔ (Spelled c ws × (on_points c ≡ false))
