-- The words that spell a command on a calendar.
use Rattle.std.specs.Prelude.{◌≡◌, ℕ, ◌^◌, ◌<◌, List, [], ◌∷◌, codes, Result, MatchResult, ◌≢◌}
use Rattle.calendar.specs.Decimals.{Spells}
use Rattle.language.specs.declared.misreads.Misread.{Misread}
use Rattle.language.specs.declared.calendars.CalendarCommand.{CalendarCommand}
use Rattle.language.specs.declared.calendars.CalendarCommand.TheVariants.{Place, Stamp, Named}
use Rattle.language.specs.declared.calendars.Kind.{Kind}
use Rattle.language.specs.declared.calendars.Kind.TheVariants.{Hours, Days, Weeks}
use Rattle.language.specs.declared.calendars.Parts.{Parts}
use Rattle.language.specs.declared.calendars.Parts.TheVariants.{One, Two, Three}

abbrev pub kind_text : Kind → List ℕ
kind_text Hours = codes "hours"
kind_text Days = codes "days"
kind_text Weeks = codes "weeks"

-- the calendar that the word names, or that it names none
abbrev pub KindRead : List ℕ → Result Kind Misread → Type 0
KindRead w r = MatchResult r (λ k. w ≡ kind_text k) (λ _. (k : Kind) → w ≢ kind_text k)

-- the word is the number n, which fits 32 bits
abbrev pub Number : List ℕ → ℕ → Type 0
Number w n = (n < 2 ^ 32) × Spells w n

-- the words give the parts
abbrev pub Give : List (List ℕ) → Parts → Type 0
Give ws (One a) = (u : List ℕ) × (ws ≡ u ∷ []) × Number u a
Give ws (Two a b) = (u v : List ℕ) × (ws ≡ u ∷ v ∷ []) × Number u a × Number v b
Give ws (Three a b c) = (u v w : List ℕ) × (ws ≡ u ∷ v ∷ w ∷ []) × Number u a × Number v b × Number w c

-- the parts that the words give, or that they give none
abbrev pub PartsRead : List (List ℕ) → Result Parts Misread → Type 0
PartsRead ws r = MatchResult r (λ p. Give ws p) (λ _. (p : Parts) → Give ws p → ⊥)

-- the words spell the command
abbrev pub SpelledCalendar : CalendarCommand → List (List ℕ) → Type 0
SpelledCalendar (Place text) ws = ws ≡ codes "place" ∷ text.now ∷ []
SpelledCalendar (Stamp n) ws = (u : List ℕ) × (ws ≡ codes "stamp" ∷ u ∷ []) × Number u n
SpelledCalendar (Named p) ws = (vs : List (List ℕ)) × (ws ≡ codes "parts" ∷ vs) × Give vs p

-- the command that the words spell, or that they spell none
abbrev pub CalendarRead : List (List ℕ) → Result CalendarCommand Misread → Type 0
CalendarRead ws r = MatchResult r (λ c. SpelledCalendar c ws) (λ _. (c : CalendarCommand) → SpelledCalendar c ws → ⊥)
