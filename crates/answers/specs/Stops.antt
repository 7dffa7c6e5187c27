-- Why a line gives no answer, and how a transcript shows it.
use Rattle.std.specs.Prelude.{◌≡◌, ℕ, List, ◌++◌, codes, decimal}
use Rattle.calendar.specs.Refusals.{number_of}
use Rattle.calendar.specs.Sentences as refusal
use Rattle.language.specs.Misreads as misread
use Rattle.answers.specs.declared.stops.Stop.{Stop}
use Rattle.answers.specs.declared.stops.Stop.TheVariants.{Refused, Unread}

-- refused by number 11, since nothing has what was asked for
abbrev pub Refuses : Stop → Type 0 → Type 0
Refuses (Refused e) Nothing = (number_of e ≡ 11) × Nothing
Refuses (Unread m) Nothing = ⊥

-- the same of parts, unless there are more or fewer of them than the calendar takes: then the line is misread
abbrev pub RefusesParts : Stop → ℕ → ℕ → Type 0 → Type 0
RefusesParts (Refused e) count taken Nothing = (count ≡ taken) × (number_of e ≡ 11) × Nothing
RefusesParts (Unread m) count taken Nothing = count ≡ taken → ⊥

-- a number is written as printing it writes it, which is `decimal` here
abbrev pub stop_text : Stop → List ℕ
stop_text (Refused e) = codes "refused " ++ (decimal (number_of e) ++ (codes ": " ++ refusal.sentence e))
stop_text (Unread m) = codes "? " ++ misread.sentence m
