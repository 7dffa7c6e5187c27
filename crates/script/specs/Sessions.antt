-- What a session replies to a line, and which calendar it has chosen then.
use Rattle.std.specs.Prelude.{◌≡◌, ℕ, Bool, ◌⊎◌, List, Some, None, Option, Result, slice_index}
use Rattle.calendar.specs.declared.orders.Calendar.{Ghosts as Places}
use Rattle.calendar.specs.declared.writing.Printable.{Ghosts as Texts}
use Rattle.calendar.specs.declared.hours.Hour.{Hour}
use Rattle.calendar.specs.Hours.{last_hour, hour_width, hour_text}
use Rattle.gregorian.specs.declared.days.Day.{Day}
use Rattle.gregorian.specs.declared.weeks.Week.{Week}
use Rattle.gregorian.specs.Dates.{last_day, date_width, date_at, date_text}
use Rattle.gregorian.specs.Weeks.{last_week, week_width, week_at, week_text}
use Rattle.answers.specs.Answers.{Answered}
use Rattle.language.specs.Languages.{Knows}
use Rattle.answers.specs.Parts.{names_hour, names_day, names_week}
use Rattle.texts.specs.Texts.{Shown, ShownMisread}
use Rattle.language.specs.Words.{Blank, Words}
use Rattle.language.specs.declared.commands.Command.{Command}
use Rattle.language.specs.declared.commands.Command.TheVariants.{Choose, Calendar, Points, Help}
use Rattle.language.specs.declared.calendars.Kind.{Kind}
use Rattle.language.specs.declared.calendars.Kind.TheVariants.{Hours, Days, Weeks}
use Rattle.answers.specs.declared.parted.Parted.{Ghosts as Names}
use Rattle.answers.specs.declared.replies.Reply.{Reply}
use Rattle.answers.specs.declared.stops.Stop.{Stop}

-- the byte `#`
abbrev pub remark : ℕ
remark = 35

-- the line is blank, or begins with `#`
abbrev pub PassedOver : List ℕ → Type 0
PassedOver line = Blank line ⊎ (slice_index line 0 ≡ remark)

-- the calendar that is chosen once the command is performed
abbrev pub chosen_after : Option Kind → Command → Option Kind
chosen_after o (Choose k) = Some k
chosen_after o (Calendar c) = o
chosen_after o (Points c) = o
chosen_after o Help = o

-- the places, the texts, and what parts name, in each calendar
abbrev hour_places : Places Hour
hour_places = record { place = λ h. h.count; LAST_PLACE = last_hour; MARK = 1 }

abbrev hour_texts : Texts Hour
hour_texts = record { WIDTH = hour_width; text = hour_text }

abbrev hour_names : Names Hour
hour_names = record { taken = 1; names = names_hour }

abbrev day_places : Places Day
day_places = record { place = λ d. d.number; LAST_PLACE = last_day; MARK = 2 }

abbrev day_texts : Texts Day
day_texts = record { WIDTH = date_width; text = λ n. date_text (date_at n) }

abbrev day_names : Names Day
day_names = record { taken = 3; names = names_day }

abbrev week_places : Places Week
week_places = record { place = λ w. w.number; LAST_PLACE = last_week; MARK = 3 }

abbrev week_texts : Texts Week
week_texts = record { WIDTH = week_width; text = λ n. week_text (week_at n) }

abbrev week_names : Names Week
week_names = record { taken = 2; names = names_week }

-- the bytes show an answer to the command on a calendar
abbrev pub ShowsAnswer : {C : Type 0} → Places C → Texts C → Names C → Command → List ℕ → Type 0
ShowsAnswer {C} places texts names c bytes = (r : Result (Reply C) Stop) × Answered places texts names c r × Shown places texts r bytes

abbrev pub RepliedOn : Kind → Command → List ℕ → Type 0
RepliedOn Hours c bytes = ShowsAnswer hour_places hour_texts hour_names c bytes
RepliedOn Days c bytes = ShowsAnswer day_places day_texts day_names c bytes
RepliedOn Weeks c bytes = ShowsAnswer week_places week_texts week_names c bytes

abbrev pub Replied : Option Kind → Command → List ℕ → Type 0
Replied None c bytes = ShownMisread bytes
Replied (Some k) c bytes = RepliedOn k c bytes

-- a line before which the one calendar was chosen, and after which the other is, in the language with these keywords: either its words spell no command, and nothing changes, or they spell one
abbrev pub Turn : (List ℕ → Bool) → Option Kind → List ℕ → Option Kind → List ℕ → Type 0
Turn has before line after bytes =
    (ws : List (List ℕ)) × Words line ws
    × ((((c : Command) → Knows has c ws → ⊥) × (after ≡ before) × ShownMisread bytes) ⊎ ((c : Command) × Knows has c ws × (after ≡ chosen_after before c) × Replied after c bytes))
