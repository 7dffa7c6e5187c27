-- What a command about a calendar answers.
use Rattle.std.specs.Prelude.{◌≡◌, ℕ, ◌<◌, ◌≤◌, ◌⊎◌, Ok, Err, Result}
use Rattle.calendar.specs.declared.orders.Calendar.{Ghosts as Places}
use Rattle.calendar.specs.declared.writing.Printable.{Ghosts as Texts}
use Rattle.answers.specs.declared.parted.Parted.{Ghosts as Names}
use Rattle.answers.specs.Parts.{count_of}
use Rattle.answers.specs.Stops.{Refuses, RefusesParts}
use Rattle.language.specs.declared.calendars.CalendarCommand.{CalendarCommand}
use Rattle.language.specs.declared.calendars.CalendarCommand.TheVariants as command
use Rattle.answers.specs.declared.replies.Reply.{Reply}
use Rattle.answers.specs.declared.replies.Reply.TheVariants.{Place, Stamp, Absent}
use Rattle.answers.specs.declared.stops.Stop.{Stop}

-- over a calendar's places, texts, and what parts name in it
module _ {C : Type 0} (places : Places C) (texts : Texts C) (names : Names C) where
  abbrev NoPlace : (ℕ → Type 0) → Type 0
  NoPlace P = (n : ℕ) → n ≤ places.LAST_PLACE → P n → ⊥

  abbrev pub AnsweredCalendar : CalendarCommand → Result (Reply C) Stop → Type 0
  AnsweredCalendar (command.Place t) r = ((n : ℕ) × (r ≡ Ok (Place n)) × (n ≤ places.LAST_PLACE) × (texts.text n ≡ t.now)) ⊎ ((e : Stop) × (r ≡ Err e) × Refuses e (NoPlace (λ n. texts.text n ≡ t.now)))
  AnsweredCalendar (command.Stamp n) r = ((s : C) × (r ≡ Ok (Stamp s)) × (places.place s ≡ n)) ⊎ ((r ≡ Ok Absent) × (places.LAST_PLACE < n))
  AnsweredCalendar (command.Named p) r = ((s : C) × (r ≡ Ok (Stamp s)) × names.names p (places.place s)) ⊎ ((e : Stop) × (r ≡ Err e) × RefusesParts e (count_of p) names.taken (NoPlace (names.names p)))
