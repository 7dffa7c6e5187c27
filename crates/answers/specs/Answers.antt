-- What a command answers on a calendar.
use Rattle.std.specs.Prelude.{◌≡◌, ◌⊎◌, Ok, Err, Result}
use Rattle.calendar.specs.declared.orders.Calendar.{Ghosts as Places}
use Rattle.calendar.specs.declared.writing.Printable.{Ghosts as Texts}
use Rattle.calendar.specs.declared.refusals.Refusal.{Refusal}
use Rattle.language.specs.declared.commands.Command.{Command}
use Rattle.language.specs.declared.commands.Command.TheVariants.{Choose, Calendar, Points, Help}
use Rattle.answers.specs.declared.parted.Parted.{Ghosts as Names}
use Rattle.answers.specs.declared.replies.Reply.{Reply}
use Rattle.answers.specs.declared.replies.Reply.TheVariants.{Done, Commands}
use Rattle.answers.specs.declared.stops.Stop.{Stop}
use Rattle.answers.specs.declared.stops.Stop.TheVariants.{Refused}
use Rattle.answers.specs.Calendars.{AnsweredCalendar}
use Rattle.answers.specs.Points.{AnsweredPoints}

-- over a calendar's places, texts, and what parts name in it
module _ {C : Type 0} (places : Places C) (texts : Texts C) (names : Names C) where
  abbrev pub Answered : Command → Result (Reply C) Stop → Type 0
  Answered (Choose k) r = r ≡ Ok Done
  Answered (Calendar c) r = AnsweredCalendar places texts names c r
  Answered (Points c) r = ((a : Reply C) × (r ≡ Ok a) × AnsweredPoints places texts c (Ok a)) ⊎ ((e : Refusal) × (r ≡ Err (Refused e)) × AnsweredPoints places texts c (Err e))
  Answered Help r = r ≡ Ok Commands
