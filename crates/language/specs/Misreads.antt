-- What is said of a line that is no command.
use Rattle.std.specs.Prelude.{ℕ, List, codes}
use Rattle.language.specs.declared.misreads.Misread.{Misread}
use Rattle.language.specs.declared.misreads.Misread.TheVariants.{UnknownCommand, WordCount, NoNumber, UnknownCalendar, UnknownComparison, UnknownRelation, CalendarFirst}

abbrev pub sentence : Misread → List ℕ
sentence UnknownCommand = codes "no such command; help lists them"
sentence WordCount = codes "too many or too few words; help shows the form"
sentence NoNumber = codes "a number is written in digits and is at most 4294967295"
sentence UnknownCalendar = codes "the calendars are hours, days and weeks"
sentence UnknownComparison = codes "points are compared by before, equal and at-most"
sentence UnknownRelation = codes "the relations are before, meets, overlaps, during and equals"
sentence CalendarFirst = codes "choose a calendar first: calendar hours, calendar days or calendar weeks"
