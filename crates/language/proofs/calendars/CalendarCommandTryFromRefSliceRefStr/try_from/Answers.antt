use Rattle.std.proofs.Common.{rules}
use Rattle.std.proofs.lemmas.Grind.{common_steps}
use Rattle.language.proofs.calendars.CalendarCommandTryFromRefSliceRefStr.try_from.Goals as goal

pub returns-in_ok-try_from-in-parts : goal.returns-in_ok-try_from-in-parts
returns-in_ok-try_from-in-parts c = (_, search (rules, common_steps), c.in_ok-try_from-in-parts.ensures)
