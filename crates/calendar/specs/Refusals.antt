-- The number of each refusal.
use Rattle.std.specs.Prelude.{ℕ}
use Rattle.calendar.specs.declared.refusals.Refusal.{Refusal}
use Rattle.calendar.specs.declared.refusals.Refusal.TheVariants.{AreaTooSmall, AreaUnfit, ImageBroken, OtherCalendar, OutsideLimits, ContractPresent, ContractAbsent, NoSlotFree, CountExhausted, PointBackward, NoStamp, LineBroken, QuestionBroken, SourceLong, NoItem, TooManyRanges, PriceTooHigh, ItemUnwritten}

abbrev pub number_of : Refusal → ℕ
number_of AreaTooSmall = 1
number_of AreaUnfit = 2
number_of ImageBroken = 3
number_of OtherCalendar = 4
number_of OutsideLimits = 5
number_of ContractPresent = 6
number_of ContractAbsent = 7
number_of NoSlotFree = 8
number_of CountExhausted = 9
number_of PointBackward = 10
number_of NoStamp = 11
number_of LineBroken = 12
number_of QuestionBroken = 13
number_of SourceLong = 14
number_of NoItem = 15
number_of TooManyRanges = 16
number_of PriceTooHigh = 17
number_of ItemUnwritten = 18
