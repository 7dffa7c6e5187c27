-- What each refusal means to somebody at the panel.
use Rattle.std.specs.Prelude.{ℕ, List, codes}
use Rattle.calendar.specs.declared.refusals.Refusal.{Refusal}
use Rattle.calendar.specs.declared.refusals.Refusal.TheVariants.{AreaTooSmall, AreaUnfit, ImageBroken, OtherCalendar, OutsideLimits, ContractPresent, ContractAbsent, NoSlotFree, CountExhausted, PointBackward, NoStamp, LineBroken, QuestionBroken, SourceLong, NoItem, TooManyRanges, PriceTooHigh, ItemUnwritten}

abbrev pub sentence : Refusal → List ℕ
sentence AreaTooSmall = codes "the area is too small for what it is to hold"
sentence AreaUnfit = codes "a register's area is a whole number of slots, up to a limit"
sentence ImageBroken = codes "the image is damaged: it breaks a rule of its format"
sentence OtherCalendar = codes "the image belongs to another calendar"
sentence OutsideLimits = codes "a number of the contract is smaller or larger than it may be"
sentence ContractPresent = codes "this contract is in the register already"
sentence ContractAbsent = codes "no such contract is in the register"
sentence NoSlotFree = codes "the register is full"
sentence CountExhausted = codes "the register has counted all the changes that it can"
sentence PointBackward = codes "the point's first stamp comes after its second"
sentence NoStamp = codes "the calendar has no such stamp"
sentence LineBroken = codes "a line of the bulletin is not written as it must be"
sentence QuestionBroken = codes "the question is not put together as it must be"
sentence SourceLong = codes "the source has more items than can be counted"
sentence NoItem = codes "the source has no item of that number"
sentence TooManyRanges = codes "a set of reference stamps needs too many ranges"
sentence PriceTooHigh = codes "the joined price is too high"
sentence ItemUnwritten = codes "not every item of the asking is written yet"
