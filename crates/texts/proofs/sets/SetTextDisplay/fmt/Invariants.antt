use Rattle.std.proofs.Common.{◌≡◌, ◌++◌}
use Rattle.std.specs.Fmt.{HasWritten, IsPlainFormatter}
use Rattle.texts.specs.Writing.{list_text}
use Rattle.texts.proofs.Items.{between}
use Rattle.texts.proofs.sets.SetTextDisplay.fmt.Given as goal

-- the ranges before those that are left are written, and the next is to follow a comma, unless it is the first
abbrev pub invariant-loop-range : goal.invariant-loop-range
invariant-loop-range g l =
    (l.initial.range-iterator ≡ l.yielded ++ l.range-iterator) × (l.before ≡ between l.yielded)
    × (IsPlainFormatter l.initial.f → HasWritten g.W.Write.write_str_gives l.initial.f (list_text g.C.Calendar g.C.Printable l.yielded) l.f)
