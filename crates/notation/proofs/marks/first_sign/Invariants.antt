use Rattle.std.proofs.Common.{take}
use Rattle.notation.specs.Marks.{plus, Lacks}
use Rattle.notation.proofs.marks.first_sign.Given as goal

abbrev pub invariant-loop-i : goal.invariant-loop-i
invariant-loop-i l = Lacks plus (take l.i l.word)
