use Rattle.std.proofs.Common.{arith}
use Rattle.std.proofs.lemmas.Bool.Decides.{nat_tests}
use Rattle.gregorian.specs.Counting.{month_formula_lem}
use Rattle.gregorian.proofs.years.month_start.Goals as goal

pub returns-then-k-lt2 : goal.returns-then-k-lt2
returns-then-k-lt2 c = let f = month_formula_lem c.args.leap c.args.k c.requires in grind (arith, nat_tests)

pub returns-then-leap : goal.returns-then-leap
returns-then-leap c = let f = month_formula_lem c.args.leap c.args.k c.requires in grind (arith, nat_tests)

pub returns-else-leap : goal.returns-else-leap
returns-else-leap c = let f = month_formula_lem c.args.leap c.args.k c.requires in grind (arith, nat_tests)
