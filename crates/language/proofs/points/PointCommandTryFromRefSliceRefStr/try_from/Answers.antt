use Rattle.std.proofs.Common.{rules}
use Rattle.std.proofs.lemmas.Grind.{common_steps}
use Rattle.language.specs.declared.points.PointCommand.TheVariants.{Point}
use Rattle.language.proofs.points.PointCommandTryFromRefSliceRefStr.try_from.Goals as goal

pub returns-in_default : goal.returns-in_default
returns-in_default c = elim [ Point p ↦ search (rules, common_steps) | _ ↦ search (rules, common_steps) ]
