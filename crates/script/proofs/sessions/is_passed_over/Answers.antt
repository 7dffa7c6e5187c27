use Rattle.std.proofs.Common.{◌≡◌, length, arith}
use Rattle.std.proofs.ByRecursion.{All-get_or}
use Rattle.std.proofs.lemmas.Grind.{common_steps}
use Rattle.language.specs.Words.{space}
use Rattle.script.proofs.sessions.is_passed_over.Goals as goal

-- were the line blank, the first byte of its word would be a space
pub returns-else-is_empty : goal.returns-else-is_empty
returns-else-is_empty c = grind (arith, common_steps, All-get_or (λ x. x ≡ space) c.args.line.now (length c.first_word.ensures.gap) 0)
