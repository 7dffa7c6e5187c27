use Rattle.std.proofs.Common.{◌-◌, arith, rules}
use Rattle.std.proofs.ByRecursion.{All-from_get_or}
use Rattle.std.proofs.lemmas.Grind.{common_steps}
use Rattle.std.proofs.lemmas.Str.{IsCharBoundary-start, lead_after_ascii}
use Rattle.language.proofs.words.first_word.Goals as goal

-- a text may be cut behind a space
pub split_at-requires : goal.split_at-requires
split_at-requires c = grind (arith, IsCharBoundary-start, lead_after_ascii c.args.line.now (c.front-start.result - 1))

pub returns : goal.returns
returns c = record {
  gap = c.split_at.result.0.now;
  cut = search (rules, common_steps);
  blank = All-from_get_or _ _ 0 (search (rules, common_steps));
  solid = All-from_get_or _ _ 0 (search (rules, common_steps));
  ends = search (rules, common_steps);
  none = search (rules, common_steps);
}
