use Rattle.std.proofs.Common.{ℕ, List, ◌++◌, [], length}
use denote.Shadow.{shadow}
use denote.Text.{Utf8}
use Rattle.language.specs.Words.{Words, held}
use Rattle.language.proofs.words.words.Given as goal

-- the words of what is left, behind those found, are the words of the line; so are those found alone, if nothing is left
abbrev pub invariant-loop-word : goal.invariant-loop-word
invariant-loop-word l =
    shadow (Utf8 l.rest) × (Words l.rest [] → Words l.line (held l.found)) × ((ws : List (List ℕ)) → Words l.rest ws → Words l.line (held l.found ++ ws))

abbrev pub decreases-loop-word : goal.decreases-loop-word
decreases-loop-word l = length l.rest
