use Rattle.std.proofs.Common.{inr}
use Rattle.std.proofs.lemmas.Result.{err_from_is_err_and}
use Rattle.answers.proofs.points.relate.Goals as goal

-- the first two words write points, and one of the others none
pub returns-in_err-j : goal.returns-in_err-j
returns-in_err-j g c =
    let x = err_from_is_err_and c.from_residual-in_err-j.result c.from_residual-in_err-j.ensures.1 in
    rw (x.1, x.2) (inr ((c.in_ok-i.i.start, c.in_ok-i.ensures.0), inr ((c.in_ok-i.i.end, c.in_ok-i.ensures.1), c.in_err-j.ensures)))
