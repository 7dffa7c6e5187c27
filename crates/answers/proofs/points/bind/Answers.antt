use Rattle.std.proofs.Common.{inr}
use Rattle.std.proofs.lemmas.Result.{err_from_is_err_and}
use Rattle.answers.proofs.points.bind.Goals as goal

-- the first word writes a point, and the second is no stamp
pub returns-in_err-reference : goal.returns-in_err-reference
returns-in_err-reference g c =
    let x = err_from_is_err_and c.from_residual-in_err-reference.result c.from_residual-in_err-reference.ensures.1 in
    rw (x.1, x.2) (inr ((c.in_ok-p.p, c.in_ok-p.ensures), c.in_err-reference.ensures))
