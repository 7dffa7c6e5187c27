use Rattle.std.proofs.Common.{inl, inr}
use Rattle.std.proofs.lemmas.Result.{err_from_is_err_and}
use Rattle.answers.proofs.points.hold.Goals as goal

-- the first two words write points, and the third none
pub returns-in_err-p : goal.returns-in_err-p
returns-in_err-p g c =
    let x = err_from_is_err_and c.from_residual-in_err-p.result c.from_residual-in_err-p.ensures.1 in
    rw (x.1, x.2) (inr ((c.in_ok-i.i.start, c.in_ok-i.ensures.0), inr ((c.in_ok-i.i.end, c.in_ok-i.ensures.1), inl c.in_err-p.ensures)))
