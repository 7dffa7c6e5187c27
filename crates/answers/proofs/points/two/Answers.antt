use Rattle.std.proofs.Common.{inl, inr}
use Rattle.std.proofs.lemmas.Result.{err_from_is_err_and}
use Rattle.answers.proofs.points.two.Goals as goal

-- the first word writes a point, and the second none
pub returns-in_err-written-2 : goal.returns-in_err-written-2
returns-in_err-written-2 g c =
    let x = err_from_is_err_and c.from_residual-in_err-written-2.result c.from_residual-in_err-written-2.ensures.1 in
    rw (x.1, x.2) (inr ((c.in_ok-written.field-0, c.in_ok-written.ensures), inl c.in_err-written-2.ensures))
