use Rattle.std.proofs.Common.{[], ◌∷◌, ⊎_elim, arith}
use Rattle.std.proofs.lemmas.Bool.{cases_lt}
use Rattle.std.proofs.lemmas.Bool.Decides.{nat_tests}
use Rattle.stamps.specs.Ranges.{range}
use Rattle.stamps.proofs.Counts.{counted}
use Rattle.spans.proofs.stretches.Stretch.listed.Goals as goal

pub returns-clause-few : goal.returns-clause-few
returns-clause-few c =
    let s = c.args.self in
    ⊎_elim
    (λ none. omega (arith, counted c.range.result [] tt (λ r. let e = c.range.ensures r in grind (arith, nat_tests))))
    (λ some. omega (arith, counted c.range.result (range s.low s.high ∷ []) (some, tt, tt) (λ r. let e = c.range.ensures r in grind (arith, nat_tests))))
    (cases_lt s.high s.low)
