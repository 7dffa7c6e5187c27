use Rattle.std.proofs.Common.{arith}
use Rattle.std.proofs.lemmas.Result.{MatchResult-at_ok}
use Rattle.stamps.proofs.Counts.{without_never, without_few}
use Rattle.spans.proofs.stretches.Stretch.cut_from.Goals as goal

pub unwrap-requires : goal.unwrap-requires
unwrap-requires c =
    without_never c.args.set.now c.listed.result c.without.result (omega (arith, c.requires, c.listed.ensures.few)) c.without.ensures

pub returns-clause-few : goal.returns-clause-few
returns-clause-few c =
    let says = MatchResult-at_ok _ _ c.unwrap.result c.unwrap.ensures c.without.ensures in
    omega (arith, without_few c.args.set.now c.listed.result c.unwrap.result says, c.listed.ensures.few)
