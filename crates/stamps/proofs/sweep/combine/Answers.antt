use Rattle.std.proofs.Common.{refl, arith}
use Rattle.stamps.specs.Sets.{steps}
use Rattle.stamps.proofs.Advances.{turn_kept, turn_added, turn_full}
use Rattle.stamps.proofs.Ends.{zeros, begins, over_even, over_rises, over_has, needs_more}
use Rattle.stamps.proofs.SetFacts.{steps_even}
use Rattle.stamps.proofs.Wholes.{has_listing}
use Rattle.stamps.proofs.sweep.combine.Goals as goal

pub loop-turn-init : goal.loop-turn-init
loop-turn-init g c = rw c.into_iter-turn-iterator.ensures.into_iter_gives record {
  long = refl;
  fits = omega arith;
  rest = λ k l. zeros 32 k;
  swept = begins g.op c.requires.1.1.1 (steps c.args.a.now) (steps c.args.b.now) (steps_even c.args.a.now) (steps_even c.args.b.now);
}

pub loop-turn-preserved-then-holds-used : goal.loop-turn-preserved-then-holds-used
loop-turn-preserved-then-holds-used g c =
    turn_added c.loop-turn.invariant c.in-Some.ensures.steps (c.requires.1.1.0 _ _ _ c.holds.ensures) c.if-holds-used.true (omega arith)

pub loop-turn-preserved : goal.loop-turn-preserved
loop-turn-preserved g c =
    turn_kept c.loop-turn.invariant c.in-Some.ensures.steps (c.requires.1.1.0 _ _ _ c.holds.ensures) c.if-holds-used.false

pub returns-then-used-eq-EDGES : goal.returns-then-used-eq-EDGES
returns-then-used-eq-EDGES g c = (
  refl,
  has_listing g.op c.requires.1.1.1 c.args.a.now c.args.b.now,
  needs_more g.op c.args.a.now c.args.b.now
      (turn_full c.loop-turn.invariant c.in-Some.ensures.steps (c.requires.1.1.0 _ _ _ c.holds.ensures) c.if-holds-used.true c.if-used-eq-EDGES.true),
)

pub invariant_of-result : goal.invariant_of-result
invariant_of-result g c =
    let over = rw (c.in-None.ensures.steps.0, c.in-None.ensures.steps.1) at c.loop-turn.invariant in
    record { long = over.long; fits = over.fits; even = over_even c.requires.1.1.1 over; rises = over_rises c.requires.1.1.1 over; rest = over.rest }

pub returns : goal.returns
returns g c = over_has c.requires.1.1.1 (rw (c.in-None.ensures.steps.0, c.in-None.ensures.steps.1) at c.loop-turn.invariant)
