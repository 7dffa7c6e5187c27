use Rattle.std.proofs.Common.{Bool, not, ◌&&◌, ap}
use Rattle.stamps.proofs.Readings.{exactly_like}
use Rattle.stamps.specs.Sets.{has}
use Rattle.stamps.proofs.sets.ReferenceSet.not.Goals as goal

pub returns : goal.returns
returns c = exactly_like c.without.result _ _ (λ p. ap (λ (x : Bool). x && not (has c.args.self.now p)) (c.full.ensures p)) c.without.ensures
