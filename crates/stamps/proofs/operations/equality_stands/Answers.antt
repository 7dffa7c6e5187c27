use Rattle.std.proofs.Common.{refl}
use Rattle.stamps.proofs.Readings.{kept_decides}
use Rattle.stamps.proofs.operations.equality_stands.Goals as goal

pub returns : goal.returns
returns c = record { computed = λ a b. refl; places = kept_decides; kept = kept_decides }
