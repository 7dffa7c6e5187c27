use Rattle.stamps.proofs.Bridge as bridge
use Rattle.stamps.proofs.operations.one_listing_stands.Goals as goal

pub returns : goal.returns
returns c = bridge.one_listing
