use Rattle.std.proofs.Common.{sym}
use Rattle.stamps.proofs.SetFacts as facts
use Rattle.stamps.proofs.Readings.{listing_long}
use Rattle.stamps.proofs.sets.ReferenceSet.count.Goals as goal

pub returns-clause-count : goal.returns-clause-count
returns-clause-count c = sym (listing_long c.args.self.now)

pub returns-clause-listed : goal.returns-clause-listed
returns-clause-listed c = facts.listed c.args.self.now
