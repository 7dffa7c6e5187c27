use Rattle.stamps.proofs.Counts as counts
use Rattle.stamps.proofs.SetFacts as facts
use Rattle.stamps.proofs.sets.ReferenceSet.ranges.Goals as goal

pub returns-clause-most : goal.returns-clause-most
returns-clause-most c = counts.most c.args.self.now

pub returns-clause-listed : goal.returns-clause-listed
returns-clause-listed c = facts.listed c.args.self.now
