-- Where intervals have a relation, or hold a point, in a calendar that ends at `last`.
use Rattle.std.specs.Prelude.{ℕ}
use Rattle.stamps.specs.declared.sets.ReferenceSet.{ReferenceSet}
use Rattle.spans.specs.declared.relations.Relation.{Relation}
use Rattle.spans.specs.Relations.{relates, holding}
use Rattle.spans.specs.Stretches.{Where}
use Rattle.ongoing.specs.declared.points.Point.{Point}
use Rattle.ongoing.specs.declared.intervals.Interval.{Interval}
use Rattle.ongoing.specs.Points.{place_at}

-- the set has the reference places at which i, bound there, has the relation to j
abbrev pub Relates : {C : Type 0} → ℕ → Relation → Interval C → Interval C → ReferenceSet → Type 0
Relates last x i j t = Where last t (λ r. relates x (place_at last i.start r) (place_at last i.end r) (place_at last j.start r) (place_at last j.end r))

-- the set has the reference places at which i, bound there, holds p
abbrev pub Holds : {C : Type 0} → ℕ → Interval C → Point C → ReferenceSet → Type 0
Holds last i p t = Where last t (λ r. holding (place_at last i.start r) (place_at last i.end r) (place_at last p r))
