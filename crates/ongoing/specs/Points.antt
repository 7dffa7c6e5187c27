-- Points by their places.
use Rattle.std.specs.Prelude.{ℕ}
use Rattle.spans.specs.Spans.{bound_in}
use Rattle.ongoing.specs.declared.points.Point.{Point}

-- the places of the two stamps
abbrev pub starts : {C : Type 0} → Point C → ℕ
starts p = p.span.early

abbrev pub stops : {C : Type 0} → Point C → ℕ
stops p = p.span.late

-- the place of what the point is at the reference place r, in a calendar that ends at `last`
abbrev pub place_at : {C : Type 0} → ℕ → Point C → ℕ → ℕ
place_at last p r = bound_in last p.span r
