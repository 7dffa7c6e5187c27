-- How intervals lie to each other, by plain places, and where they do by places that move.
use Rattle.std.specs.Prelude.{◌≡◌, ℕ, Bool, not, ◌&&◌, ◌==◌, nat_le, nat_lt}
use Rattle.stamps.specs.declared.sets.ReferenceSet.{ReferenceSet}
use Rattle.stamps.specs.Sets.{has}
use Rattle.spans.specs.declared.spans.Period.{Period}
use Rattle.spans.specs.declared.stretches.Stretch.{Stretch}
use Rattle.spans.specs.declared.relations.Relation.{Relation}
use Rattle.spans.specs.declared.relations.Relation.TheVariants.{Before, Meets, Overlaps, During, Equals}
use Rattle.spans.specs.Spans.{bound_in}
use Rattle.spans.specs.Stretches.{covers, Where}

-- how s up to e lies to p up to q, where neither is empty
abbrev pub lies : Relation → ℕ → ℕ → ℕ → ℕ → Bool
lies Before s e p q = nat_le e p
lies Meets s e p q = e == p
lies Overlaps s e p q = nat_lt s q && nat_lt p e
lies During s e p q = nat_le p s && nat_le e q
lies Equals s e p q = s == p && e == q

-- the relation needs both to be non-empty
abbrev pub relates : Relation → ℕ → ℕ → ℕ → ℕ → Bool
relates x s e p q = (nat_lt s e && nat_lt p q) && lies x s e p q

-- s up to e holds the place p
abbrev pub holding : ℕ → ℕ → ℕ → Bool
holding s e p = nat_le s p && nat_lt p e

-- the set has the reference places at which i has the relation to j
abbrev pub Related : ℕ → Relation → Period → Period → ReferenceSet → Type 0
Related last x i j t = Where last t (λ r. relates x (bound_in last i.start r) (bound_in last i.end r) (bound_in last j.start r) (bound_in last j.end r))

-- the set has the places of a stretch at which neither is empty
abbrev pub Filled : ℕ → Stretch → Period → Period → ReferenceSet → Type 0
Filled last s i j t = (r : ℕ) → has t r ≡ ((covers s r && not (nat_le r last && nat_le (bound_in last i.end r) (bound_in last i.start r))) && not (nat_le r last && nat_le (bound_in last j.end r) (bound_in last j.start r)))
