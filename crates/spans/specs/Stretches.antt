-- Runs of reference places, and where something holds.
use Rattle.std.specs.Prelude.{◌≡◌, ℕ, Bool, ◌&&◌, nat_le}
use Rattle.stamps.specs.declared.sets.ReferenceSet.{ReferenceSet}
use Rattle.stamps.specs.Sets.{has}
use Rattle.spans.specs.declared.stretches.Stretch.{Stretch}

abbrev pub covers : Stretch → ℕ → Bool
covers s r = nat_le s.low r && nat_le r s.high

-- the set has the places up to the last at which f is true, and no others
abbrev pub Where : ℕ → ReferenceSet → (ℕ → Bool) → Type 0
Where last s f = (r : ℕ) → has s r ≡ (nat_le r last && f r)
