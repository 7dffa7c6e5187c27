-- Sets of places, as listings of closed ranges.
use Rattle.std.specs.Prelude.{◌≡◌, ℕ, ◌+◌, ◌<◌, ◌≤◌, Bool, false, ◌&&◌, ◌||◌, List, [], ◌∷◌, length, nat_le}
use Rattle.stamps.specs.declared.sets.Range.{Range}

-- a set has at most so many ranges
abbrev pub most_ranges : ℕ
most_ranges = 16

abbrev pub range : ℕ → ℕ → Range
range low high = record { low = low; high = high }

-- p lies in one of the ranges
abbrev pub member : List Range → ℕ → Bool
member [] p = false
member (r ∷ rs) p = (nat_le r.low p && nat_le p r.high) || member rs p

-- the first of the ranges, if any, begins after the place
abbrev pub Before : ℕ → List Range → Type 0
Before p [] = Unit {0}
Before p (r ∷ rs) = p < r.low

-- the ranges rise, with at least one place between a high and the next low
abbrev pub Listing : List Range → Type 0
Listing [] = Unit {0}
Listing (r ∷ rs) = (r.low ≤ r.high) × Before (r.high + 1) rs × Listing rs

-- the places at which f is true have a listing
abbrev pub HasListing : (ℕ → Bool) → Type 0
HasListing f = (rs : List Range) × (Listing rs × ((p : ℕ) → member rs p ≡ f p))

-- each listing of the places at which f is true has more than n ranges
abbrev pub NeedsMore : ℕ → (ℕ → Bool) → Type 0
NeedsMore n f = (rs : List Range) → Listing rs → ((p : ℕ) → member rs p ≡ f p) → n < length rs

-- a set of places has one listing
abbrev pub OneListing : Type 0
OneListing = (rs ss : List Range) → Listing rs → Listing ss → ((p : ℕ) → member rs p ≡ member ss p) → rs ≡ ss
