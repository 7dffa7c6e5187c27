-- What a `ReferenceSet` holds.
use Rattle.std.specs.Prelude.{◌≡◌, ℕ, Bool, ◌&&◌, List, take, Result, MatchResult, Decides, ◌==◌, nat_eq}
use Rattle.std.specs.Cmp.Lexicographic.{pointwise}
use Rattle.stamps.specs.declared.sets.ReferenceSet.{ReferenceSet}
use Rattle.calendar.specs.declared.refusals.Refusal.{Refusal}
use Rattle.calendar.specs.Refusals.{number_of}
use Rattle.stamps.specs.declared.sets.Range.{Range}
use Rattle.stamps.specs.Ranges.{member, most_ranges, HasListing, NeedsMore}
use Rattle.stamps.specs.Edges.{ranges}

-- the edges in use
abbrev pub steps : ReferenceSet → List ℕ
steps s = take s.used s.edges

abbrev pub listing : ReferenceSet → List Range
listing s = ranges (steps s)

abbrev pub has : ReferenceSet → ℕ → Bool
has s p = member (listing s) p

-- what is kept of two sets is the same
abbrev pub same_kept : ReferenceSet → ReferenceSet → Bool
same_kept a b = a.used == b.used && pointwise nat_eq a.edges b.edges

-- what is kept of two sets is the same just if they have the same places
abbrev pub SamePlaces : Type 0
SamePlaces = (a b : ReferenceSet) → Decides (same_kept a b) ((p : ℕ) → has a p ≡ has b p)

-- the set of the places at which f is true, or refusal 16 where these have a listing, and each has too many ranges
abbrev pub Exactly : Result ReferenceSet Refusal → (ℕ → Bool) → Type 0
Exactly r f = MatchResult r (λ s. (p : ℕ) → has s p ≡ f p) (λ e. (number_of e ≡ 16) × HasListing f × NeedsMore most_ranges f)
