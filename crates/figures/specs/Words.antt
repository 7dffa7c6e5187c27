-- The words that the worked figures are said in.
use Rattle.std.specs.Prelude.{◌≡◌, ℕ, zero, suc, ◌+◌, ◌≤◌, min, Bool, not, ◌&&◌, List, [], ◌∷◌, ◌++◌, Result, MatchResult, ◌≢◌, nat_le, nat_lt}
use Rattle.calendar.specs.declared.hours.Hour.{Hour}
use Rattle.calendar.specs.declared.refusals.Refusal.{Refusal}
use Rattle.calendar.specs.Hours.{last_hour}
use Rattle.calendar.specs.Orders.{place_limit}
use Rattle.calendar.specs.Refusals.{number_of}
use Rattle.gregorian.specs.declared.days.Day.{Day}
use Rattle.gregorian.specs.declared.weeks.Week.{Week}
use Rattle.gregorian.specs.Dates.{date, date_at, last_day}
use Rattle.gregorian.specs.Weeks.{week, week_at, last_week}
use Rattle.stamps.specs.declared.sets.Range.{Range}
use Rattle.stamps.specs.declared.sets.ReferenceSet.{ReferenceSet}
use Rattle.stamps.specs.Ranges.{range, member, Listing}
use Rattle.stamps.specs.Sets.{listing, has, Exactly}
use Rattle.ongoing.specs.declared.points.Point.{Point}
use Rattle.ongoing.specs.Points.{place_at}

-- the point of running hours that stands at a, then moves, then stands at b
abbrev pub hours : (a b : ℕ) → a ≤ b → Point Hour
hours a b h = record { span = record { early = a; late = b; ordered = h }; calendar = record {} }

-- r is an hour at which p is before q
abbrev pub before : Point Hour → Point Hour → ℕ → Bool
before p q r = nat_le r last_hour && nat_lt (place_at last_hour p r) (place_at last_hour q r)

-- rs is the listing of the places at which f is true
abbrev pub Lists : List Range → (ℕ → Bool) → Type 0
Lists rs f = Listing rs × ((p : ℕ) → member rs p ≡ f p)

-- n ranges of one place each, from `low` on in steps of two
abbrev pub singles : ℕ → ℕ → List Range
singles zero low = []
singles (suc n) low = range low low ∷ singles n (low + 2)

-- 0, 2, .., 30
abbrev pub evens : List Range
evens = singles 16 0

-- the hours that these leave: 1, 3, .., 29 and 31–999999
abbrev pub besides_evens : List Range
besides_evens = singles 15 1 ++ (range 31 999999 ∷ [])

-- 1, 3, .., 31
abbrev pub odds : List Range
odds = singles 16 1

-- the answer is a set with that listing
abbrev pub Gives : Result ReferenceSet Refusal → List Range → Type 0
Gives r rs = MatchResult r (λ s. listing s ≡ rs) (λ e. ⊥)

-- the answer is the refusal of that number
abbrev pub Refuses : {A : Type 0} → Result A Refusal → ℕ → Type 0
Refuses r n = MatchResult r (λ s. ⊥) (λ e. number_of e ≡ n)

-- what `ReferenceSet::not` promises of its answer, at the last hour
abbrev pub Complement : ReferenceSet → Result ReferenceSet Refusal → Type 0
Complement a r = Exactly r (λ p. nat_le p (min last_hour place_limit) && not (has a p))

-- what `Day::from_parts` promises of its answer
abbrev pub DayFrom : ℕ → ℕ → ℕ → Result Day Refusal → Type 0
DayFrom y m d r = MatchResult r (λ s. date_at s.number ≡ date y m d) (λ e. (number_of e ≡ 11) × ((n : ℕ) → n ≤ last_day → date_at n ≢ date y m d))

-- what `Week::from_parts` promises of its answer
abbrev pub WeekFrom : ℕ → ℕ → Result Week Refusal → Type 0
WeekFrom y w r = MatchResult r (λ s. week_at s.number ≡ week y w) (λ e. (number_of e ≡ 11) × ((n : ℕ) → n ≤ last_week → week_at n ≢ week y w))
