-- Bound places, by numbers.
use Rattle.std.proofs.Common.{◌≡◌, ℕ, min, max, cond, ◌&&◌, ltb, leb, arith}
use Rattle.std.proofs.lemmas.Bool.Decides.{nat_tests}
use Rattle.spans.specs.declared.spans.Span.{Span}
use Rattle.spans.specs.Spans.{bound, bound_in, BeforeByEnds}

pub bound_is : (s : Span) (r : ℕ) → bound s r ≡ max s.early (min r s.late)
unfolding bound
bound_is s r = let h = s.ordered in grind (arith, nat_tests)

-- by its ends in the calendar
pub bound_in_is : (last : ℕ) (s : Span) (r : ℕ) → bound_in last s r ≡ min (max s.early (min r s.late)) last
unfolding bound_in
bound_in_is last s r = rw bound_is

pub before_by_ends : BeforeByEnds
before_by_ends p q r =
    let h = p.ordered in
    let k = q.ordered in
    rw (bound_is p r, bound_is q r) (grind (arith, nat_tests))

-- where one span is at most another, by the stretch that the code takes
pub within_stretch : (last : ℕ) (p q : Span) (r low high : ℕ) → low ≡ cond (ltb (min q.early last) (min p.early last)) (min p.early last) 0
    → high ≡ cond (ltb (min q.late last) (min p.late last)) (min q.late last) last
    → leb low r && leb r high ≡ leb r last && leb (bound_in last p r) (bound_in last q r)
within_stretch last p q r low high e f =
    let h = p.ordered in
    let k = q.ordered in
    rw (bound_in_is last p r, bound_in_is last q r) (grind (arith, nat_tests))
