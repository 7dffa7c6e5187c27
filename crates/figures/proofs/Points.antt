-- Points at reference hours.
use Rattle.std.proofs.Common.{◌≡◌, [], ◌∷◌, refl, arith, lit≤}
use Rattle.std.proofs.lemmas.Bool.Decides.{nat_tests}
use Rattle.stamps.specs.Ranges.{range}
use Rattle.spans.specs.Spans.{bound, bound_in}
use Rattle.ongoing.specs.Points.{place_at}
use Rattle.figures.specs.Words.{hours, before, Lists}

pub at_5 : place_at 999999 (hours 10 20 (lit≤ tt)) 5 ≡ 10
unfolding bound bound_in
at_5 = refl

pub at_15 : place_at 999999 (hours 10 20 (lit≤ tt)) 15 ≡ 15
unfolding bound bound_in
at_15 = refl

pub at_25 : place_at 999999 (hours 10 20 (lit≤ tt)) 25 ≡ 20
unfolding bound bound_in
at_25 = refl

pub before_at_two : Lists (range 0 11 ∷ range 21 999999 ∷ []) (before (hours 10 20 (lit≤ tt)) (hours 12 30 (lit≤ tt)))
unfolding bound bound_in
before_at_two = ((lit≤ tt, lit≤ tt, (lit≤ tt, tt, tt)), λ r. grind (arith, nat_tests))

pub never_before : Lists [] (before (hours 10 20 (lit≤ tt)) (hours 5 20 (lit≤ tt)))
unfolding bound bound_in
never_before = (tt, λ r. grind (arith, nat_tests))
