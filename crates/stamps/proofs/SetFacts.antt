-- What a `ReferenceSet` says of its edges in use.
use Rattle.std.proofs.Common.{◌≡◌, ℕ, ◌%◌, ◌<◌, length, get_or, ap, ◌∙◌, arith}
use Rattle.std.proofs.lemmas.List.{length-take-le, get_or-take}
use Rattle.stamps.specs.declared.sets.ReferenceSet.{ReferenceSet}
use Rattle.stamps.specs.Ranges.{Listing}
use Rattle.stamps.specs.Edges.{Rises, inside}
use Rattle.stamps.specs.Sets.{steps, listing, has}
use Rattle.stamps.proofs.Bridge.{member-ranges, listing_ranges}

pub steps_long : (s : ReferenceSet) → length (steps s) ≡ s.used
steps_long s = length-take-le s.used s.edges (omega arith)

pub steps_at : (s : ReferenceSet) (k : ℕ) → k < s.used → get_or (steps s) k 0 ≡ get_or s.edges k 0
steps_at s k l = get_or-take s.used s.edges k 0 l

pub steps_rise : (s : ReferenceSet) → Rises (steps s)
steps_rise s i j l m =
    let n : j < s.used = omega (arith, steps_long s) in
    let h : get_or s.edges i 0 < get_or s.edges j 0 = s.rises i j l n in
    omega (arith, steps_at s i (omega arith), steps_at s j n)

pub steps_even : (s : ReferenceSet) → length (steps s) % 2 ≡ 0
steps_even s = ap (λ (n : ℕ). n % 2) (steps_long s) ∙ s.even

pub has_inside : (s : ReferenceSet) (p : ℕ) → has s p ≡ inside (steps s) p
has_inside s p = member-ranges (steps s) p (steps_rise s) (steps_even s)

pub listed : (s : ReferenceSet) → Listing (listing s)
listed s = listing_ranges (steps s) (steps_rise s)
