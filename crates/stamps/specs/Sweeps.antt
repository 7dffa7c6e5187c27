-- What a sweep over the edges of two sets meets.
use Rattle.std.specs.Prelude.{◌≡◌, ℕ, ◌<◌, ◌≤◌, cond, ◌&&◌, ◌⊎◌, List, [], length, drop, Option, MatchOption, ◌==◌, nat_lt, slice_index}
use Rattle.stamps.specs.declared.sweep.Merged.{Merged}
use Rattle.stamps.specs.declared.sweep.Turn.{Turn}
use Rattle.stamps.specs.Edges.{odd}

-- e is the least of the edges that come first in xs and in ys
pub record Least (xs ys : List ℕ) (e : ℕ) : Type 0 where
  pub first : 0 < length xs → e ≤ slice_index xs 0
  pub second : 0 < length ys → e ≤ slice_index ys 0
  pub one : ((0 < length xs) × (slice_index xs 0 ≡ e)) ⊎ ((0 < length ys) × (slice_index ys 0 ≡ e))

-- past the first edge, if that is e
abbrev pub after : List ℕ → ℕ → List ℕ
after es e = drop (cond (nat_lt 0 (length es) && slice_index es 0 == e) 1 0) es

-- from the edges that s has left to those of t, by the edge of x
pub record Turned (s t : Merged) (x : Turn) : Type 0 where
  pub least : Least s.first.now s.second.now x.edge
  pub first : t.first.now ≡ after s.first.now x.edge
  pub second : t.second.now ≡ after s.second.now x.edge
  pub in_first : x.in_first ≡ odd (length t.first.now)
  pub in_second : x.in_second ≡ odd (length t.second.now)

-- a turn comes while either has edges left
abbrev pub Turns : Merged → Option Turn → Merged → Type 0
Turns s r t = MatchOption r ((s.first.now ≡ []) × (s.second.now ≡ [])) (Turned s t)
