-- What a span comes to at a reference place.
use Rattle.std.specs.Prelude.{◌≡◌, ℕ, min, cond, ◌&&◌, ◌||◌, nat_le, nat_lt}
use Rattle.spans.specs.declared.spans.Span.{Span}

-- the early place while r is at most that, the late place once r is at least that, and r between them
unfoldable pub bound : Span → ℕ → ℕ
bound s r = cond (nat_le r s.early) s.early (cond (nat_le s.late r) s.late r)

-- the same in a calendar that ends at `last`: whatever lies beyond stands for its last place
unfoldable pub bound_in : ℕ → Span → ℕ → ℕ
bound_in last s r = min (bound s r) last

-- one span is before another at r just if it starts before the other and r is before the other's start, or if it ends before the other and r is after its own end
abbrev pub BeforeByEnds : Type 0
BeforeByEnds = (p q : Span) (r : ℕ) → nat_lt (bound p r) (bound q r) ≡ (nat_lt p.early q.early && nat_lt r q.early) || (nat_lt p.late q.late && nat_lt p.late r)
