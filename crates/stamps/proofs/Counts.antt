-- How many ranges a set has.
use Rattle.std.proofs.Common.{◌≡◌, ℕ, ◌+◌, ◌≤◌, Bool, true, false, not, ◌&&◌, ◌||◌, List, length, is_ok, Ok, Err, Result, sym, refl, ap, ◌∙◌, arith}
use Rattle.stamps.specs.declared.sets.ReferenceSet.{ReferenceSet}
use Rattle.calendar.specs.declared.refusals.Refusal.{Refusal}
use Rattle.stamps.specs.declared.sets.Range.{Range}
use Rattle.stamps.specs.Ranges.{member, Listing}
use Rattle.stamps.specs.Sets.{listing, has, Exactly}
use Rattle.stamps.proofs.Bridge.{one_listing}
use Rattle.stamps.proofs.SetFacts.{listed}
use Rattle.stamps.proofs.Wholes.{short}
use Rattle.stamps.proofs.Readings.{listing_long}

-- by any listing of the same places
pub counted : (s : ReferenceSet) (rs : List Range) → Listing rs → ((p : ℕ) → has s p ≡ member rs p) → length (listing s) ≡ length rs
counted s rs l says = ap length (one_listing (listing s) rs (listed s) l says)

-- a combination of few ranges is no refusal
never : (op : Bool → Bool → Bool) → op false false ≡ false → (a b : ReferenceSet) (r : Result ReferenceSet Refusal) → length (listing a) + length (listing b) ≤ 16
    → Exactly r (λ p. op (has a p) (has b p)) → is_ok r ≡ true
never op none a b (Ok s) few h = refl
never op none a b (Err e) few h =
    let w = short op none a b in
    absurd (omega (arith, w.short, h.2 w.rs w.listed w.says))

combined : (op : Bool → Bool → Bool) → op false false ≡ false → (a b s : ReferenceSet) → ((p : ℕ) → has s p ≡ op (has a p) (has b p))
    → length (listing s) ≤ length (listing a) + length (listing b)
combined op none a b s says =
    let w = short op none a b in
    omega (arith, w.short, counted s w.rs w.listed (λ p. says p ∙ sym (w.says p)))

-- the same of each operation, for other crates
pub without_never : (a b : ReferenceSet) (r : Result ReferenceSet Refusal) → length (listing a) + length (listing b) ≤ 16
    → Exactly r (λ p. has a p && not (has b p)) → is_ok r ≡ true
without_never = never (λ x y. x && not y) refl

pub without_few : (a b s : ReferenceSet) → ((p : ℕ) → has s p ≡ has a p && not (has b p)) → length (listing s) ≤ length (listing a) + length (listing b)
without_few = combined (λ x y. x && not y) refl

pub and_never : (a b : ReferenceSet) (r : Result ReferenceSet Refusal) → length (listing a) + length (listing b) ≤ 16
    → Exactly r (λ p. has a p && has b p) → is_ok r ≡ true
and_never = never (λ x y. x && y) refl

pub and_few : (a b s : ReferenceSet) → ((p : ℕ) → has s p ≡ has a p && has b p) → length (listing s) ≤ length (listing a) + length (listing b)
and_few = combined (λ x y. x && y) refl

pub or_never : (a b : ReferenceSet) (r : Result ReferenceSet Refusal) → length (listing a) + length (listing b) ≤ 16
    → Exactly r (λ p. has a p || has b p) → is_ok r ≡ true
or_never = never (λ x y. x || y) refl

pub or_few : (a b s : ReferenceSet) → ((p : ℕ) → has s p ≡ has a p || has b p) → length (listing s) ≤ length (listing a) + length (listing b)
or_few = combined (λ x y. x || y) refl

-- a set has at most 16 ranges
pub most : (s : ReferenceSet) → length (listing s) ≤ 16
most s = omega (arith, listing_long s, s.fits)
