-- Edges against ranges.
use Rattle.std.proofs.Common.{◌≡◌, ℕ, zero, suc, ◌+◌, ◌-◌, ◌*◌, ◌/◌, ◌%◌, ◌<◌, ◌≤◌, Bool, ◌&&◌, ◌||◌, nat_le, false, List, [], ◌∷◌, length, get_or, take, drop, sym, refl, ap, ◌∙◌, ⊎_elim, arith}
use Rattle.std.proofs.lemmas.Bool.{cases_lt}
use Rattle.std.proofs.lemmas.Bool.Decides.{nat_tests}
use Rattle.std.proofs.lemmas.List.{take_all}
use Rattle.stamps.specs.declared.sets.Range.{Range}
use Rattle.stamps.specs.Ranges.{range, member, Before, Listing, OneListing}
use Rattle.stamps.specs.Edges.{ranges, Rises, flip, inside}
use Rattle.stamps.proofs.EdgeLemmas.{rises_tail, rises_head, inside_under, same_edges}

-- a place is in a range or further on just as it is past an odd number of edges
one_pair : (x y p : ℕ) (m : Bool) → x < y → (p < y → m ≡ false) → ((nat_le x p && nat_le p (y - 1)) || m) ≡ flip (nat_le x p) (flip (nat_le y p) m)
one_pair x y p m first under =
    ⊎_elim
    (λ l. let u = under l in rw u (grind (arith, nat_tests)))
    (λ l. grind (arith, nat_tests))
    (cases_lt p y)

-- what the ranges hold is what the edges hold
pub member-ranges : (es : List ℕ) (p : ℕ) → Rises es → length es % 2 ≡ 0 → member (ranges es) p ≡ inside es p
member-ranges [] p r even = refl
member-ranges (x ∷ []) p r even = absurd (omega (arith, even))
member-ranges (x ∷ y ∷ es) p r even =
    let first : x < y = r 0 1 (omega arith) (omega arith) in
    let rest : member (ranges es) p ≡ inside es p =
    member-ranges es p (rises_tail y es (rises_tail x (y ∷ es) r)) (omega arith) in
    let under : p < y → inside es p ≡ false =
    λ l. inside_under es p (λ k m. omega (arith, rises_head y es (rises_tail x (y ∷ es) r) k m)) in
    one_pair x y p (member (ranges es) p) first (λ l. rest ∙ under l) ∙ ap (λ (m : Bool). flip (nat_le x p) (flip (nat_le y p) m)) rest

pub length-ranges : (es : List ℕ) → length (ranges es) ≡ length es / 2
length-ranges [] = refl
length-ranges (x ∷ []) = refl
length-ranges (x ∷ y ∷ es) = omega (arith, length-ranges es)

-- the edges past the first two, as a pattern of a slice leaves them
pub after_two : (es : List ℕ) → 2 ≤ length es → (length es % 2 ≡ 0) × Rises es
    → (length (take (length es - 2) (drop 2 es)) % 2 ≡ 0) × Rises (take (length es - 2) (drop 2 es))
after_two [] l h = absurd (omega arith)
after_two (x ∷ []) l h = absurd (omega arith)
after_two (x ∷ y ∷ es) l (even, r) =
    rw (take_all (length (x ∷ y ∷ es) - 2) es (omega arith)) (omega (arith, even), rises_tail y es (rises_tail x (y ∷ es) r))

-- rising edges list ranges
pub listing_ranges : (es : List ℕ) → Rises es → Listing (ranges es)
listing_ranges [] r = tt
listing_ranges (x ∷ []) r = tt
listing_ranges (x ∷ y ∷ es) r =
    let first : x < y = r 0 1 (omega arith) (omega arith) in
    (omega arith, before es r, listing_ranges es (rises_tail y es (rises_tail x (y ∷ es) r)))
  where
    before : (fs : List ℕ) → Rises (x ∷ y ∷ fs) → Before ((y - 1) + 1) (ranges fs)
    before [] s = tt
    before (z ∷ []) s = tt
    before (z ∷ w ∷ fs) s =
        let a : x < y = s 0 1 (omega arith) (omega arith) in
        let b : y < z = s 1 2 (omega arith) (omega arith) in
        omega arith

pub edges : List Range → List ℕ
edges [] = []
edges (r ∷ rs) = r.low ∷ (r.high + 1) ∷ edges rs

pub length-edges : (rs : List Range) → length (edges rs) ≡ 2 * length rs
unfolding edges
length-edges [] = refl
length-edges (r ∷ rs) = omega (arith, length-edges rs)

pub ranges-edges : (rs : List Range) → ranges (edges rs) ≡ rs
unfolding edges
ranges-edges [] = refl
ranges-edges (r ∷ rs) =
    let h : (r.high + 1) - 1 ≡ r.high = omega arith in
    ap (λ (x : ℕ). range r.low x ∷ ranges (edges rs)) h ∙ ap (λ (ss : List Range). r ∷ ss) (ranges-edges rs)

-- the edges of a listing rise, from the first on
edges_above : (rs : List Range) (p : ℕ) → Before p rs → Listing rs → (k : ℕ) → k < length (edges rs) → p < get_or (edges rs) k 0
unfolding edges
edges_above [] p b l k m = absurd (omega arith)
edges_above (r ∷ rs) p b l zero m = b
edges_above (r ∷ rs) p b l (suc zero) m = omega (arith, b, l.0)
edges_above (r ∷ rs) p b l (suc (suc k)) m =
    omega (arith, b, l.0, edges_above rs (r.high + 1) l.1 l.2 k (omega arith))

pub rises_edges : (rs : List Range) → Listing rs → Rises (edges rs)
unfolding edges
rises_edges [] l i j a b = absurd (omega arith)
rises_edges (r ∷ rs) l zero zero a b = absurd (omega arith)
rises_edges (r ∷ rs) l zero (suc zero) a b = omega (arith, l.0)
rises_edges (r ∷ rs) l zero (suc (suc j)) a b =
    omega (arith, l.0, edges_above rs (r.high + 1) l.1 l.2 j (omega arith))
rises_edges (r ∷ rs) l (suc i) zero a b = absurd (omega arith)
rises_edges (r ∷ rs) l (suc zero) (suc zero) a b = absurd (omega arith)
rises_edges (r ∷ rs) l (suc zero) (suc (suc j)) a b = edges_above rs (r.high + 1) l.1 l.2 j (omega arith)
rises_edges (r ∷ rs) l (suc (suc i)) (suc zero) a b = absurd (omega arith)
rises_edges (r ∷ rs) l (suc (suc i)) (suc (suc j)) a b = rises_edges rs l.2 i j (omega arith) (omega arith)

pub member-edges : (rs : List Range) (p : ℕ) → Listing rs → member rs p ≡ inside (edges rs) p
member-edges rs p l =
    ap (λ ss. member ss p) (sym (ranges-edges rs)) ∙ member-ranges (edges rs) p (rises_edges rs l) (omega (arith, length-edges rs))

pub one_listing : OneListing
one_listing rs ss l m agree =
    let e : edges rs ≡ edges ss = same_edges (edges rs) (edges ss) (rises_edges rs l) (rises_edges ss m)
    (λ p. sym (member-edges rs p l) ∙ agree p ∙ member-edges ss p m) in
    sym (ranges-edges rs) ∙ ap ranges e ∙ ranges-edges ss
