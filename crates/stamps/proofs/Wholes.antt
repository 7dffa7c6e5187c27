-- A combination of two sets has a listing with at most the ranges of both: the sweep, with room for every edge.
use Rattle.std.proofs.Common.{◌≡◌, ℕ, zero, suc, ◌+◌, ◌%◌, ◌<◌, ◌≤◌, Bool, false, not, List, [], ◌∷◌, ◌++◌, length, sym, refl, ◌∙◌, inl, inr, ⊎_elim, arith}
use mathlib.Core.Bool.{beq}
use Rattle.std.proofs.lemmas.Bool.{cases_lt, cases_Bool}
use Rattle.std.proofs.lemmas.List.{length_push}
use Rattle.stamps.specs.declared.sets.ReferenceSet.{ReferenceSet}
use Rattle.stamps.specs.declared.sets.Range.{Range}
use Rattle.stamps.specs.Ranges.{Listing, member, HasListing}
use Rattle.stamps.specs.Edges.{ranges, Rises, inside, odd}
use Rattle.stamps.specs.Sets.{steps, listing, has}
use Rattle.stamps.specs.Sweeps.{Least, after}
use Rattle.stamps.proofs.Swept.{Swept}
use Rattle.stamps.proofs.Bridge.{member-ranges, length-ranges, listing_ranges}
use Rattle.stamps.proofs.SetFacts.{steps_rise, steps_even}
use Rattle.stamps.proofs.Advances.{kept, added, shortens, same, other}
use Rattle.stamps.proofs.Ends.{begins, ends_even, ends_say, both_has}

record Whole (op : Bool → Bool → Bool) (xs ys : List ℕ) : Type 0 where
  edges : List ℕ
  rises : Rises edges
  even : length edges % 2 ≡ 0
  short : length edges ≤ length xs + length ys
  says : (p : ℕ) → inside edges p ≡ op (inside xs p) (inside ys p)

next : (xs ys : List ℕ) → 0 < length xs + length ys → (e : ℕ) × Least xs ys e
next [] [] more = absurd (omega arith)
next (x ∷ xs) [] more = (x, record { first = λ _. omega arith; second = λ n. absurd (omega arith); one = inl (omega arith, refl) })
next [] (y ∷ ys) more = (y, record { first = λ n. absurd (omega arith); second = λ _. omega arith; one = inr (omega arith, refl) })
next (x ∷ xs) (y ∷ ys) more = ⊎_elim
    (λ l. (x, record { first = λ _. omega arith; second = λ _. omega arith; one = inl (omega arith, refl) }))
    (λ l. (y, record { first = λ _. omega arith; second = λ _. omega arith; one = inr (omega arith, refl) }))
    (cases_lt x y)

module _ (op : Bool → Bool → Bool) (none : op false false ≡ false) (xs ys : List ℕ) (rx : Rises xs) (ry : Rises ys)
    (ex : length xs % 2 ≡ 0) (ey : length ys % 2 ≡ 0) where
  -- the turns that may come, and an edge for each
  go : (turns : ℕ) (left right os : List ℕ) → Swept op xs ys left right os → length left + length right ≤ turns
      → length os + turns ≤ length xs + length ys → Whole op xs ys
  go turns [] [] os s l f = record {
    edges = os;
    rises = s.rises;
    even = ends_even op none xs ys ex ey s;
    short = omega arith;
    says = ends_say op none xs ys ex ey s;
  }
  go zero left right os s l f = absurd (omega arith)
  go (suc turns) left right os s l f =
      let n = next left right (omega arith) in
      let shorter = shortens rx ry ex ey s n.1 in
      ⊎_elim
      (λ t. go turns (after left n.0) (after right n.0) (os ++ n.0 ∷ []) (added rx ry ex ey s n.1 (other _ _ t)) (omega arith) (omega (arith, length_push os n.0)))
      (λ t. go turns (after left n.0) (after right n.0) os (kept rx ry ex ey s n.1 (same _ _ t)) (omega arith) (omega arith))
      (cases_Bool (not (beq (op (odd (length (after left n.0))) (odd (length (after right n.0)))) (odd (length os)))))

-- a listing of the combination, with at most the ranges of both
pub record Short (op : Bool → Bool → Bool) (a b : ReferenceSet) : Type 0 where
  pub rs : List Range
  pub listed : Listing rs
  pub says : (p : ℕ) → member rs p ≡ op (has a p) (has b p)
  pub short : length rs ≤ length (listing a) + length (listing b)

pub short : (op : Bool → Bool → Bool) → op false false ≡ false → (a b : ReferenceSet) → Short op a b
short op none a b =
    let w = go op none (steps a) (steps b) (steps_rise a) (steps_rise b) (steps_even a) (steps_even b)
    (length (steps a) + length (steps b)) (steps a) (steps b) [] (begins op none (steps a) (steps b) (steps_even a) (steps_even b)) (omega arith) (omega arith) in
    let la = length-ranges (steps a) in
    let lb = length-ranges (steps b) in
    let lw = length-ranges w.edges in
    record {
      rs = ranges w.edges;
      listed = listing_ranges w.edges w.rises;
      says = λ p. member-ranges w.edges p w.rises w.even ∙ w.says p ∙ sym (both_has op a b p);
      short = omega (arith, w.short, w.even, steps_even a, steps_even b);
    }

pub has_listing : (op : Bool → Bool → Bool) → op false false ≡ false → (a b : ReferenceSet) → HasListing (λ p. op (has a p) (has b p))
has_listing op none a b = let w = short op none a b in (w.rs, (w.listed, w.says))
