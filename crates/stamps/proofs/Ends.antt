-- How a sweep begins and ends.
use Rattle.std.proofs.Common.{◌≡◌, ℕ, zero, suc, ◌%◌, ◌<◌, Bool, false, List, [], length, get_or, take, replicate, sym, refl, ap, ◌∙◌, ⊎_elim, arith}
use Rattle.std.proofs.lemmas.Bool.Decides.{nat_tests}
use Rattle.std.proofs.lemmas.List.{length-take-le, get_or-take}
use Rattle.stamps.specs.declared.sets.ReferenceSet.{ReferenceSet}
use Rattle.stamps.specs.Ranges.{member, NeedsMore}
use Rattle.stamps.specs.Edges.{ranges, inside, odd}
use Rattle.stamps.specs.Sets.{steps, has}
use Rattle.stamps.proofs.Swept.{Swept, Good, Long, split_none, inside_split}
use Rattle.stamps.proofs.Advances.{alike}
use Rattle.stamps.proofs.EdgeLemmas.{inside_past}
use Rattle.std.proofs.lemmas.Bool.{cases_lt}
use Rattle.stamps.proofs.Bridge.{edges, length-edges, rises_edges, member-edges, member-ranges}
use Rattle.stamps.proofs.SetFacts.{has_inside, steps_even}

pub zeros : (n k : ℕ) → ◌≡◌ {A = ℕ} (get_or (replicate n 0) k 0) 0
zeros zero k = refl
zeros (suc n) zero = refl
zeros (suc n) (suc k) = zeros n k

even_odd : (n : ℕ) → n % 2 ≡ 0 → odd n ≡ false
even_odd n e = grind (arith, nat_tests)

module _ (op : Bool → Bool → Bool) (none : op false false ≡ false) (xs ys : List ℕ) (ex : length xs % 2 ≡ 0) (ey : length ys % 2 ≡ 0) where
  pub begins : Swept op xs ys xs ys []
  begins = record {
    at = 0;
    first = split_none xs;
    second = split_none ys;
    under = λ k l. absurd (omega arith);
    rises = λ i j l m. absurd (omega arith);
    parity = sym (alike op (even_odd (length xs) ex) (even_odd (length ys) ey) ∙ none);
    says = λ p l. absurd (omega arith);
  }

  module _ {os : List ℕ} (s : Swept op xs ys [] [] os) where
    pub ends_even : length os % 2 ≡ 0
    ends_even = let h : odd (length os) ≡ false = s.parity ∙ none in grind (arith, nat_tests)

    pub ends_say : (p : ℕ) → inside os p ≡ op (inside xs p) (inside ys p)
    ends_say p = ⊎_elim
        (s.says p)
        (λ l. inside_past os p (λ k m. omega (arith, s.under k m)) ∙ s.parity
        ∙ sym (alike op (inside_split p s.first ex (omega arith) (λ k m. absurd (omega arith))) (inside_split p s.second ey (omega arith) (λ k m. absurd (omega arith)))))
        (cases_lt p s.at)

pub both_has : (op : Bool → Bool → Bool) (a b : ReferenceSet) (p : ℕ) → op (has a p) (has b p) ≡ op (inside (steps a) p) (inside (steps b) p)
both_has op a b p = alike op (has_inside a p) (has_inside b p)

pub needs_more : (op : Bool → Bool → Bool) (a b : ReferenceSet) → Long op a b → NeedsMore 16 (λ p. op (has a p) (has b p))
needs_more op a b long rs l says =
    omega (
      arith,
      length-edges rs,
      long (edges rs) (rises_edges rs l) (λ p. sym (member-edges rs p l) ∙ says p ∙ both_has op a b p),
    )

-- a sweep that is over has the combination
module _ {op : Bool → Bool → Bool} (none : op false false ≡ false) {a b : ReferenceSet} {es : List ℕ} {used : ℕ} (g : Good op a b [] [] es used) where
  long : length (take used es) ≡ used
  long = length-take-le used es (omega (arith, g.long, g.fits))

  even : length (take used es) % 2 ≡ 0
  even = ends_even op none (steps a) (steps b) (steps_even a) (steps_even b) g.swept

  pub over_even : used % 2 ≡ 0
  over_even = ap (λ (n : ℕ). n % 2) (sym long) ∙ even

  pub over_rises : (i j : ℕ) → i < j → j < used → get_or es i 0 < get_or es j 0
  over_rises i j l m =
      omega (
        arith,
        g.swept.rises i j l (omega (arith, long)),
        get_or-take used es i 0 (omega arith),
        get_or-take used es j 0 m,
      )

  pub over_has : (p : ℕ) → member (ranges (take used es)) p ≡ op (has a p) (has b p)
  over_has p = member-ranges (take used es) p g.swept.rises even
      ∙ ends_say op none (steps a) (steps b) (steps_even a) (steps_even b) g.swept p
      ∙ sym (both_has op a b p)
