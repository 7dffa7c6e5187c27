-- How far a sweep over the edges of two sets has come.
use Rattle.std.proofs.Common.{◌≡◌, ℕ, ◌+◌, ◌%◌, ◌<◌, ◌≤◌, Bool, List, [], ◌∷◌, ◌++◌, length, get_or, take, refl, sym, ap, ◌∙◌, ⊎_elim, append_assoc, length-append, arith}
use Rattle.std.proofs.lemmas.Bool.{cases_lt, cases_eq}
use Rattle.std.proofs.lemmas.Bool.Decides.{nat_tests}
use Rattle.std.proofs.lemmas.List.{length_push, get_or_push, get_or_append_left, get_or-append-add}
use Rattle.stamps.specs.declared.sets.ReferenceSet.{ReferenceSet}
use Rattle.stamps.specs.Edges.{Rises, inside, odd}
use Rattle.stamps.specs.Sets.{steps}
use Rattle.stamps.specs.Sweeps.{after}
use Rattle.stamps.proofs.EdgeLemmas.{inside_parts, rises_head}

-- the edges of es before `at` are passed, and the others are left
pub record Split (es left : List ℕ) (at : ℕ) : Type 0 where
  pub front : List ℕ
  pub whole : es ≡ front ++ left
  pub done : (k : ℕ) → k < length front → get_or front k 0 < at
  pub later : (k : ℕ) → k < length left → at ≤ get_or left k 0

-- os has the edges, before some place, of the combination of xs and ys
pub record Swept (op : Bool → Bool → Bool) (xs ys left right os : List ℕ) : Type 0 where
  pub at : ℕ
  pub first : Split xs left at
  pub second : Split ys right at
  pub under : (k : ℕ) → k < length os → get_or os k 0 < at
  pub rises : Rises os
  pub parity : odd (length os) ≡ op (odd (length left)) (odd (length right))
  pub says : (p : ℕ) → p < at → inside os p ≡ op (inside xs p) (inside ys p)

-- the combination so far, where these edges of a and b are left
pub record Good (op : Bool → Bool → Bool) (a b : ReferenceSet) (left right edges : List ℕ) (used : ℕ) : Type 0 where
  pub long : length edges ≡ 32
  pub fits : used ≤ 32
  pub rest : (k : ℕ) → used ≤ k → get_or edges k 0 ≡ 0
  pub swept : Swept op (steps a) (steps b) left right (take used edges)

-- the combination takes more than 32 edges
abbrev pub Long : (Bool → Bool → Bool) → ReferenceSet → ReferenceSet → Type 0
Long op a b = (es : List ℕ) → Rises es → ((p : ℕ) → inside es p ≡ op (inside (steps a) p) (inside (steps b) p)) → 32 < length es

-- at a place between the edges that are passed and those that are left
pub inside_split : {es left : List ℕ} {at : ℕ} (p : ℕ) → Split es left at → length es % 2 ≡ 0 → at ≤ p + 1
    → ((k : ℕ) → k < length left → p < get_or left k 0) → inside es p ≡ odd (length left)
inside_split {left = left} p s even l above =
    ap (λ (zs : List ℕ). inside zs p) s.whole ∙ inside_parts s.front left p (λ k m. omega (arith, s.done k m)) above ∙ alike
  where
    alike : odd (length s.front) ≡ odd (length left)
    alike = let h = ap length s.whole ∙ length-append s.front left in grind (arith, nat_tests)

-- what is left rises
left_rises : {es left : List ℕ} {at : ℕ} → Rises es → Split es left at → Rises left
left_rises {es = es} {left = left} r s i j l m =
    let here = λ (k : ℕ). ap (λ (zs : List ℕ). get_or zs (length s.front + k) 0) s.whole ∙ get_or-append-add s.front left k 0 in
    omega (arith, here i, here j, r (length s.front + i) (length s.front + j) (omega arith) (omega (arith, ap length s.whole, length-append s.front left)))

-- an edge that is at most the first that is left is at most each of them
pub least_left : {es left : List ℕ} {at e : ℕ} → Rises es → Split es left at → (0 < length left → e ≤ get_or left 0 0)
    → (k : ℕ) → k < length left → e ≤ get_or left k 0
least_left r s under k l = ⊎_elim
    (λ m. omega (arith, under (omega arith), left_rises r s 0 k m l))
    (λ m. let h : k ≡ 0 = omega arith in rw h (under (omega arith)))
    (cases_lt 0 k)

after_first : (x e : ℕ) (left : List ℕ) → x ≡ e → after (x ∷ left) e ≡ left
after_first x e left here = grind (arith, nat_tests)

after_none : (x e : ℕ) (left : List ℕ) → (x ≡ e → ⊥) → after (x ∷ left) e ≡ x ∷ left
after_none x e left off = grind (arith, nat_tests)

-- past that edge
pub split_after : {es : List ℕ} (left : List ℕ) {at e : ℕ} → Rises es → Split es left at → at ≤ e
    → (0 < length left → e ≤ get_or left 0 0) → Split es (after left e) (e + 1)
split_after [] r s above under = record {
  front = s.front;
  whole = s.whole;
  done = λ k m. omega (arith, s.done k m);
  later = λ k m. absurd (omega arith);
}
split_after (x ∷ left) {e = e} r s above under = ⊎_elim
    (λ (here : x ≡ e). rw (after_first x e left here) record {
      front = s.front ++ x ∷ [];
      whole = s.whole ∙ sym (append_assoc s.front (x ∷ []) left);
      done = λ k m. ⊎_elim
          (λ n. omega (arith, s.done k n, get_or_append_left s.front (x ∷ []) 0 k n))
          (λ (n : length s.front ≤ k). omega (arith, get_or_push s.front x 0 k (omega (arith, length_push s.front x))))
          (cases_lt k (length s.front));
      later = λ k m. omega (arith, rises_head x left (left_rises r s) k m);
    })
    (λ (off : x ≡ e → ⊥). rw (after_none x e left off) record {
      front = s.front;
      whole = s.whole;
      done = λ k m. omega (arith, s.done k m);
      later = λ k m. ⊎_elim
          (λ n. omega (arith, under (omega arith), left_rises r s 0 k n m))
          (λ (n : k ≤ 0). let h : k ≡ 0 = omega arith in rw h (omega (arith, under (omega arith), off)))
          (cases_lt 0 k);
    })
    (cases_eq x e)

-- where all are left
pub split_none : (es : List ℕ) → Split es es 0
split_none es = record { front = []; whole = refl; done = λ k m. absurd (omega arith); later = λ k m. omega arith }
