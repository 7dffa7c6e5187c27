-- What each turn of the sweep leaves.
use Rattle.std.proofs.Common.{◌≡◌, ℕ, ◌+◌, ◌%◌, ◌<◌, ◌≤◌, Bool, true, false, not, leb, List, [], ◌∷◌, ◌++◌, length, take, set, sym, refl, ap, ◌∙◌, ⊎_elim, true≢false, arith}
use mathlib.Core.Bool.{beq, false≢true}
use Rattle.std.proofs.lemmas.Bool.{cases_lt, le-leb, lt-leb}
use Rattle.std.proofs.lemmas.Bool.Decides.{nat_tests}
use Rattle.std.proofs.lemmas.List.{length_push, get_or_push, get_or_append_left, length-take-le, length-set, length-drop, take_more_set, get_or-set_other}
use Rattle.stamps.specs.declared.sets.ReferenceSet.{ReferenceSet}
use Rattle.stamps.specs.declared.sweep.Merged.{Merged}
use Rattle.stamps.specs.declared.sweep.Turn.{Turn}
use Rattle.stamps.specs.Sweeps.{Least, after, Turned}
use Rattle.stamps.specs.Edges.{Rises, inside, odd}
use Rattle.stamps.proofs.Swept.{Split, Swept, Good, Long, inside_split, split_after, least_left}
use Rattle.stamps.proofs.EdgeLemmas.{flip_none, flip_one, odd_more, inside-append, inside_past, longer}
use Rattle.stamps.proofs.SetFacts.{steps_rise, steps_even}

-- what the test `!=` tells of two answers
pub same : (a b : Bool) → not (beq a b) ≡ false → a ≡ b
same true true h = refl
same true false h = h
same false true h = sym h
same false false h = refl

pub other : (a b : Bool) → not (beq a b) ≡ true → a ≡ not b
other true true h = sym h
other true false h = refl
other false true h = refl
other false false h = h

apart : (b : Bool) → b ≡ not b → ⊥
apart true h = true≢false h
apart false h = false≢true h

pub alike : (op : Bool → Bool → Bool) {x y x' y' : Bool} → x ≡ x' → y ≡ y' → op x y ≡ op x' y'
alike op {y = y} {x' = x'} e f = ap (λ (z : Bool). op z y) e ∙ ap (op x') f

-- past the edge e, which leaves left' and right'
module _ {op : Bool → Bool → Bool} {xs ys left right os : List ℕ} {e : ℕ} (rx : Rises xs) (ry : Rises ys) (ex : length xs % 2 ≡ 0)
    (ey : length ys % 2 ≡ 0) (s : Swept op xs ys left right os) (l : Least left right e) where
  above : s.at ≤ e
  above = ⊎_elim (λ h. omega (arith, h.1, s.first.later 0 h.0)) (λ h. omega (arith, h.1, s.second.later 0 h.0)) l.one

  first : Split xs (after left e) (e + 1)
  first = split_after left rx s.first above l.first

  second : Split ys (after right e) (e + 1)
  second = split_after right ry s.second above l.second

  pub shortens : length (after left e) + length (after right e) < length left + length right
  shortens = let a = length-drop 1 left in let b = length-drop 1 right in
      ⊎_elim (λ h. grind (arith, nat_tests)) (λ h. grind (arith, nat_tests)) l.one

  made_from : (p : ℕ) → s.at ≤ p + 1 → inside os p ≡ odd (length os)
  made_from p m = inside_past os p (λ k n. omega (arith, s.under k n))

  -- before e the combination is as it was, and at e as the edges that are left tell
  before : (p : ℕ) → p < e → inside os p ≡ op (inside xs p) (inside ys p)
  before p m = ⊎_elim
      (s.says p)
      (λ n. made_from p (omega arith) ∙ s.parity ∙ sym (alike op
      (inside_split p s.first ex (omega arith) (λ k q. omega (arith, least_left rx s.first l.first k q)))
      (inside_split p s.second ey (omega arith) (λ k q. omega (arith, least_left ry s.second l.second k q)))))
      (cases_lt p s.at)

  at_edge : op (inside xs e) (inside ys e) ≡ op (odd (length (after left e))) (odd (length (after right e)))
  at_edge = alike op
      (inside_split e first ex (omega arith) (λ k q. omega (arith, first.later k q)))
      (inside_split e second ey (omega arith) (λ k q. omega (arith, second.later k q)))

  pub kept : op (odd (length (after left e))) (odd (length (after right e))) ≡ odd (length os) → Swept op xs ys (after left e) (after right e) os
  kept same = record {
    at = e + 1;
    first = first;
    second = second;
    under = λ k n. omega (arith, s.under k n, above);
    rises = s.rises;
    parity = sym same;
    says = λ p m. ⊎_elim
        (before p)
        (λ n. let h : p ≡ e = omega arith in rw h (made_from e (omega (arith, above)) ∙ sym same ∙ sym at_edge))
        (cases_lt p e);
  }

  pub added : op (odd (length (after left e))) (odd (length (after right e))) ≡ not (odd (length os))
      → Swept op xs ys (after left e) (after right e) (os ++ e ∷ [])
  added other = record {
    at = e + 1;
    first = first;
    second = second;
    under = λ k n. ⊎_elim
        (λ q. omega (arith, above, s.under k q, get_or_append_left os (e ∷ []) 0 k q))
        (λ q. omega (arith, get_or_push os e 0 k (omega (arith, length_push os e))))
        (cases_lt k (length os));
    rises = λ a b m n. ⊎_elim
        (λ q. omega (arith, s.rises a b m q, get_or_append_left os (e ∷ []) 0 a (omega arith), get_or_append_left os (e ∷ []) 0 b q))
        (λ q. let c : a < length os = omega (arith, length_push os e) in
        omega (arith, above, s.under a c, get_or_append_left os (e ∷ []) 0 a c, get_or_push os e 0 b (omega (arith, length_push os e))))
        (cases_lt b (length os));
    parity = ap odd (length_push os e) ∙ odd_more (length os) ∙ sym other;
    says = λ p m. inside-append os (e ∷ []) p ∙ ⊎_elim
        (λ n. let h : leb e p ≡ false = lt-leb e p n in rw h (flip_none (inside os p) ∙ before p n))
        (λ n. let q : p ≡ e = omega arith in
        let h : leb e e ≡ true = le-leb e e (omega arith) in
        rw (q, h) (flip_one (inside os e) ∙ ap not (made_from e (omega (arith, above))) ∙ sym other ∙ sym at_edge))
        (cases_lt p e);
  }

  -- each list of edges that says the combination has an edge more than os
  full : op (odd (length (after left e))) (odd (length (after right e))) ≡ not (odd (length os))
      → (es : List ℕ) → Rises es → ((p : ℕ) → inside es p ≡ op (inside xs p) (inside ys p)) → length os < length es
  full other es r says = longer os es e s.rises r (λ k n. omega (arith, s.under k n, above))
      (λ p m. before p m ∙ sym (says p))
      (λ q. apart (odd (length os)) (sym (made_from e (omega (arith, above))) ∙ q ∙ says e ∙ at_edge ∙ other))

-- one turn of the sweep, by the answer r
module _ {op : Bool → Bool → Bool} {a b : ReferenceSet} {s t : Merged} {x : Turn} {es : List ℕ} {used : ℕ} {r : Bool}
    (g : Good op a b s.first.now s.second.now es used) (m : Turned s t x) (answer : r ≡ op x.in_first x.in_second) where
  is : r ≡ op (odd (length (after s.first.now x.edge))) (odd (length (after s.second.now x.edge)))
  is = answer ∙ alike op (m.in_first ∙ ap (λ (zs : List ℕ). odd (length zs)) m.first) (m.in_second ∙ ap (λ (zs : List ℕ). odd (length zs)) m.second)

  made_long : length (take used es) ≡ used
  made_long = length-take-le used es (omega (arith, g.long, g.fits))

  pub turn_kept : not (beq r (odd used)) ≡ false → Good op a b t.first.now t.second.now es used
  turn_kept test = rw (m.first, m.second) record {
    long = g.long;
    fits = g.fits;
    rest = g.rest;
    swept = kept (steps_rise a) (steps_rise b) (steps_even a) (steps_even b) g.swept m.least (sym is ∙ same r (odd used) test ∙ ap odd (sym made_long));
  }

  turned : not (beq r (odd used)) ≡ true → op (odd (length (after s.first.now x.edge))) (odd (length (after s.second.now x.edge))) ≡ not (odd (length (take used es)))
  turned test = sym is ∙ other r (odd used) test ∙ ap (λ (n : ℕ). not (odd n)) (sym made_long)

  pub turn_added : not (beq r (odd used)) ≡ true → used < 32 → Good op a b t.first.now t.second.now (set es used x.edge) (used + 1)
  turn_added test room =
      let within : used < length es = omega (arith, g.long) in
      let swept = added (steps_rise a) (steps_rise b) (steps_even a) (steps_even b) g.swept m.least (turned test) in
      rw (m.first, m.second) record {
        long = length-set es used x.edge ∙ g.long;
        fits = omega arith;
        rest = λ k n. get_or-set_other es used k x.edge 0 (λ q. omega arith) ∙ g.rest k (omega arith);
        swept = rw take_more_set swept;
      }

  pub turn_full : not (beq r (odd used)) ≡ true → used ≡ 32 → Long op a b
  turn_full test most fs rises says =
      omega (arith, made_long, full (steps_rise a) (steps_rise b) (steps_even a) (steps_even b) g.swept m.least (turned test) fs rises says)
