-- Edges and membership.
use Rattle.std.proofs.Common.{◌≡◌, ℕ, zero, suc, ◌+◌, ◌<◌, ◌≤◌, Bool, true, false, not, leb, List, [], ◌∷◌, ◌++◌, length, get_or, sym, refl, ap, ◌∙◌, ⊎_elim, arith}
use Rattle.std.proofs.lemmas.Bool.{le-leb, lt-leb, cases_order, both_ways}
use Rattle.std.proofs.lemmas.Bool.Decides.{nat_tests}
use Rattle.stamps.specs.Edges.{Rises, flip, inside, odd}

flip-flip : (a b c : Bool) → flip a (flip b c) ≡ flip (flip a b) c
flip-flip true true true = refl
flip-flip true true false = refl
flip-flip true false c = refl
flip-flip false b c = refl

pub flip_none : (b : Bool) → flip b false ≡ b
flip_none true = refl
flip_none false = refl

pub flip_one : (b : Bool) → flip b true ≡ not b
flip_one true = refl
flip_one false = refl

flip_cancel : (a b c : Bool) → flip a b ≡ flip a c → b ≡ c
flip_cancel true true true h = refl
flip_cancel true true false h = sym h
flip_cancel true false true h = sym h
flip_cancel true false false h = refl
flip_cancel false b c h = h

pub inside-append : (xs ys : List ℕ) (p : ℕ) → inside (xs ++ ys) p ≡ flip (inside xs p) (inside ys p)
inside-append [] ys p = refl
inside-append (x ∷ xs) ys p = ap (flip (leb x p)) (inside-append xs ys p) ∙ flip-flip (leb x p) (inside xs p) (inside ys p)

-- no edge stands at p or below
pub inside_under : (xs : List ℕ) (p : ℕ) → ((k : ℕ) → k < length xs → p < get_or xs k 0) → inside xs p ≡ false
inside_under [] p h = refl
inside_under (x ∷ xs) p h =
    let here : leb x p ≡ false = lt-leb x p (h 0 (omega arith)) in
    rw here (inside_under xs p (λ k l. h (suc k) (omega arith)))

odd-suc : (n : ℕ) → odd (suc n) ≡ not (odd n)
odd-suc n = grind (arith, nat_tests)

pub odd_more : (n : ℕ) → odd (n + 1) ≡ not (odd n)
odd_more n = grind (arith, nat_tests)

-- each edge stands at p or below
pub inside_past : (xs : List ℕ) (p : ℕ) → ((k : ℕ) → k < length xs → get_or xs k 0 ≤ p) → inside xs p ≡ odd (length xs)
inside_past [] p h = refl
inside_past (x ∷ xs) p h =
    let here : leb x p ≡ true = le-leb x p (h 0 (omega arith)) in
    rw here (ap not (inside_past xs p (λ k l. h (suc k) (omega arith))) ∙ sym (odd-suc (length xs)))

-- some edges stand at p or below, and the others above
pub inside_parts : (front left : List ℕ) (p : ℕ) → ((k : ℕ) → k < length front → get_or front k 0 ≤ p)
    → ((k : ℕ) → k < length left → p < get_or left k 0) → inside (front ++ left) p ≡ odd (length front)
inside_parts front left p under above =
    inside-append front left p ∙ rw (inside_under left p above) (flip_none (inside front p)) ∙ inside_past front p under

pub rises_tail : (x : ℕ) (xs : List ℕ) → Rises (x ∷ xs) → Rises xs
rises_tail x xs r i j l m = r (suc i) (suc j) (omega arith) (omega arith)

pub rises_head : (x : ℕ) (xs : List ℕ) → Rises (x ∷ xs) → (k : ℕ) → k < length xs → x < get_or xs k 0
rises_head x xs r k l = r 0 (suc k) (omega arith) (omega arith)

-- the first edge is the first place inside
at_head : (x : ℕ) (xs : List ℕ) → Rises (x ∷ xs) → inside (x ∷ xs) x ≡ true
at_head x xs r =
    let here : leb x x ≡ true = le-leb x x (omega arith) in
    rw here (ap not (inside_under xs x (rises_head x xs r)))

under_head : (x : ℕ) (xs : List ℕ) (p : ℕ) → Rises (x ∷ xs) → p < x → inside (x ∷ xs) p ≡ false
under_head x xs p r l = inside_under (x ∷ xs) p (λ k m. all k m)
  where
    all : (k : ℕ) → k < length (x ∷ xs) → p < get_or (x ∷ xs) k 0
    all zero m = l
    all (suc k) m = omega (arith, rises_head x xs r k (omega arith))

-- two lists that agree below `end`, and an edge of one below `end`: the other has the same first edge
clash : {A : Type 0} (b : Bool) → b ≡ true → b ≡ false → A
clash b p q = absurd (both_ways b q p)

same_head : (x y : ℕ) (xs ys : List ℕ) (end : ℕ) → Rises (x ∷ xs) → Rises (y ∷ ys) → x < end
    → ((p : ℕ) → p < end → inside (x ∷ xs) p ≡ inside (y ∷ ys) p) → x ≡ y
same_head x y xs ys end r s l agree = ⊎_elim (λ e. e) (⊎_elim below above) (cases_order x y)
  where
    below : x < y → x ≡ y
    below m = clash (inside (x ∷ xs) x) (at_head x xs r) (agree x l ∙ under_head y ys x s m)

    above : y < x → x ≡ y
    above m = clash (inside (y ∷ ys) y) (at_head y ys s) (sym (agree y (omega arith)) ∙ under_head x xs y r m)

tails_agree : (x y : ℕ) (xs ys : List ℕ) (p : ℕ) → x ≡ y → inside (x ∷ xs) p ≡ inside (y ∷ ys) p → inside xs p ≡ inside ys p
tails_agree x y xs ys p e h = flip_cancel (leb x p) (inside xs p) (inside ys p) (h ∙ ap (λ z. flip (leb z p) (inside ys p)) (sym e))

-- where xs holds below `end`, and not at it, a list that holds is longer than xs
pub longer : (xs ys : List ℕ) (end : ℕ) → Rises xs → Rises ys → ((k : ℕ) → k < length xs → get_or xs k 0 < end)
    → ((p : ℕ) → p < end → inside xs p ≡ inside ys p) → (inside xs end ≡ inside ys end → ⊥) → length xs < length ys
longer [] [] end r s under agree apart = absurd (apart refl)
longer [] (y ∷ ys) end r s under agree apart = omega arith
longer (x ∷ xs) [] end r s under agree apart =
    clash (inside (x ∷ xs) x) (at_head x xs r) (agree x (under 0 (omega arith)))
longer (x ∷ xs) (y ∷ ys) end r s under agree apart =
    let e : x ≡ y = same_head x y xs ys end r s (under 0 (omega arith)) agree in
    let deeper : length xs < length ys =
    longer xs ys end (rises_tail x xs r) (rises_tail y ys s) (λ k l. under (suc k) (omega arith))
    (λ p l. tails_agree x y xs ys p e (agree p l))
    (λ q. apart (ap (flip (leb x end)) q ∙ ap (λ z. flip (leb z end) (inside ys end)) e)) in
    omega arith

-- edges that hold alike are the same
pub same_edges : (xs ys : List ℕ) → Rises xs → Rises ys → ((p : ℕ) → inside xs p ≡ inside ys p) → xs ≡ ys
same_edges [] [] r s agree = refl
same_edges [] (y ∷ ys) r s agree = clash (inside (y ∷ ys) y) (at_head y ys s) (sym (agree y))
same_edges (x ∷ xs) [] r s agree = clash (inside (x ∷ xs) x) (at_head x xs r) (agree x)
same_edges (x ∷ xs) (y ∷ ys) r s agree =
    let e : x ≡ y = same_head x y xs ys (x + 1) r s (omega arith) (λ p l. agree p) in
    let f : xs ≡ ys = same_edges xs ys (rises_tail x xs r) (rises_tail y ys s) (λ p. tails_agree x y xs ys p e (agree p)) in
    cc
