-- What the reading methods of a `ReferenceSet` rest on.
use Rattle.std.proofs.Common.{◌≡◌, ℕ, zero, suc, ◌+◌, ◌-◌, ◌*◌, ◌/◌, ◌<◌, ◌≤◌, Bool, ◌==◌, nat_eq, List, [], ◌∷◌, length, get_or, take, drop, replicate, IfOk, Ok, Err, Result, sym, refl, ap, ◌∙◌, ⊎_elim, arith}
use Rattle.std.specs.Bool.{Decides}
use Rattle.std.specs.List.Sorted.{IsNonDecreasing}
use Rattle.std.specs.Cmp.Lexicographic.{pointwise}
use Rattle.std.proofs.lemmas.Bool.{cases_lt}
use Rattle.std.proofs.lemmas.Bool.Decides.{Decides-and, Decides-eqb}
use Rattle.std.proofs.lemmas.Slice.Eq.{slice_eq-Decides}
use Rattle.std.proofs.lemmas.List.{ext_get_or, get_or_default, length-take-le, take-append-drop, get_or-take, get_or-drop, length-drop}
use Rattle.stamps.specs.declared.sets.ReferenceSet.{ReferenceSet}
use Rattle.calendar.specs.declared.refusals.Refusal.{Refusal}
use Rattle.stamps.specs.Ranges.{range, member}
use Rattle.stamps.specs.Edges.{ranges, inside, odd}
use Rattle.stamps.specs.Sets.{steps, listing, has, same_kept, Exactly}
use Rattle.stamps.proofs.EdgeLemmas.{same_edges, inside_parts}
use Rattle.stamps.proofs.Bridge.{length-ranges}
use Rattle.stamps.proofs.SetFacts.{steps_long, steps_at, steps_rise, has_inside}
use Rattle.stamps.proofs.Ends.{zeros}

ranges_at : (es : List ℕ) (i : ℕ) → i < length (ranges es) → get_or (ranges es) i (range 0 0) ≡ range (get_or es (2 * i) 0) (get_or es (2 * i + 1) 0 - 1)
ranges_at [] i l = absurd (omega arith)
ranges_at (x ∷ []) i l = absurd (omega arith)
ranges_at (x ∷ y ∷ es) zero l = refl
ranges_at (x ∷ y ∷ es) (suc i) l =
    let a : 2 * suc i ≡ suc (suc (2 * i)) = omega arith in
    let b : 2 * suc i + 1 ≡ suc (suc (2 * i + 1)) = omega arith in
    ranges_at es i (omega arith)
    ∙ ap (λ (n : ℕ). range (get_or (x ∷ y ∷ es) n 0) (get_or es (2 * i + 1) 0 - 1)) (sym a)
    ∙ ap (λ (n : ℕ). range (get_or (x ∷ y ∷ es) (2 * suc i) 0) (get_or (x ∷ y ∷ es) n 0 - 1)) (sym b)

pub listing_long : (s : ReferenceSet) → length (listing s) ≡ s.used / 2
listing_long s = length-ranges (steps s) ∙ ap (λ (n : ℕ). n / 2) (steps_long s)

-- the range at i, by its edges
pub record Placed (s : ReferenceSet) (i : ℕ) : Type 0 where
  pub is : range (get_or s.edges (2 * i) 0) (get_or s.edges (2 * i + 1) 0 - 1) ≡ get_or (listing s) i (range 0 0)
  pub rises : get_or s.edges (2 * i) 0 < get_or s.edges (2 * i + 1) 0

pub placed : (s : ReferenceSet) (i : ℕ) → i < length (listing s) → Placed s i
placed s i l =
    let w : 2 * i + 1 < s.used = omega (arith, listing_long s) in
    record {
      is = sym (
          ranges_at (steps s) i l
          ∙ ap (λ (n : ℕ). range n (get_or (steps s) (2 * i + 1) 0 - 1)) (steps_at s (2 * i) (omega arith))
          ∙ ap (λ (n : ℕ). range (get_or s.edges (2 * i) 0) (n - 1)) (steps_at s (2 * i + 1) w)
          );
      rises = s.rises (2 * i) (2 * i + 1) (omega arith) w;
    }

-- where the first k edges, and no others, stand at p or below
pub contained : (s : ReferenceSet) (k p : ℕ) → k ≤ length (steps s) → ((m : ℕ) → m < k → get_or (steps s) m 0 ≤ p)
    → ((m : ℕ) → k ≤ m → m < length (steps s) → p < get_or (steps s) m 0) → odd k ≡ has s p
contained s k p within under above =
    let long : length (take k (steps s)) ≡ k = length-take-le k (steps s) within in
    sym (has_inside s p
    ∙ ap (λ (es : List ℕ). inside es p) (sym (take-append-drop k (steps s)))
    ∙ inside_parts (take k (steps s)) (drop k (steps s)) p
    (λ m l. omega (arith, under m (omega arith), get_or-take k (steps s) m 0 (omega arith)))
    (λ m l. omega (arith, get_or-drop k (steps s) m 0, above (k + m) (omega arith) (omega (arith, length-drop k (steps s)))))
    ∙ ap odd long)

-- rising edges do not fall
pub steps_sorted : (s : ReferenceSet) → IsNonDecreasing (steps s)
steps_sorted s i j d l m = ⊎_elim
    (λ n. omega (arith, steps_rise s i j n m, get_or_default (steps s) i d 0 (omega arith), get_or_default (steps s) j d 0 m))
    (λ n. let e : i ≡ j = omega arith in omega (arith, ap (λ (k : ℕ). get_or (steps s) k d) e))
    (cases_lt i j)

-- a test that answers alike
pub exactly_like : (r : Result ReferenceSet Refusal) (f g : ℕ → Bool) → ((p : ℕ) → f p ≡ g p) → Exactly r f → Exactly r g
exactly_like (Ok s) f g same h = λ p. h p ∙ same p
exactly_like (Err e) f g same h =
    (h.0, (h.1.0, (h.1.1.0, λ p. h.1.1.1 p ∙ same p)), λ rs l says. h.2 rs l (λ p. says p ∙ sym (same p)))

-- the two edges of one range
pub pair_rises : (low past : ℕ) (es : List ℕ) → low < past → (i j : ℕ) → i < j → j < 2 → get_or (low ∷ past ∷ es) i 0 < get_or (low ∷ past ∷ es) j 0
pair_rises low past es h i j l m =
    let a : i ≡ 0 = omega arith in
    let b : j ≡ 1 = omega arith in
    rw (a, b) h

pub pair_rest : (low past n k : ℕ) → 2 ≤ k → get_or (low ∷ past ∷ replicate n 0) k 0 ≡ 0
pair_rest low past n zero l = absurd (omega arith)
pair_rest low past n (suc zero) l = absurd (omega arith)
pair_rest low past n (suc (suc k)) l = zeros n k

-- sets with the same places have the same edges, and the same 0 past them
pub same_parts : (a b : ReferenceSet) → ((p : ℕ) → has a p ≡ has b p) → (a.used ≡ b.used) × (a.edges ≡ b.edges)
same_parts a b same =
    let e : steps a ≡ steps b = same_edges (steps a) (steps b) (steps_rise a) (steps_rise b)
    (λ p. sym (has_inside a p) ∙ same p ∙ has_inside b p) in
    let n : a.used ≡ b.used = sym (steps_long a) ∙ ap length e ∙ steps_long b in (
      n,
      ext_get_or 0 a.edges b.edges (omega arith) (λ k l. ⊎_elim
          (λ m. sym (steps_at a k m) ∙ ap (λ (es : List ℕ). get_or es k 0) e ∙ steps_at b k (omega arith))
          (λ m. a.rest k m ∙ sym (b.rest k (omega arith)))
          (cases_lt k a.used)),
    )

pub same_has : (a b : ReferenceSet) → a.used ≡ b.used → a.edges ≡ b.edges → (p : ℕ) → has a p ≡ has b p
same_has a b n e p =
    ap (λ (m : ℕ). member (ranges (take m a.edges)) p) n ∙ ap (λ (es : List ℕ). member (ranges (take b.used es)) p) e

-- what is kept of two sets is the same just if they have the same places
pub kept_decides : (a b : ReferenceSet) → Decides (same_kept a b) ((p : ℕ) → has a p ≡ has b p)
kept_decides a b =
    let edges = slice_eq-Decides Decides-eqb a.edges b.edges (pointwise nat_eq a.edges b.edges) refl in
    let kept = Decides-and (a.used == b.used) (pointwise nat_eq a.edges b.edges) (Decides-eqb a.used b.used) edges in (
      λ t. let same = kept.0 t in same_has a b same.0 same.1,
      λ same. kept.1 (same_parts a b same),
    )

-- for a caller that passes the answer on
pub made_like : (r : Result ReferenceSet Refusal) (f g : ℕ → Bool) → ((p : ℕ) → f p ≡ g p) → Exactly r f → IfOk r (λ s. (p : ℕ) → has s p ≡ g p)
made_like (Ok s) f g same h = λ p. h p ∙ same p
made_like (Err e) f g same h = tt
