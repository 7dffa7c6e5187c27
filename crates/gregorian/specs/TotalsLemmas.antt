-- Sums of the first values of a function, and tests of all numbers below a bound.
use Rattle.std.specs.Prelude.{◌≡◌, ℕ, zero, suc, ◌+◌, ◌-◌, ◌<◌, ◌≤◌, Bool, true, false, ◌&&◌, nat_le}
use Rattle.std.proofs.Common.{subst, ⊎_elim, arith, add-one}
use Rattle.std.proofs.lemmas.Bool.{and_parts, cases_lt, leb-true}
use Rattle.gregorian.specs.Totals.{total}

pub total_more : (f : ℕ → ℕ) (n : ℕ) → total f (n + 1) ≡ total f n + f n
unfolding total
total_more f n = rw add-one

-- sums only grow: j = i + k
total_add : (f : ℕ → ℕ) (i k : ℕ) → total f i ≤ total f (i + k)
total_add f i zero = let e : i + zero ≡ i = omega arith in rw e (omega arith)
total_add f i (suc k) =
    let e : i + suc k ≡ i + k + 1 = omega arith in
    rw e (omega (arith, total_add f i k, total_more f (i + k)))

pub total_up : (f : ℕ → ℕ) (i j : ℕ) → i ≤ j → total f i ≤ total f j
total_up f i j h =
    let e : i + (j - i) ≡ j = omega arith in
    subst (λ (m : ℕ). total f i ≤ total f m) e (total_add f i (j - i))

-- a number lies under one sum only
pub total_one : (f : ℕ → ℕ) (i j p : ℕ) → total f i ≤ p → p < total f (i + 1) → total f j ≤ p → p < total f (j + 1) → i ≡ j
total_one f i j p a b c d = grind (arith, total_up f (i + 1) j, total_up f (j + 1) i)

-- a test of each number below a bound
abbrev pub each : (ℕ → Bool) → ℕ → Bool
each f zero = true
each f (suc n) = f n && each f n

pub at : (f : ℕ → Bool) (n : ℕ) → each f n ≡ true → (k : ℕ) → k < n → f k ≡ true
at f zero e k h = absurd (omega arith)
at f (suc n) e k h =
    let p = and_parts (f n) (each f n) e in
    ⊎_elim (λ l. at f n p.1 k l) (λ l. let s : n ≡ k = omega arith in subst (λ (m : ℕ). f m ≡ true) s p.0) (cases_lt k n)

-- the same of a bound, in a year of either length
pub each_le : (f g : Bool → ℕ → ℕ) (n : ℕ) → each (λ k. nat_le (f true k) (g true k)) n ≡ true → each (λ k. nat_le (f false k) (g false k)) n ≡ true → (l : Bool) (k : ℕ) → k < n → f l k ≤ g l k
each_le f g n t s true k h = leb-true (f true k) (g true k) (at (λ i. nat_le (f true i) (g true i)) n t k h)
each_le f g n t s false k h = leb-true (f false k) (g false k) (at (λ i. nat_le (f false i) (g false i)) n s k h)
