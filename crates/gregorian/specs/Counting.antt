-- The days of years and months: what the sums of their lengths come to, and the formulas of the code.
use Rattle.std.specs.Prelude.{◌≡◌, ℕ, zero, suc, ◌+◌, ◌-◌, ◌*◌, ◌/◌, ◌<◌, ◌≤◌, Bool, true, false, cond, ◌==◌, nat_lt, slice_index, refl}
use Rattle.std.proofs.Common.{sym, ap, subst, ◌∙◌, arith, add-one}
use Rattle.std.proofs.lemmas.Bool.{eqb-true}
use Rattle.gregorian.specs.Totals.{total}
use Rattle.gregorian.specs.Years.{leap, year_days, months, month_days, year_start, month_start}
use Rattle.gregorian.specs.TotalsLemmas.{total_more, total_up, at, each_le}

pub year_days_lem : (y : ℕ) → (365 ≤ year_days y) × (year_days y ≤ 366)
year_days_lem y = elim (leap y) as (λ b. (365 ≤ cond b 366 365) × (cond b 366 365 ≤ 366)) [ true ↦ (omega arith, omega arith) | false ↦ (omega arith, omega arith) ]

pub year_starts : (n : ℕ) → (365 * n ≤ year_start n) × (year_start n ≤ 366 * n)
unfolding total
year_starts zero = (omega arith, omega arith)
year_starts (suc n) = (omega (arith, year_starts n, year_days_lem (1900 + n)), omega (arith, year_starts n, year_days_lem (1900 + n)))

-- the formula for the starts of the years
abbrev pub year_formula : ℕ → ℕ
year_formula n = 365 * n + (n + 3) / 4 - (n + 99) / 100 + (n + 299) / 400

pub year_formula_lem : (n : ℕ) → n ≤ 300 → year_formula n ≡ year_start n
unfolding total
year_formula_lem zero h = refl
year_formula_lem (suc n) h =
    let e : year_formula (n + 1) ≡ year_formula n + year_days (1900 + n) =
    eqb-true _ _ (at (λ k. year_formula (k + 1) == year_formula k + year_days (1900 + k)) 300 refl n (omega arith)) in
    rw add-one at e ∙ ap (λ (m : ℕ). m + year_days (1900 + n)) (year_formula_lem n (omega arith))

pub year_end : year_start 300 ≡ 109573
year_end = sym (year_formula_lem 300 (omega arith))

pub year_month : (y : ℕ) → month_start (leap y) 12 ≡ year_days y
unfolding total
year_month y = elim (leap y) as (λ b. month_start b 12 ≡ cond b 366 365) [ true ↦ refl | false ↦ refl ]

pub month_days_lem : (l : Bool) (k : ℕ) → k < 12 → 28 ≤ slice_index (months l) k
month_days_lem = each_le (λ l k. 28) (λ l k. slice_index (months l) k) 12 refl refl

pub month_most : (l : Bool) (k : ℕ) → k < 12 → slice_index (months l) k ≤ 31
month_most = each_le (λ l k. slice_index (months l) k) (λ l k. 31) 12 refl refl

pub month_more : (l : Bool) (m : ℕ) → 1 ≤ m → month_start l m ≡ month_start l (m - 1) + slice_index (months l) (m - 1)
month_more l m h =
    let e : m - 1 + 1 ≡ m = omega arith in
    subst (λ (k : ℕ). month_start l k ≡ month_start l (m - 1) + slice_index (months l) (m - 1)) e (total_more (λ i. slice_index (months l) i) (m - 1))

pub year_more : (y : ℕ) → 1900 ≤ y → year_start (y + 1 - 1900) ≡ year_start (y - 1900) + year_days y
year_more y h =
    let e : y - 1900 + 1 ≡ y + 1 - 1900 = omega arith in
    let s : 1900 + (y - 1900) ≡ y = omega arith in
    subst (λ (k : ℕ). year_start k ≡ year_start (y - 1900) + year_days y) e
    (subst (λ (k : ℕ). year_start (y - 1900 + 1) ≡ year_start (y - 1900) + year_days k) s (total_more (λ k. year_days (1900 + k)) (y - 1900)))

pub total_none : (f : ℕ → ℕ) → total f 0 ≡ 0
unfolding total
total_none f = refl

-- the formula for the starts of the months
abbrev pub month_formula : Bool → ℕ → ℕ
month_formula l k = cond (nat_lt k 2) ((367 * k + 5) / 12) (cond l ((367 * k + 5) / 12 - 1) ((367 * k + 5) / 12 - 2))

pub month_formula_lem : (l : Bool) (k : ℕ) → k ≤ 12 → month_formula l k ≡ month_start l k
unfolding total
month_formula_lem l k h =
    omega (
      arith,
      each_le month_formula (λ b i. month_start b i) 13 refl refl l k (omega arith),
      each_le (λ b i. month_start b i) month_formula 13 refl refl l k (omega arith),
    )

pub month_low : (l : Bool) (k : ℕ) → k ≤ 12 → month_start l k ≤ 32 * k
unfolding total
month_low l k h = each_le (λ b i. month_start b i) (λ b i. 32 * i) 13 refl refl l k (omega arith)

pub month_high : (l : Bool) (k : ℕ) → k ≤ 10 → 32 * (k + 1) ≤ month_start l (k + 2)
unfolding total
month_high l k h = each_le (λ b i. 32 * (i + 1)) (λ b i. month_start b (i + 2)) 11 refl refl l k (omega arith)

pub month_end : (l : Bool) → month_start l 12 ≤ 366
unfolding total
month_end l = elim l as (λ b. month_start b 12 ≤ 366) [ true ↦ omega arith | false ↦ omega arith ]

pub year_over : (p : ℕ) → p ≤ 109572 → year_start (p / 366 + 1) ≤ p → (p / 366 + 1 < 300) × (p < year_start (p / 366 + 1 + 1))
year_over p h l =
    let k : p / 366 + 1 < 300 = grind (arith, year_end, total_up (λ k. year_days (1900 + k)) 300 (p / 366 + 1)) in
    (k, omega (arith, year_starts (p / 366 + 1 + 1)))

pub month_over : (b : Bool) (p : ℕ) → p < month_start b 12 → month_start b (p / 32 + 1) ≤ p → (p / 32 + 1 < 12) × (p < month_start b (p / 32 + 1 + 1))
month_over b p h l =
    let k : p / 32 + 1 < 12 = grind (arith, total_up (λ i. slice_index (months b) i) 12 (p / 32 + 1)) in
    let e : p / 32 + 2 ≡ p / 32 + 1 + 1 = omega arith in
    (k, omega (arith, subst (λ (m : ℕ). 32 * (p / 32 + 1) ≤ month_start b m) e (month_high b (p / 32) (omega arith))))

pub month_length : (y m : ℕ) → 1 ≤ m → month_start (leap y) m - month_start (leap y) (m - 1) ≡ month_days y m
month_length y m h = omega (arith, month_more (leap y) m h)

pub in_the_year : (n p : ℕ) → p < year_start (n + 1) → year_start n ≤ p → p - year_start n < month_start (leap (1900 + n)) 12
in_the_year n p h l = omega (arith, total_more (λ k. year_days (1900 + k)) n, year_month (1900 + n))

pub rest_below : (n p : ℕ) (l : Bool) (s : ℕ) → l ≡ leap (1900 + n) → s ≡ year_start n → year_start n ≤ p → p < year_start (n + 1) → p - s < month_start l 12
rest_below n p l s el es a b =
    let f : month_start l 12 ≡ month_start (leap (1900 + n)) 12 = ap (λ (x : Bool). month_start x 12) el in
    omega (arith, in_the_year n p b a)
