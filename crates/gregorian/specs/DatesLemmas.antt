-- Stepping from day to day and counting by years and months come to the same dates.
use Rattle.std.specs.Prelude.{◌≡◌, ℕ, zero, suc, ◌+◌, ◌-◌, ◌<◌, ◌≤◌, Bool, nat_lt, slice_index, refl}
use Rattle.std.proofs.Common.{sym, ap, subst, ◌∙◌, ⊎_elim, arith}
use Rattle.std.proofs.lemmas.Bool.{cases_lt, lt-ltb, le-ltb, cond-true, cond-false}
use Rattle.gregorian.specs.Totals.{total}
use Rattle.gregorian.specs.Years.{leap, year_days, months, month_days, year_start, month_start}
use Rattle.gregorian.specs.Dates.{Date, date, next, date_at, Real, place_of}
use Rattle.gregorian.specs.Counting.{year_end, year_month, month_days_lem, month_more, year_more, total_none, month_length}
use Rattle.gregorian.specs.TotalsLemmas.{total_more, total_up, total_one}

next_day : (y m d : ℕ) → d < month_days y m → next (date y m d) ≡ date y m (d + 1)
unfolding next
next_day y m d h = cond-true (nat_lt d (month_days y m)) _ _ (lt-ltb d (month_days y m) h)

next_month : (y m d : ℕ) → month_days y m ≤ d → m < 12 → next (date y m d) ≡ date y (m + 1) 1
unfolding next
next_month y m d h l =
    cond-false (nat_lt d (month_days y m)) _ _ (le-ltb d (month_days y m) h) ∙ cond-true (nat_lt m 12) _ _ (lt-ltb m 12 l)

next_year : (y m d : ℕ) → month_days y m ≤ d → 12 ≤ m → next (date y m d) ≡ date (y + 1) 1 1
unfolding next
next_year y m d h l =
    cond-false (nat_lt d (month_days y m)) _ _ (le-ltb d (month_days y m) h) ∙ cond-false (nat_lt m 12) _ _ (le-ltb m 12 l)

abbrev Step : Date → Date → Type 0
Step t u = Real u × (place_of u ≡ place_of t + 1)

step_day : (y m d : ℕ) → Real (date y m d) → d < month_days y m → Step (date y m d) (date y m (d + 1))
step_day y m d r h = (record { from = r.from; month_from = r.month_from; month_to = r.month_to; day_from = omega arith; day_to = omega arith }, omega arith)

step_month : (y m d : ℕ) → Real (date y m d) → month_days y m ≤ d → m < 12 → Step (date y m d) (date y (m + 1) 1)
step_month y m d r h l =
    let e : m + 1 - 1 ≡ m = omega arith in (
      record { from = r.from; month_from = omega arith; month_to = omega arith; day_from = omega arith; day_to = rw e (omega (arith, month_days_lem (leap y) m l)) },
      rw e (omega (arith, month_more (leap y) m r.month_from)),
    )

step_year : (y m d : ℕ) → Real (date y m d) → month_days y m ≤ d → 12 ≤ m → Step (date y m d) (date (y + 1) 1 1)
step_year y m d r h l =
    let e : m ≡ 12 = omega arith in
    let q : month_start (leap y) m ≡ year_days y = rw e (year_month y) in (
      record { from = omega arith; month_from = omega arith; month_to = omega arith; day_from = omega arith; day_to = omega (arith, month_days_lem (leap (y + 1)) 0 (omega arith)) },
      omega (arith, q, month_more (leap y) m r.month_from, year_more y r.from, total_none (λ i. slice_index (months (leap (y + 1))) i)),
    )

next_step : (t : Date) → Real t → Step t (next t)
next_step t r =
    ⊎_elim (λ h. subst (Step t) (sym (next_day t.year t.month t.day h)) (step_day t.year t.month t.day r h))
    (λ h. ⊎_elim (λ l. subst (Step t) (sym (next_month t.year t.month t.day h l)) (step_month t.year t.month t.day r h l))
    (λ l. subst (Step t) (sym (next_year t.year t.month t.day h l)) (step_year t.year t.month t.day r h l))
    (cases_lt t.month 12))
    (cases_lt t.day (month_days t.year t.month))

-- the date at each place is a day that there is, and its place by years and months is that place
pub date_at_lem : (n : ℕ) → Real (date_at n) × (place_of (date_at n) ≡ n)
unfolding date_at total
date_at_lem zero = (record { from = omega arith; month_from = omega arith; month_to = omega arith; day_from = omega arith; day_to = omega arith }, refl)
date_at_lem (suc n) =
    let p = date_at_lem n in
    let s = next_step (date_at n) p.0 in
    (s.0, omega (arith, s.1, p.1))

in_year : (t : Date) → Real t → month_start (leap t.year) (t.month - 1) + (t.day - 1) < year_days t.year
in_year t r =
    omega (
      arith,
      month_more (leap t.year) t.month r.month_from,
      total_up (λ i. slice_index (months (leap t.year)) i) t.month 12 r.month_to,
      year_month t.year,
    )

month_one : (y m d n e : ℕ) → Real (date y m d) → Real (date y n e) → place_of (date y m d) ≡ place_of (date y n e) → m ≡ n
month_one y m d n e r q s =
    let l = leap y in
    let a : m - 1 + 1 ≡ m = omega (arith, r.month_from) in
    let b : n - 1 + 1 ≡ n = omega (arith, q.month_from) in
    let c : m - 1 ≡ n - 1 =
    total_one (λ i. slice_index (months l) i) (m - 1) (n - 1) (month_start l (m - 1) + (d - 1)) (omega arith)
    (rw a (omega (arith, month_more l m r.month_from, r.day_from, r.day_to)))
    (omega (arith, s)) (rw b (omega (arith, s, month_more l n q.month_from, q.day_from, q.day_to))) in
    omega (arith, r.month_from, q.month_from)

same_year : (y m d n e : ℕ) → Real (date y m d) → Real (date y n e) → place_of (date y m d) ≡ place_of (date y n e) → date y m d ≡ date y n e
same_year y m d n e r q s =
    let a : m ≡ n = month_one y m d n e r q s in
    let b : month_start (leap y) (m - 1) ≡ month_start (leap y) (n - 1) = ap (λ (k : ℕ). month_start (leap y) (k - 1)) a in
    let c : d ≡ e = omega (arith, r.day_from, q.day_from, s, b) in
    rw (a, c)

-- a place has one date
pub place_one : (s t : Date) → Real s → Real t → place_of s ≡ place_of t → s ≡ t
place_one s t r q e =
    let sy : s.year + 1 - 1900 ≡ s.year - 1900 + 1 = omega (arith, r.from) in
    let ty : t.year + 1 - 1900 ≡ t.year - 1900 + 1 = omega (arith, q.from) in
    let sm = rw sy at (year_more s.year r.from) in
    let tm = rw ty at (year_more t.year q.from) in
    let y' : s.year - 1900 ≡ t.year - 1900 =
    total_one (λ k. year_days (1900 + k)) (s.year - 1900) (t.year - 1900) (place_of s) (omega arith) (omega (arith, sm, in_year s r)) (omega (arith, e))
    (omega (arith, tm, in_year t q, e)) in
    let y : s.year ≡ t.year = omega (arith, r.from, q.from) in
    subst (λ (x : ℕ). Real (date x t.month t.day) → place_of s ≡ place_of (date x t.month t.day) → s ≡ date x t.month t.day) y
    (λ q' e'. same_year s.year s.month s.day t.month t.day r q' e') q e

-- the date at the place that years and months give
pub at_date : (t : Date) → Real t → date_at (place_of t) ≡ t
at_date t r = let p = date_at_lem (place_of t) in place_one (date_at (place_of t)) t p.0 r p.1

-- the years that the calendar has
pub year_to : (n : ℕ) → n ≤ 109572 → (date_at n).year ≤ 2199
year_to n h =
    let p = date_at_lem n in
    grind (arith, p.1, year_end, total_up (λ k. year_days (1900 + k)) 300 ((date_at n).year - 1900))

pub place_to : (t : Date) → Real t → t.year ≤ 2199 → place_of t ≤ 109572
place_to t r h =
    let e : t.year + 1 - 1900 ≡ t.year - 1900 + 1 = omega (arith, r.from) in
    let m = rw e at (year_more t.year r.from) in
    omega (arith, m, in_year t r, year_end, total_up (λ k. year_days (1900 + k)) (t.year - 1900 + 1) 300 (omega (arith, r.from)))

pub date_one : (m n : ℕ) → date_at m ≡ date_at n → m ≡ n
date_one m n e = sym (date_at_lem m).1 ∙ ap place_of e ∙ (date_at_lem n).1

-- what a date in the calendar is
pub named : (n y m d : ℕ) → n ≤ 109572 → date_at n ≡ date y m d → Real (date y m d) × (y ≤ 2199)
named n y m d h e = (subst Real e (date_at_lem n).0, subst (λ (t : Date). t.year ≤ 2199) e (year_to n h))

-- the date of a place within its year and its month
pub found : (n k p : ℕ) → year_start n ≤ p → p < year_start (n + 1) → k < 12 → month_start (leap (1900 + n)) k ≤ p - year_start n → p - year_start n < month_start (leap (1900 + n)) (k + 1) → date_at p ≡ date (1900 + n) (k + 1) (p - year_start n - month_start (leap (1900 + n)) k + 1)
found n k p a b h c d =
    let y = 1900 + n in
    let t = date y (k + 1) (p - year_start n - month_start (leap y) k + 1) in
    let e : 1900 + n - 1900 ≡ n = omega arith in
    let s : k + 1 - 1 ≡ k = omega arith in
    let r : Real t =
    record { from = omega arith; month_from = omega arith; month_to = omega arith; day_from = omega arith; day_to = rw s (omega (arith, total_more (λ i. slice_index (months (leap y)) i) k)) } in
    let q : place_of t ≡ p = rw (e, s) (omega arith) in
    subst (λ (x : ℕ). date_at x ≡ t) q (at_date t r)

-- the place that the code puts together, and the date that it reads off
pub assembled : (y m d : ℕ) (l : Bool) (a b s : ℕ) → l ≡ leap y → b ≡ month_start l (m - 1) → a ≡ month_start l m → s ≡ year_start (y - 1900) → 1900 ≤ y → y ≤ 2199 → 1 ≤ m → m ≤ 12 → 1 ≤ d → d ≤ a - b → (s + b + (d - 1) ≤ 109572) × (date_at (s + b + (d - 1)) ≡ date y m d)
assembled y m d l a b s el eb ea es h1 h2 h3 h4 h5 h6 =
    let eb' : b ≡ month_start (leap y) (m - 1) = eb ∙ ap (λ (x : Bool). month_start x (m - 1)) el in
    let ea' : a ≡ month_start (leap y) m = ea ∙ ap (λ (x : Bool). month_start x m) el in
    let r : Real (date y m d) = record { from = h1; month_from = h3; month_to = h4; day_from = h5; day_to = omega (arith, month_length y m h3) } in
    let p : place_of (date y m d) ≡ s + b + (d - 1) = omega arith in
    (omega (arith, p, place_to (date y m d) r h2), subst (λ (x : ℕ). date_at x ≡ date y m d) p (at_date (date y m d) r))

pub read_off : (n k p : ℕ) (l : Bool) (s b y m d : ℕ) → l ≡ leap (1900 + n) → s ≡ year_start n → b ≡ month_start l k → year_start n ≤ p → p < year_start (n + 1) → k < 12 → month_start l k ≤ p - s → p - s < month_start l (k + 1) → y ≡ 1900 + n → m ≡ k + 1 → d ≡ p - s - b + 1 → date_at p ≡ date y m d
read_off n k p l s b y m d el es eb h1 h2 h3 h4 h5 ey em ed =
    let f : month_start l k ≡ month_start (leap (1900 + n)) k = ap (λ (x : Bool). month_start x k) el in
    let g : month_start l (k + 1) ≡ month_start (leap (1900 + n)) (k + 1) = ap (λ (x : Bool). month_start x (k + 1)) el in
    let e : p - year_start n - month_start (leap (1900 + n)) k + 1 ≡ d = omega arith in
    rw (ey, em) (subst (λ (x : ℕ). date_at p ≡ date (1900 + n) (k + 1) x) e (found n k p h1 h2 h3 (omega arith) (omega arith)))

-- a date by its place
placed : (n : ℕ) (t : Date) → Real t → place_of t ≡ n → date_at n ≡ t
placed n t r p = subst (λ (k : ℕ). date_at k ≡ t) p (at_date t r)

pub last_day_lem : date_at 109572 ≡ date 2199 12 31
unfolding total
last_day_lem =
    placed 109572 (date 2199 12 31)
    record { from = omega arith; month_from = omega arith; month_to = omega arith; day_from = omega arith; day_to = omega arith } refl

pub leap_day : date_at 36583 ≡ date 2000 2 29
unfolding total
leap_day =
    placed 36583 (date 2000 2 29)
    record { from = omega arith; month_from = omega arith; month_to = omega arith; day_from = omega arith; day_to = omega arith } refl

-- the places of a year's dates
pub year_holds : (n : ℕ) → (year_start ((date_at n).year - 1900) ≤ n) × (n < year_start ((date_at n).year - 1900 + 1))
year_holds n =
    let p = date_at_lem n in
    let y = (date_at n).year in
    let e : y + 1 - 1900 ≡ y - 1900 + 1 = omega (arith, p.0.from) in
    let m = rw e at (year_more y p.0.from) in
    (omega (arith, p.1), omega (arith, p.1, m, in_year (date_at n) p.0))
