-- Stepping from week to week and counting by years come to the same weeks, and a week's year is that of its Thursday.
use Rattle.std.specs.Prelude.{◌≡◌, ℕ, zero, suc, ◌+◌, ◌-◌, ◌*◌, ◌/◌, ◌%◌, ◌<◌, ◌≤◌, Bool, true, false, cond, ◌&&◌, ◌||◌, ◌==◌, nat_lt, refl}
use Rattle.std.proofs.Common.{sym, ap, subst, ◌∙◌, ⊎_elim, arith}
use Rattle.std.proofs.lemmas.Bool.{cases_lt, lt-ltb, le-ltb, cond-true, cond-false}
use Rattle.std.proofs.lemmas.Bool.Decides.{nat_tests}
use Rattle.gregorian.specs.Totals.{total}
use Rattle.gregorian.specs.Years.{leap, year_start}
use Rattle.gregorian.specs.Dates.{date_at}
use Rattle.gregorian.specs.Weeks.{WeekDate, week, weeks, next_week, week_at, week_start, Real, place_of}
use Rattle.gregorian.specs.TotalsLemmas.{total_more, total_up, total_one}
use Rattle.gregorian.specs.Counting.{year_end, year_formula_lem, year_formula}
use Rattle.gregorian.specs.DatesLemmas.{date_at_lem, year_holds}

-- a year of 365 or 366 days from a weekday, and the weeks whose Thursdays it has
one_year : (x : ℕ) (l : Bool) → (x + cond l 366 365 + 3) / 7 ≡ (x + 3) / 7 + cond (x % 7 == 3 || (l && x % 7 == 2)) 53 52
one_year x true = grind (arith, nat_tests)
one_year x false = grind (arith, nat_tests)

weeks_of : (n : ℕ) → weeks (1900 + n) ≡ cond (year_start n % 7 == 3 || (leap (1900 + n) && year_start n % 7 == 2)) 53 52
weeks_of n =
    let e : 1900 + n - 1900 ≡ n = omega arith in
    ap (λ (m : ℕ). cond (year_start m % 7 == 3 || (leap (1900 + n) && year_start m % 7 == 2)) 53 52) e

pub week_formula : (n : ℕ) → (year_start n + 3) / 7 ≡ week_start n
unfolding total
week_formula zero = refl
week_formula (suc n) =
    one_year (year_start n) (leap (1900 + n)) ∙ ap (λ (w : ℕ). (year_start n + 3) / 7 + w) (sym (weeks_of n))
    ∙ ap (λ (w : ℕ). w + weeks (1900 + n)) (week_formula n)

pub week_start_is : (n : ℕ) → week_start n ≡ (year_start n + 3) / 7
week_start_is n = sym (week_formula n)

pub week_end : week_start 300 ≡ 15653
week_end = week_start_is 300 ∙ ap (λ (x : ℕ). (x + 3) / 7) year_end

pub week_more : (y : ℕ) → 1900 ≤ y → week_start (y - 1900 + 1) ≡ week_start (y - 1900) + weeks y
week_more y h =
    let s : 1900 + (y - 1900) ≡ y = omega arith in
    subst (λ (k : ℕ). week_start (y - 1900 + 1) ≡ week_start (y - 1900) + weeks k) s (total_more (λ k. weeks (1900 + k)) (y - 1900))

pub some_weeks : (y : ℕ) → (1 ≤ weeks y) × (weeks y ≤ 53)
some_weeks y = grind (arith, nat_tests)

abbrev Step : WeekDate → WeekDate → Type 0
Step t u = Real u × (place_of u ≡ place_of t + 1)

next_week_lem : (y w : ℕ) → w < weeks y → next_week (week y w) ≡ week y (w + 1)
unfolding next_week
next_week_lem y w h = cond-true (nat_lt w (weeks y)) _ _ (lt-ltb w (weeks y) h)

next_year : (y w : ℕ) → weeks y ≤ w → next_week (week y w) ≡ week (y + 1) 1
unfolding next_week
next_year y w h = cond-false (nat_lt w (weeks y)) _ _ (le-ltb w (weeks y) h)

step_week : (y w : ℕ) → Real (week y w) → w < weeks y → Step (week y w) (week y (w + 1))
step_week y w r h = (record { from = r.from; week_from = omega arith; week_to = omega arith }, omega arith)

step_year : (y w : ℕ) → Real (week y w) → weeks y ≤ w → Step (week y w) (week (y + 1) 1)
step_year y w r h =
    let e : y - 1900 + 1 ≡ y + 1 - 1900 = omega (arith, r.from) in
    let m : week_start (y + 1 - 1900) ≡ week_start (y - 1900) + weeks y =
    subst (λ (k : ℕ). week_start k ≡ week_start (y - 1900) + weeks y) e (week_more y r.from) in
    (record { from = omega (arith, r.from); week_from = omega arith; week_to = (some_weeks (y + 1)).0 }, omega (arith, m))

next_step : (t : WeekDate) → Real t → Step t (next_week t)
next_step t r =
    ⊎_elim (λ h. subst (Step t) (sym (next_week_lem t.year t.week h)) (step_week t.year t.week r h))
    (λ h. subst (Step t) (sym (next_year t.year t.week h)) (step_year t.year t.week r h))
    (cases_lt t.week (weeks t.year))

-- the week at each place is a week that there is, and its place by years is that place
pub week_at_lem : (n : ℕ) → Real (week_at n) × (place_of (week_at n) ≡ n)
unfolding week_at total
week_at_lem zero = (record { from = omega arith; week_from = omega arith; week_to = omega arith }, refl)
week_at_lem (suc n) =
    let p = week_at_lem n in
    let s = next_step (week_at n) p.0 in
    (s.0, omega (arith, s.1, p.1))

-- a place has one week
pub place_one : (s t : WeekDate) → Real s → Real t → place_of s ≡ place_of t → s ≡ t
place_one s t r q e =
    let sm = week_more s.year r.from in
    let tm = week_more t.year q.from in
    let y' : s.year - 1900 ≡ t.year - 1900 =
    total_one (λ k. weeks (1900 + k)) (s.year - 1900) (t.year - 1900) (place_of s) (omega arith) (omega (arith, sm, r.week_from, r.week_to)) (omega (arith, e))
    (omega (arith, tm, q.week_from, q.week_to, e)) in
    let y : s.year ≡ t.year = omega (arith, r.from, q.from) in
    let b : week_start (s.year - 1900) ≡ week_start (t.year - 1900) = ap (λ (k : ℕ). week_start k) y' in
    let w : s.week ≡ t.week = omega (arith, e, b, r.week_from, q.week_from) in
    rw (y, w)

pub at_week : (t : WeekDate) → Real t → week_at (place_of t) ≡ t
at_week t r = let p = week_at_lem (place_of t) in place_one (week_at (place_of t)) t p.0 r p.1

pub year_to : (n : ℕ) → n ≤ 15652 → (week_at n).year ≤ 2199
year_to n h =
    let p = week_at_lem n in
    grind (arith, p.1, week_end, total_up (λ k. weeks (1900 + k)) 300 ((week_at n).year - 1900))

pub place_to : (t : WeekDate) → Real t → t.year ≤ 2199 → place_of t ≤ 15652
place_to t r h =
    omega (arith, week_more t.year r.from, r.week_from, r.week_to, week_end, total_up (λ k. weeks (1900 + k)) (t.year - 1900 + 1) 300 (omega (arith, r.from)))

pub named : (n y w : ℕ) → n ≤ 15652 → week_at n ≡ week y w → Real (week y w) × (y ≤ 2199)
named n y w h e = (subst Real e (week_at_lem n).0, subst (λ (t : WeekDate). t.year ≤ 2199) e (year_to n h))

-- the place that the code puts together, and the week that it reads off: the year of a week is the year of its Thursday
pub assembled : (y w a b : ℕ) → a ≡ week_start (y - 1900) → b ≡ week_start (y - 1900 + 1) → 1900 ≤ y → y ≤ 2199 → 1 ≤ w → w ≤ b - a → (a + (w - 1) ≤ 15652) × (week_at (a + (w - 1)) ≡ week y w)
assembled y w a b ea eb h1 h2 h3 h4 =
    let r : Real (week y w) = record { from = h1; week_from = h3; week_to = omega (arith, week_more y h1) } in
    let p : place_of (week y w) ≡ a + (w - 1) = omega arith in
    (omega (arith, p, place_to (week y w) r h2), subst (λ (x : ℕ). week_at x ≡ week y w) p (at_week (week y w) r))

pub read_off : (n p : ℕ) → year_start n ≤ 7 * p + 3 → 7 * p + 3 < year_start (n + 1) → (week_start n ≤ p) × (week_at p ≡ week (1900 + n) (p - week_start n + 1))
read_off n p a b =
    let e : 1900 + n - 1900 ≡ n = omega arith in
    let l : week_start n ≤ p = omega (arith, week_formula n) in
    let h : p < week_start (n + 1) = omega (arith, week_formula (n + 1)) in
    let t = week (1900 + n) (p - week_start n + 1) in
    let r : Real t = record { from = omega arith; week_from = omega arith; week_to = omega (arith, total_more (λ k. weeks (1900 + k)) n) } in
    let q : place_of t ≡ p = rw e (omega arith) in
    (l, subst (λ (x : ℕ). week_at x ≡ t) q (at_week t r))

pub week_one : (m n : ℕ) → week_at m ≡ week_at n → m ≡ n
week_one m n e = sym (week_at_lem m).1 ∙ ap place_of e ∙ (week_at_lem n).1

-- a week by the formulas
in_year : (n p : ℕ) → n < 300 → year_formula n ≤ 7 * p + 3 → 7 * p + 3 < year_formula (n + 1) → week_at p ≡ week (1900 + n) (p - (year_formula n + 3) / 7 + 1)
in_year n p few low high =
    let a = year_formula_lem n (omega arith) in
    let b = year_formula_lem (n + 1) (omega arith) in
    let w : week_start n ≡ (year_formula n + 3) / 7 = week_start_is n ∙ sym (ap (λ (x : ℕ). (x + 3) / 7) a) in
    subst (λ (x : ℕ). week_at p ≡ week (1900 + n) (p - x + 1)) w (read_off n p (omega (arith, a)) (omega (arith, b))).1

pub last_week_lem : week_at 15652 ≡ week 2199 52
last_week_lem = in_year 299 15652 (omega arith) (omega arith) (omega arith)

pub thursdays : (n : ℕ) → (week_at n).year ≡ (date_at (7 * n + 3)).year
thursdays n =
    let y = (date_at (7 * n + 3)).year in
    let h = year_holds (7 * n + 3) in
    let e : 1900 + (y - 1900) ≡ y = omega (arith, (date_at_lem (7 * n + 3)).0.from) in
    ap (λ (t : WeekDate). t.year) (read_off (y - 1900) n h.0 h.1).1 ∙ e

-- 2020 is the year 120 from 1900 on
pub long_year : (week_at 6313 ≡ week 2020 53) × (week_at 6314 ≡ week 2021 1)
long_year = (
  in_year 120 6313 (omega arith) (omega arith) (omega arith),
  in_year 121 6314 (omega arith) (omega arith) (omega arith),
)
