-- A date's text has ten bytes and tells the date.
use Rattle.std.specs.Prelude.{◌≡◌, ℕ, ◌-◌, ◌<◌, ◌≤◌, List, ◌∷◌, ◌++◌, length, take, drop, slice_index}
use Rattle.std.proofs.Common.{sym, ap, ◌∙◌, arith}
use Rattle.std.proofs.lemmas.List.{length-drop, get_or-drop, drop-drop, take_all}
use Rattle.std.proofs.Math.Seq.{split_at}
use Rattle.calendar.specs.Decimals.{decimal}
use Rattle.calendar.proofs.Decimals.{one_number}
use Rattle.gregorian.specs.Years.{leap}
use Rattle.gregorian.specs.Dates.{Date, date_at, date_text}
use Rattle.gregorian.specs.Counting.{month_most}
use Rattle.gregorian.specs.DatesLemmas.{date_at_lem, date_one, year_to}

-- a text tells its date
pub text_one : (s t : Date) → s.year < 10000 → t.year < 10000 → s.month < 100 → t.month < 100 → s.day < 100 → t.day < 100 → date_text s ≡ date_text t → s ≡ t
text_one s t a b c d f g e =
    let y = one_number 4 s.year t.year a b (ap (λ (xs : List ℕ). take 4 xs) e) in
    let m = one_number 2 s.month t.month c d (ap (λ (xs : List ℕ). take 2 (drop 5 xs)) e) in
    let n = one_number 2 s.day t.day f g (ap (λ (xs : List ℕ). take 2 (drop 8 xs)) e) in
    rw (y, m, n)

-- each number of a date fits its digits
pub narrow : (n : ℕ) → n ≤ 109572 → ((date_at n).year < 10000) × ((date_at n).month < 100) × ((date_at n).day < 100)
narrow n h =
    let r = (date_at_lem n).0 in (
      omega (arith, year_to n h),
      omega (arith, r.month_to),
      omega (arith, r.day_to, r.month_from, r.month_to, month_most (leap (date_at n).year) ((date_at n).month - 1) (omega (arith, r.month_from, r.month_to))),
    )

pub text_place : (m n : ℕ) → m ≤ 109572 → n ≤ 109572 → date_text (date_at m) ≡ date_text (date_at n) → m ≡ n
text_place m n a b e =
    let p = narrow m a in
    let q = narrow n b in
    date_one m n (text_one (date_at m) (date_at n) p.0 q.0 p.1 q.1 p.2 q.2 e)

-- ten bytes, put together again
abbrev joint : List ℕ → List ℕ → List ℕ → List ℕ
joint a b c = a ++ (45 ∷ (b ++ (45 ∷ c)))

ten : (bs : List ℕ) → length bs ≡ 10 → slice_index bs 4 ≡ 45 → slice_index bs 7 ≡ 45 → bs ≡ joint (take 4 bs) (take 2 (drop 5 bs)) (take 2 (drop 8 bs))
ten bs l a b =
    let p = rw a at (split_at bs 4 0 (omega arith)) in
    let n : length (drop 5 bs) ≡ 5 = length-drop 5 bs ∙ ap (λ (x : ℕ). x - 5) l in
    let q = rw (get_or-drop 5 bs 2 0, b) at (split_at (drop 5 bs) 2 0 (omega arith)) in
    let d : drop 3 (drop 5 bs) ≡ drop 8 bs = drop-drop 3 5 bs in
    let n' : length (drop 8 bs) ≡ 2 = length-drop 8 bs ∙ ap (λ (x : ℕ). x - 8) l in
    let t : take 2 (drop 8 bs) ≡ drop 8 bs = take_all 2 (drop 8 bs) (omega arith) in
    p ∙ ap (λ (xs : List ℕ). take 4 bs ++ (45 ∷ xs)) (q ∙ ap (λ (xs : List ℕ). take 2 (drop 5 bs) ++ (45 ∷ xs)) (d ∙ sym t))

pub text_bytes : (bs : List ℕ) (t : Date) → length bs ≡ 10 → slice_index bs 4 ≡ 45 → slice_index bs 7 ≡ 45 → decimal 4 t.year ≡ take 4 bs → decimal 2 t.month ≡ take 2 (drop 5 bs) → decimal 2 t.day ≡ take 2 (drop 8 bs) → date_text t ≡ bs
text_bytes bs t l a b y m d =
    ap (λ (xs : List ℕ). joint xs (decimal 2 t.month) (decimal 2 t.day)) y
    ∙ ap (λ (xs : List ℕ). joint (take 4 bs) xs (decimal 2 t.day)) m
    ∙ ap (λ (xs : List ℕ). joint (take 4 bs) (take 2 (drop 5 bs)) xs) d
    ∙ sym (ten bs l a b)
