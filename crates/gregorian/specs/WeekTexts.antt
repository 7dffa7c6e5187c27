-- A week's text has eight bytes and tells the week.
use Rattle.std.specs.Prelude.{◌≡◌, ℕ, ◌-◌, ◌<◌, ◌≤◌, List, ◌∷◌, ◌++◌, length, take, drop, slice_index}
use Rattle.std.proofs.Common.{sym, ap, ◌∙◌, arith}
use Rattle.std.proofs.lemmas.List.{length-drop, get_or-drop, drop-drop, take_all}
use Rattle.std.proofs.Math.Seq.{split_at}
use Rattle.calendar.specs.Decimals.{decimal}
use Rattle.calendar.proofs.Decimals.{one_number}
use Rattle.gregorian.specs.Weeks.{WeekDate, week_at, week_text}
use Rattle.gregorian.specs.WeekDates.{some_weeks, week_at_lem, week_one, year_to}

pub text_one : (s t : WeekDate) → s.year < 10000 → t.year < 10000 → s.week < 100 → t.week < 100 → week_text s ≡ week_text t → s ≡ t
text_one s t a b c d e =
    let y = one_number 4 s.year t.year a b (ap (λ (xs : List ℕ). take 4 xs) e) in
    let w = one_number 2 s.week t.week c d (ap (λ (xs : List ℕ). take 2 (drop 6 xs)) e) in
    rw (y, w)

pub narrow : (n : ℕ) → n ≤ 15652 → ((week_at n).year < 10000) × ((week_at n).week < 100)
narrow n h =
    let r = (week_at_lem n).0 in
    (omega (arith, year_to n h), omega (arith, r.week_to, some_weeks (week_at n).year))

pub text_place : (m n : ℕ) → m ≤ 15652 → n ≤ 15652 → week_text (week_at m) ≡ week_text (week_at n) → m ≡ n
text_place m n a b e =
    let p = narrow m a in
    let q = narrow n b in
    week_one m n (text_one (week_at m) (week_at n) p.0 q.0 p.1 q.1 e)

-- eight bytes, put together again
abbrev joint : List ℕ → List ℕ → List ℕ
joint a b = a ++ (45 ∷ (87 ∷ b))

eight : (bs : List ℕ) → length bs ≡ 8 → slice_index bs 4 ≡ 45 → slice_index bs 5 ≡ 87 → bs ≡ joint (take 4 bs) (take 2 (drop 6 bs))
eight bs l a b =
    let p = rw a at (split_at bs 4 0 (omega arith)) in
    let n : length (drop 5 bs) ≡ 3 = length-drop 5 bs ∙ ap (λ (x : ℕ). x - 5) l in
    let q = rw (get_or-drop 5 bs 0 0, b) at (split_at (drop 5 bs) 0 0 (omega arith)) in
    let d : drop 1 (drop 5 bs) ≡ drop 6 bs = drop-drop 1 5 bs in
    let n' : length (drop 6 bs) ≡ 2 = length-drop 6 bs ∙ ap (λ (x : ℕ). x - 6) l in
    let t : take 2 (drop 6 bs) ≡ drop 6 bs = take_all 2 (drop 6 bs) (omega arith) in
    p ∙ ap (λ (xs : List ℕ). take 4 bs ++ (45 ∷ xs)) (q ∙ ap (λ (xs : List ℕ). 87 ∷ xs) (d ∙ sym t))

pub text_bytes : (bs : List ℕ) (t : WeekDate) → length bs ≡ 8 → slice_index bs 4 ≡ 45 → slice_index bs 5 ≡ 87 → decimal 4 t.year ≡ take 4 bs → decimal 2 t.week ≡ take 2 (drop 6 bs) → week_text t ≡ bs
text_bytes bs t l a b y w =
    ap (λ (xs : List ℕ). joint xs (decimal 2 t.week)) y ∙ ap (λ (xs : List ℕ). joint (take 4 bs) xs) w ∙ sym (eight bs l a b)
