use Rattle.std.proofs.Common.{◌≡◌, ℕ, List, length, take, drop, sym, ap, ◌∙◌, arith}
use Rattle.std.proofs.lemmas.List.{length-take, length-drop}
use Rattle.std.proofs.lemmas.Result.{MatchResult-weaker}
use Rattle.gregorian.specs.Dates.{date, date_at, date_text}
use Rattle.calendar.proofs.Parts.{part_read, part_refused}
use Rattle.gregorian.specs.DateTexts.{text_bytes, text_one, narrow}
use Rattle.gregorian.proofs.days.DayPrintable.read.Goals as goal

front : (bs : List ℕ) → length bs ≡ 10 → length (take 4 bs) ≡ 4
front bs l = simp length-take (omega arith)

middle : (bs : List ℕ) → length bs ≡ 10 → length (take 2 (drop 5 bs)) ≡ 2
middle bs l = simp (length-take, length-drop) (omega arith)

back : (bs : List ℕ) → length bs ≡ 10 → length (take 2 (drop 8 bs)) ≡ 2
back bs l = simp (length-take, length-drop) (omega arith)

pub returns-in_err-year : goal.returns-in_err-year
returns-in_err-year c =
    let bs = c.args.bytes.now in
    part_refused 4 (take 4 bs) c.number.result _ c.from_residual.result _ _ (front bs c.if-bytes-ne-WIDTH.false)
    (sym c.ok_or.ensures.value ∙ c.in_err-year.was) c.number.ensures c.from_residual.ensures.1
    (λ none n h e. none (date_at n).year (omega (arith, (narrow n h).0)) ((narrow n h).0, ap (λ (xs : List ℕ). take 4 xs) e))

pub returns-in_err-month : goal.returns-in_err-month
returns-in_err-month c =
    let bs = c.args.bytes.now in
    part_refused 2 (take 2 (drop 5 bs)) c.number-2.result _ c.from_residual-in_err-month.result _ _ (middle bs c.if-bytes-ne-WIDTH.false)
    (sym c.ok_or-2.ensures.value ∙ c.in_err-month.was) c.number-2.ensures c.from_residual-in_err-month.ensures.1
    (λ none n h e. none (date_at n).month (omega (arith, (narrow n h).1)) ((narrow n h).1, ap (λ (xs : List ℕ). take 2 (drop 5 xs)) e))

pub returns-in_err-day : goal.returns-in_err-day
returns-in_err-day c =
    let bs = c.args.bytes.now in
    part_refused 2 (take 2 (drop 8 bs)) c.number-3.result _ c.from_residual-in_err-day.result _ _ (back bs c.if-bytes-ne-WIDTH.false)
    (sym c.ok_or-3.ensures.value ∙ c.in_err-day.was) c.number-3.ensures c.from_residual-in_err-day.ensures.1
    (λ none n h e. none (date_at n).day (omega (arith, (narrow n h).2)) ((narrow n h).2, ap (λ (xs : List ℕ). take 2 (drop 8 xs)) e))

pub returns : goal.returns
returns c =
    let bs = c.args.bytes.now in
    let l = c.if-bytes-ne-WIDTH.false in
    let y = part_read 4 (take 4 bs) c.number.result c.in_ok-year.year (front bs l) (sym c.ok_or.ensures.value ∙ c.in_ok-year.was) c.number.ensures in
    let m = part_read 2 (take 2 (drop 5 bs)) c.number-2.result c.in_ok-month.month (middle bs l) (sym c.ok_or-2.ensures.value ∙ c.in_ok-month.was) c.number-2.ensures in
    let d = part_read 2 (take 2 (drop 8 bs)) c.number-3.result c.in_ok-day.day (back bs l) (sym c.ok_or-3.ensures.value ∙ c.in_ok-day.was) c.number-3.ensures in
    let t = date c.in_ok-year.year c.in_ok-month.month c.in_ok-day.day in
    let w = text_bytes bs t l (omega arith) (omega arith) y.1 m.1 d.1 in
    MatchResult-weaker c.from_parts.result c.from_parts.ensures (λ s e. ap date_text e ∙ w)
    (λ r f. (
      f.0,
      λ k h e.
          let n = narrow k h in
          f.1 k h (text_one (date_at k) t n.0 y.0 n.1 m.0 n.2 d.0 (e ∙ sym w)),
    ))
