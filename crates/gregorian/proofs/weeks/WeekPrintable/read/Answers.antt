use Rattle.std.proofs.Common.{◌≡◌, ℕ, List, length, take, drop, sym, ap, ◌∙◌, arith}
use Rattle.std.proofs.lemmas.List.{length-take, length-drop}
use Rattle.std.proofs.lemmas.Result.{MatchResult-weaker}
use Rattle.gregorian.specs.Weeks.{week, week_at, week_text}
use Rattle.calendar.proofs.Parts.{part_read, part_refused}
use Rattle.gregorian.specs.WeekTexts.{text_bytes, text_one, narrow}
use Rattle.gregorian.proofs.weeks.WeekPrintable.read.Goals as goal

front : (bs : List ℕ) → length bs ≡ 8 → length (take 4 bs) ≡ 4
front bs l = simp length-take (omega arith)

back : (bs : List ℕ) → length bs ≡ 8 → length (take 2 (drop 6 bs)) ≡ 2
back bs l = simp (length-take, length-drop) (omega arith)

pub returns-in_err-year : goal.returns-in_err-year
returns-in_err-year c =
    let bs = c.args.bytes.now in
    part_refused 4 (take 4 bs) c.number.result _ c.from_residual.result _ _ (front bs c.if-bytes-ne-WIDTH.false)
    (sym c.ok_or.ensures.value ∙ c.in_err-year.was) c.number.ensures c.from_residual.ensures.1
    (λ none n h e. none (week_at n).year (omega (arith, (narrow n h).0)) ((narrow n h).0, ap (λ (xs : List ℕ). take 4 xs) e))

pub returns-in_err-week : goal.returns-in_err-week
returns-in_err-week c =
    let bs = c.args.bytes.now in
    part_refused 2 (take 2 (drop 6 bs)) c.number-2.result _ c.from_residual-in_err-week.result _ _ (back bs c.if-bytes-ne-WIDTH.false)
    (sym c.ok_or-2.ensures.value ∙ c.in_err-week.was) c.number-2.ensures c.from_residual-in_err-week.ensures.1
    (λ none n h e. none (week_at n).week (omega (arith, (narrow n h).1)) ((narrow n h).1, ap (λ (xs : List ℕ). take 2 (drop 6 xs)) e))

pub returns : goal.returns
returns c =
    let bs = c.args.bytes.now in
    let l = c.if-bytes-ne-WIDTH.false in
    let y = part_read 4 (take 4 bs) c.number.result c.in_ok-year.year (front bs l) (sym c.ok_or.ensures.value ∙ c.in_ok-year.was) c.number.ensures in
    let w = part_read 2 (take 2 (drop 6 bs)) c.number-2.result c.in_ok-week.week (back bs l) (sym c.ok_or-2.ensures.value ∙ c.in_ok-week.was) c.number-2.ensures in
    let t = week c.in_ok-year.year c.in_ok-week.week in
    let x = text_bytes bs t l (omega arith) (omega arith) y.1 w.1 in
    MatchResult-weaker c.from_parts.result c.from_parts.ensures (λ s e. ap week_text e ∙ x)
    (λ r f. (
      f.0,
      λ k h e.
          let n = narrow k h in
          f.1 k h (text_one (week_at k) t n.0 y.0 n.1 w.0 (e ∙ sym x)),
    ))
