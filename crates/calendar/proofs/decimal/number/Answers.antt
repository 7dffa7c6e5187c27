use Rattle.std.proofs.Common.{ℕ, ◌+◌, ◌-◌, ◌*◌, ◌^◌, ◌<◌, get_or, arith}
use Rattle.calendar.proofs.Decimals.{one_more, no_number, too_large}
use Rattle.calendar.proofs.decimal.number.Goals as goal

pub returns-in_default : goal.returns-in_default
returns-in_default c n fits s = no_number c.args.bytes.now c.loop-b.b-index (omega arith) (λ d. omega (arith, c.in_default)) n s.1

pub returns-in_default-2 : goal.returns-in_default-2
returns-in_default-2 c n fits s = no_number c.args.bytes.now c.loop-b.b-index (omega arith) (λ d. omega (arith, c.in_default)) n s.1

pub returns-in_err-checked_mul : goal.returns-in_err-checked_mul
returns-in_err-checked_mul c =
    let fails : c.loop-b.n * 10 < 2 ^ 32 → ⊥ = c.in_err-checked_mul.ensures in
    let d : ℕ = get_or c.args.bytes.now c.loop-b.b-index 0 - 48 in
    rw c.from_residual.ensures
    (too_large c.args.bytes.now (c.loop-b.b-index + 1) _ (omega arith) (one_more c.args.bytes.now c.loop-b.b-index c.loop-b.n d (omega arith) (omega (arith, c.in-48-to-57)) (omega (arith, c.in-48-to-57)) c.loop-b.invariant) (omega arith))

pub returns-in_err-n : goal.returns-in_err-n
returns-in_err-n c =
    let fails : c.in_ok-checked_mul.field-0 + c.from-digit.result < 2 ^ 32 → ⊥ = c.in_err-n.ensures in
    let d : ℕ = get_or c.args.bytes.now c.loop-b.b-index 0 - 48 in
    rw c.from_residual-in_err-n.ensures
    (too_large c.args.bytes.now (c.loop-b.b-index + 1) _ (omega arith) (one_more c.args.bytes.now c.loop-b.b-index c.loop-b.n d (omega arith) (omega (arith, c.in-48-to-57)) (omega (arith, c.in-48-to-57)) c.loop-b.invariant) (omega (arith, c.in_ok-checked_mul.ensures, c.from-digit.ensures)))
