-- Which bytes are signs.
use Rattle.std.proofs.Common.{◌≡◌, ℕ, ◌⊎◌, ap, ⊎_elim, arith}
use Rattle.std.proofs.lemmas.Bool.Decides.{nat_tests}
use Rattle.notation.specs.declared.marks.Mark.{Mark}
use Rattle.notation.specs.declared.marks.Mark.TheVariants.{Sign, Digit, Letter, Separator}
use Rattle.notation.specs.Marks.{plus, mark_of}

-- only `+` is a sign
pub sign_plus : (b : ℕ) → mark_of b ≡ Sign → b ≡ plus
sign_plus b e = grind (arith, nat_tests)

-- what is a digit, a letter or a separator is no sign
pub passed : (b : ℕ) (m : Mark) → m ≡ mark_of b → (m ≡ Digit) ⊎ ((m ≡ Letter) ⊎ (m ≡ Separator)) → b ≡ plus → ⊥
passed b m r s e =
    let p : mark_of b ≡ Sign = ap mark_of e in
    ⊎_elim (λ a. let z : ◌≡◌ {A = ℕ} 0 1 = cc in omega arith)
    (λ t. ⊎_elim (λ a. let z : ◌≡◌ {A = ℕ} 0 1 = cc in omega arith) (λ a. let z : ◌≡◌ {A = ℕ} 0 1 = cc in omega arith) t) s
