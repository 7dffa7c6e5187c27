-- What a line's first word says of the line.
use Rattle.std.proofs.Common.{◌≡◌, ℕ, ◌<◌, List, [], ◌∷◌, ◌++◌, length, get_or, sym, ap, ◌∙◌, subst, ⊎_elim, arith}
use Rattle.std.proofs.ByRecursion.{All-get_or}
use Rattle.std.proofs.lemmas.List.{append-nil, length-append, get_or_append_left, nil_from_length}
use Rattle.std.proofs.lemmas.Bool.{cases_lt}
use Rattle.language.specs.Words.{space, Blank, First, Words}

pub shorter : (line word rest : List ℕ) → First line word rest → 0 < length word → length rest < length line
shorter line word rest f h =
    omega (arith, ap length f.cut, length-append f.gap (word ++ rest), length-append word rest)

-- no word is left
pub blank_line : (line word rest : List ℕ) → First line word rest → length word ≡ 0 → Words line []
blank_line line word rest f h =
    let w : word ≡ [] = nil_from_length word h in
    let r : rest ≡ [] = nil_from_length rest (f.none h) in
    let g : line ≡ f.gap = f.cut ∙ ap (λ (xs : List ℕ). f.gap ++ (xs ++ rest)) w ∙ ap (λ (xs : List ℕ). f.gap ++ xs) r ∙ append-nil f.gap in
    subst Blank (sym g) f.blank

second : (xs ys : List ℕ) → Blank (xs ++ ys) → Blank ys
second [] ys b = b
second (x ∷ xs) ys b = second xs ys b.1

-- a blank line has no word
pub wordless : (line word rest : List ℕ) → First line word rest → Blank line → length word ≡ 0
wordless line word rest f b =
    ⊎_elim
    (λ some.
    let whole : Blank (word ++ rest) = second f.gap (word ++ rest) (subst Blank f.cut b) in
    let first : get_or (word ++ rest) 0 0 ≡ space = All-get_or (λ x. x ≡ space) (word ++ rest) 0 0 (omega (arith, length-append word rest)) whole in
    absurd (All-get_or (λ x. x ≡ space → ⊥) word 0 0 some f.solid (sym (get_or_append_left word rest 0 0 some) ∙ first)))
    (λ none. omega arith)
    (cases_lt 0 (length word))
