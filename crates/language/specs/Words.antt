-- The words of a line: what stands between spaces.
use Rattle.std.specs.Prelude.{◌≡◌, ℕ, ◌<◌, List, [], ◌∷◌, ◌++◌, map, length, vec_items, Vec, ◌≢◌, slice_index}
use Rattle.std.specs.Borrow.{Bor}
use Rattle.std.specs.List.{AllByRecursion}

-- the byte that separates words
abbrev pub space : ℕ
space = 32

abbrev pub Blank : List ℕ → Type 0
Blank bytes = AllByRecursion (λ b. b ≡ space) bytes

abbrev pub Solid : List ℕ → Type 0
Solid bytes = AllByRecursion (λ b. b ≢ space) bytes

-- the line is spaces, the word and the rest; the word ends at a space or with the line, and is empty only with it
pub record First (line word rest : List ℕ) : Type 0 where
  pub gap : List ℕ
  pub cut : line ≡ gap ++ (word ++ rest)
  pub blank : Blank gap
  pub solid : Solid word
  pub ends : 0 < length rest → slice_index rest 0 ≡ space
  pub none : length word ≡ 0 → length rest ≡ 0

-- the list is the line's words, in order
abbrev pub Words : List ℕ → List (List ℕ) → Type 0
Words line [] = Blank line
Words line (w ∷ ws) = (0 < length w) × ((rest : List ℕ) × First line w rest × Words rest ws)

-- the words that a vector of borrowed words holds
abbrev pub held : {Z : Type 0} → Vec (Bor (List ℕ)) Z → List (List ℕ)
held v = map (λ x. x.now) (vec_items v)

-- the texts of borrowed words
abbrev pub texts : List (Bor (List ℕ)) → List (List ℕ)
texts ws = map (λ x. x.now) ws
