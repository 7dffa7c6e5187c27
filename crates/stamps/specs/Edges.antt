-- A listing as its edges: the low of each range, and the place past its high.
use Rattle.std.specs.Prelude.{ℕ, ◌-◌, ◌%◌, ◌<◌, Bool, true, false, not, List, [], ◌∷◌, length, ◌==◌, nat_le, slice_index}
use Rattle.stamps.specs.Ranges.{range}
use Rattle.stamps.specs.declared.sets.Range.{Range}

abbrev pub ranges : List ℕ → List Range
ranges [] = []
ranges (low ∷ []) = []
ranges (low ∷ past ∷ es) = range low (past - 1) ∷ ranges es

-- edges rise
abbrev pub Rises : List ℕ → Type 0
Rises es = (i j : ℕ) → i < j → j < length es → slice_index es i < slice_index es j

abbrev pub flip : Bool → Bool → Bool
flip true b = not b
flip false b = b

-- an odd number of the edges stand at p or below
abbrev pub inside : List ℕ → ℕ → Bool
inside [] p = false
inside (e ∷ es) p = flip (nat_le e p) (inside es p)

abbrev pub odd : ℕ → Bool
odd n = n % 2 == 1
