-- What bytes are to a point's text.
use Rattle.std.specs.Prelude.{◌≡◌, ℕ, ◌<◌, cond, ◌&&◌, ◌||◌, List, length, ◌==◌, ◌≢◌, nat_le, slice_index}
use Rattle.std.specs.List.{AllByRecursion}
use Rattle.notation.specs.declared.marks.Mark.{Mark}
use Rattle.notation.specs.declared.marks.Mark.TheVariants.{Sign, Digit, Letter, Separator, Stray}

-- the byte `+`
abbrev pub plus : ℕ
plus = 43

-- `+`; `0` to `9`; `A` to `Z`; `-` and `/`; any other byte
abbrev pub mark_of : ℕ → Mark
mark_of b =
    cond (b == plus) Sign
    (cond (nat_le 48 b && nat_le b 57) Digit
    (cond (nat_le 65 b && nat_le b 90) Letter
    (cond (b == 45 || b == 47) Separator Stray)))

-- the byte x stands nowhere among the bytes
abbrev pub Lacks : ℕ → List ℕ → Type 0
Lacks x bytes = AllByRecursion (λ b. b ≢ x) bytes

-- some byte is stray
abbrev pub Strays : List ℕ → Type 0
Strays bytes = (i : ℕ) × (i < length bytes) × (mark_of (slice_index bytes i) ≡ Stray)
