-- The bytes that a calendar may write.
use Rattle.std.specs.Prelude.{◌≡◌, ℕ, Bool, true, ◌&&◌, ◌||◌, List, ◌==◌, nat_le}
use Rattle.std.specs.List.{AllByRecursion}

-- a digit, `0` to `9`, a capital letter, `A` to `Z`, `-` or `/`
abbrev pub sign : ℕ → Bool
sign b = (nat_le 48 b && nat_le b 57) || ((nat_le 65 b && nat_le b 90) || (b == 45 || b == 47))

abbrev pub Printed : List ℕ → Type 0
Printed bytes = AllByRecursion (λ b. sign b ≡ true) bytes
