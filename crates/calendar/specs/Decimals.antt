-- Numbers in decimal, as bytes.
use Rattle.std.specs.Prelude.{◌≡◌, ℕ, zero, suc, ◌+◌, ◌/◌, ◌%◌, ◌^◌, ◌<◌, List, [], ◌∷◌, ◌++◌, length}

-- the digit d as a byte: `0` is 48
abbrev pub digit_byte : ℕ → ℕ
digit_byte d = 48 + d

-- the number n in k decimal digits: led by zeros where it has fewer, its last k where it has more
abbrev pub decimal : ℕ → ℕ → List ℕ
decimal zero n = []
decimal (suc k) n = decimal k (n / 10) ++ (digit_byte (n % 10) ∷ [])

-- the bytes are the number n in as many digits as there are bytes, which is as many as it needs or more
abbrev pub Spells : List ℕ → ℕ → Type 0
Spells bytes n = (n < 10 ^ length bytes) × (decimal (length bytes) n ≡ bytes)
