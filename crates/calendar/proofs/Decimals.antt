-- Numbers in decimal: how long they are, what they are made of, and that they tell the number.
use Rattle.std.proofs.Common.{◌≡◌, ℕ, zero, suc, ◌+◌, ◌-◌, ◌*◌, ◌/◌, ◌%◌, ◌^◌, ◌<◌, ◌≤◌, true, List, [], ◌∷◌, ◌++◌, length, get_or, take, sym, refl, ap, ◌∙◌, subst, add-suc, pow-suc, add-one, arith}
use Rattle.std.specs.List.{AllByRecursion}
use Rattle.std.proofs.lemmas.List.{take_all, take_more, take-append-le, length_push, same_from_push, get_or_push, get_or_append_left}
use Rattle.std.proofs.ByRecursion.{All-push, All-get_or, All-weaker}
use Rattle.std.proofs.lemmas.Bool.Decides.{nat_tests}
use Rattle.calendar.specs.Texts.{sign, Printed}
use Rattle.calendar.specs.Decimals.{decimal, digit_byte, Spells}

pub length-decimal : (k n : ℕ) → length (decimal k n) ≡ k
length-decimal zero n = refl
length-decimal (suc k) n = omega (arith, length_push (decimal k (n / 10)) (digit_byte (n % 10)), length-decimal k (n / 10))

abbrev pub Digit : ℕ → Type 0
Digit b = (48 ≤ b) × (b ≤ 57)

pub all_decimal : (k n : ℕ) → AllByRecursion Digit (decimal k n)
all_decimal zero n = tt
all_decimal (suc k) n = All-push Digit (decimal k (n / 10)) (48 + n % 10) (all_decimal k (n / 10)) (omega arith, omega arith)

pub sign_digit : (b : ℕ) → Digit b → sign b ≡ true
sign_digit b d = grind (arith, nat_tests)

pub printed_decimal : (k n : ℕ) → Printed (decimal k n)
printed_decimal k n = All-weaker Digit (λ b. sign b ≡ true) sign_digit (decimal k n) (all_decimal k n)

pub digit_at : (k n i : ℕ) → i < k → Digit (get_or (decimal k n) i 0)
digit_at k n i h = All-get_or Digit (decimal k n) i 0 (omega (arith, length-decimal k n)) (all_decimal k n)

pub one_number : (k m n : ℕ) → m < 10 ^ k → n < 10 ^ k → decimal k m ≡ decimal k n → m ≡ n
one_number zero m n a b e = omega arith
one_number (suc k) m n a b e =
    let p = same_from_push (decimal k (m / 10)) (decimal k (n / 10)) (48 + m % 10) (48 + n % 10) e in
    let a' : m < 10 ^ k * 10 = omega (arith, pow-suc 10 k) in
    let b' : n < 10 ^ k * 10 = omega (arith, pow-suc 10 k) in
    let q : m / 10 ≡ n / 10 = one_number k (m / 10) (n / 10) (omega arith) (omega arith) p.0 in
    omega (arith, p.1)

-- a digit behind a number
pub decimal_push : (k n d : ℕ) → d < 10 → decimal (suc k) (10 * n + d) ≡ decimal k n ++ ((48 + d) ∷ [])
decimal_push k n d h =
    let q : (10 * n + d) / 10 ≡ n = omega arith in
    let r : (10 * n + d) % 10 ≡ d = omega arith in
    rw (q, r)

-- a byte before the last is one of what stands without the last digit,
pub digit_left : (j k n i : ℕ) → j ≡ suc k → i < k → get_or (decimal j n) i 0 ≡ get_or (decimal k (n / 10)) i 0
digit_left j k n i e h = rw e (get_or_append_left (decimal k (n / 10)) _ 0 i (omega (arith, length-decimal k (n / 10))))

-- and the last byte is that digit
pub digit_last : (j n i : ℕ) → j ≡ suc i → get_or (decimal j n) i 0 ≡ 48 + n % 10
digit_last j n i e = rw e (get_or_push (decimal i (n / 10)) (48 + n % 10) 0 i (length-decimal i (n / 10)))

-- the first i bytes are the number n in i digits
abbrev pub Begins : List ℕ → ℕ → ℕ → Type 0
Begins bs i n = (n < 10 ^ i) × (decimal i n ≡ take i bs)

-- one more digit
pub one_more : (bs : List ℕ) (i n d : ℕ) → i < length bs → 48 + d ≡ get_or bs i 0 → d < 10 → Begins bs i n → Begins bs (i + 1) (n * 10 + d)
one_more bs i n d h e s p =
    let q : (n * 10 + d) / 10 ≡ n = omega arith in
    let r : (n * 10 + d) % 10 ≡ d = omega arith in
    let t : decimal (suc i) (n * 10 + d) ≡ take i bs ++ ((48 + d) ∷ []) = rw (q, r, p.1) in
    rw add-one (omega (arith, p.0, pow-suc 10 i), rw e at t ∙ sym (rw add-one at (take_more bs i 0 h)))

-- what is no digit is in no number
pub no_number : (bs : List ℕ) (i : ℕ) → i < length bs → (Digit (get_or bs i 0) → ⊥) → (n : ℕ) → decimal (length bs) n ≡ bs → ⊥
no_number bs i h f n e = f (subst (λ (xs : List ℕ). Digit (get_or xs i 0)) e (digit_at (length bs) n i h))

-- the first digits of a number write one that is no larger
first_digits : (j i m n : ℕ) → m < 10 ^ i → n < 10 ^ (i + j) → take i (decimal (i + j) n) ≡ decimal i m → m ≤ n
first_digits zero i m n a b e =
    let z : i + zero ≡ i = omega arith in
    let b' : n < 10 ^ i = rw z at b in
    let e' : take i (decimal i n) ≡ decimal i m = rw z at e in
    let whole : take i (decimal i n) ≡ decimal i n = take_all i (decimal i n) (omega (arith, length-decimal i n)) in
    omega (arith, one_number i n m b' a (sym whole ∙ e'))
first_digits (suc j) i m n a b e =
    let b' : n < 10 ^ (i + j) * 10 = omega (arith, rw add-suc at b, pow-suc 10 (i + j)) in
    let e' : take i (decimal (suc (i + j)) n) ≡ decimal i m = rw add-suc at e in
    let cut : take i (decimal (suc (i + j)) n) ≡ take i (decimal (i + j) (n / 10)) =
    take-append-le i (decimal (i + j) (n / 10)) (digit_byte (n % 10) ∷ []) (omega (arith, length-decimal (i + j) (n / 10))) in
    omega (arith, first_digits j i m (n / 10) a (omega arith) (sym cut ∙ e'))

-- so what is too large so far is too large after all
pub too_large : (bs : List ℕ) (i n : ℕ) → i ≤ length bs → Begins bs i n → 2 ^ 32 ≤ n → (k : ℕ) → k < 2 ^ 32 → Spells bs k → ⊥
too_large bs i n h p big k fits s =
    let l : length bs ≡ i + (length bs - i) = omega arith in
    let a : k < 10 ^ (i + (length bs - i)) = rw l at s.0 in
    let w : decimal (i + (length bs - i)) k ≡ bs = subst (λ (j : ℕ). decimal j k ≡ bs) l s.1 in
    omega (arith, first_digits (length bs - i) i n k p.0 a (ap (λ (xs : List ℕ). take i xs) w ∙ sym p.1))
