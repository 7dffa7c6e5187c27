-- What `number(..).ok_or(Refusal::NoStamp)?` tells of a part of k bytes.
use Rattle.std.proofs.Common.{◌≡◌, ℕ, ◌^◌, ◌<◌, List, length, Option, None, Some, Result, Ok, Err, MatchOption, MatchResult, refl, subst}
use Rattle.std.specs.Option.{ok_or}
use Rattle.std.specs.Result.{IsErrAnd}
use Rattle.calendar.specs.declared.refusals.Refusal.{Refusal}
use Rattle.calendar.specs.declared.refusals.Refusal.TheVariants.{NoStamp}
use Rattle.calendar.specs.Refusals.{number_of}
use Rattle.calendar.specs.Decimals.{decimal, Spells}

-- what `number` promises
abbrev Read : List ℕ → Option ℕ → Type 0
Read xs o = MatchOption o ((n : ℕ) → n < 2 ^ 32 → Spells xs n → ⊥) (λ n. Spells xs n)

-- the bytes are the number n in k digits
abbrev Part : ℕ → List ℕ → ℕ → Type 0
Part k xs n = (n < 10 ^ k) × (decimal k n ≡ xs)

-- the part was read,
pub part_read : (k : ℕ) (xs : List ℕ) (o : Option ℕ) (n : ℕ) → length xs ≡ k → ok_or o NoStamp ≡ Ok n → Read xs o → Part k xs n
part_read k xs None n l e f = absurd (cc)
part_read k xs (Some x) n l e f =
    let s : x ≡ n = cc in
    let g = rw s at f in
    subst (λ (j : ℕ). Part j xs n) l g

-- or it was not, and the call returns 11
pub part_refused : {X : Type 0} (k : ℕ) (xs : List ℕ) (o : Option ℕ) (d : Refusal) (r : Result X Refusal) (S : X → Type 0) (N : Type 0) → length xs ≡ k
    → ok_or o NoStamp ≡ Err d → Read xs o → IsErrAnd r (λ e. e ≡ d) → (((n : ℕ) → n < 2 ^ 32 → Part k xs n → ⊥) → N) → MatchResult r S (λ e. (number_of e ≡ 11) × N)
part_refused k xs None d (Ok s) S N l e f w follows = absurd w
part_refused k xs None d (Err x) S N l e f w follows =
    let s : x ≡ NoStamp = cc in
    rw s (refl, follows (subst (λ (j : ℕ). (n : ℕ) → n < 2 ^ 32 → Part j xs n → ⊥) l f))
part_refused k xs (Some x) d r S N l e f w follows = absurd (cc)
