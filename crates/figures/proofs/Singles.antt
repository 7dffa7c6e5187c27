-- Single places in steps of two, and a last range after them.
use Rattle.std.proofs.Common.{◌≡◌, ℕ, zero, suc, ◌+◌, ◌*◌, ◌%◌, ◌≤◌, not, ◌&&◌, ◌||◌, eqb, ltb, leb, List, [], ◌∷◌, ◌++◌, refl, arith}
use Rattle.std.proofs.lemmas.Bool.Decides.{nat_tests}
use Rattle.stamps.specs.declared.sets.Range.{Range}
use Rattle.stamps.specs.Ranges.{range, member, Before, Listing}
use Rattle.figures.specs.Words.{singles}

-- they are the places of one parity between their ends
of_parity : (n low p : ℕ) → member (singles n low) p ≡ (leb low p && ltb p (low + 2 * n)) && eqb ((p + low) % 2) 0
of_parity zero low p = grind (arith, nat_tests)
of_parity (suc n) low p = let r = of_parity n (low + 2) p in grind (arith, nat_tests)

member-append : (rs ss : List Range) (p : ℕ) → member (rs ++ ss) p ≡ member rs p || member ss p
member-append [] ss p = refl
member-append (r ∷ rs) ss p = let m = member-append rs ss p in grind (arith, nat_tests)

-- a last range begins where the next single place would stand
pub listed_to : (n low m high : ℕ) → m ≡ low + 2 * n → m ≤ high → Listing (singles n low ++ (range m high ∷ []))
listed_to zero low m high e h = (h, tt, tt)
listed_to (suc n) low m high e h = (omega arith, next n m e, listed_to n (low + 2) m high (omega arith) h)
  where
    next : (k l : ℕ) → l ≡ low + 2 * suc k → Before (low + 1) (singles k (low + 2) ++ (range l high ∷ []))
    next zero l f = omega arith
    next (suc k) l f = omega arith

pub listed : (n low : ℕ) → Listing (singles n low)
listed zero low = tt
listed (suc n) low = (omega arith, next n, listed n (low + 2))
  where
    next : (k : ℕ) → Before (low + 1) (singles k (low + 2))
    next zero = tt
    next (suc k) = omega arith

-- what they and the last range leave is the single places of the other parity
pub rest_of_evens : (n k m high p : ℕ) → k ≡ n + 1 → m ≡ 1 + 2 * n → m ≤ high
    → member (singles n 1 ++ (range m high ∷ [])) p ≡ leb p high && not (member (singles k 0) p)
rest_of_evens n k m high p e f h =
    let a = member-append (singles n 1) (range m high ∷ []) p in
    let b = of_parity n 1 p in
    let c = of_parity k 0 p in
    grind (arith, nat_tests)

pub rest_of_odds : (n m high p : ℕ) → m ≡ 2 * n → m ≤ high → member (singles n 0 ++ (range m high ∷ [])) p ≡ leb p high && not (member (singles n 1) p)
rest_of_odds n m high p f h =
    let a = member-append (singles n 0) (range m high ∷ []) p in
    let b = of_parity n 0 p in
    let c = of_parity n 1 p in
    grind (arith, nat_tests)
