-- What is left of the places up to the last, l, without those where one span is at most another.
use Rattle.std.proofs.Common.{◌≡◌, ℕ, Bool, true, false, not, ◌&&◌, ltb, leb, refl, arith}
use Rattle.std.proofs.lemmas.Bool.Decides.{nat_tests}

pub filled_both : (l x y : Bool) (s e p q : ℕ) → (((l && x) && (l && y)) && not (l && leb e s)) && not (l && leb q p) ≡ l && ((ltb s e && ltb p q) && (x && y))
filled_both true true y s e p q = grind (arith, nat_tests)
filled_both true false y s e p q = grind (arith, nat_tests)
filled_both false x y s e p q = refl

pub over_where : (l : Bool) (s e p q : ℕ) → (((l && not (l && leb e s)) && not (l && leb q p)) && not (l && leb q s)) && not (l && leb e p) ≡ l && ((ltb s e && ltb p q) && (ltb s q && ltb p e))
over_where true s e p q = grind (arith, nat_tests)
over_where false s e p q = refl
