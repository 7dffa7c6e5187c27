-- Sets of few and of too many ranges.
use Rattle.std.proofs.Common.{◌≡◌, ℕ, ◌||◌, not, ◌&&◌, leb, List, [], ◌∷◌, ◌++◌, length, take, Ok, Err, Result, sym, refl, ap, ◌∙◌, arith, lit≤}
use Rattle.std.proofs.lemmas.List.{take_all, get_or_past}
use Rattle.std.proofs.lemmas.Bool.Decides.{nat_tests}
use Rattle.calendar.specs.declared.refusals.Refusal.{Refusal}
use Rattle.stamps.specs.declared.sets.Range.{Range}
use Rattle.stamps.specs.declared.sets.ReferenceSet.{ReferenceSet}
use Rattle.stamps.specs.Ranges.{range, member, Listing}
use Rattle.stamps.specs.Edges.{ranges}
use Rattle.stamps.specs.Sets.{listing, has}
use Rattle.stamps.proofs.Bridge.{edges, length-edges, ranges-edges, rises_edges, one_listing}
use Rattle.stamps.proofs.Counts.{most}
use Rattle.stamps.proofs.SetFacts.{listed}
use Rattle.figures.specs.Words.{singles, evens, besides_evens, odds, Gives, Refuses, Complement}
use Rattle.figures.proofs.Singles.{listed_to, rest_of_evens, rest_of_odds}

-- a set has the listing of its places
its_listing : (s : ReferenceSet) (rs : List Range) → Listing rs → ((p : ℕ) → has s p ≡ member rs p) → listing s ≡ rs
its_listing s rs l says = one_listing (listing s) rs (listed s) l says

pub touching : (s : ReferenceSet) → ((p : ℕ) → has s p ≡ member (range 3 5 ∷ []) p || member (range 6 9 ∷ []) p) → listing s ≡ range 3 9 ∷ []
touching s says = its_listing s (range 3 9 ∷ []) (lit≤ tt, tt, tt) (λ p. let e = says p in grind (arith, nat_tests))

-- there is a set of each listing of sixteen ranges
pub set_of : (rs : List Range) → Listing rs → length rs ≡ 16 → (a : ReferenceSet) × (listing a ≡ rs)
set_of rs l n =
    let long : length (edges rs) ≡ 32 = omega (arith, length-edges rs) in
    let whole : take 32 (edges rs) ≡ edges rs = take_all 32 (edges rs) (omega arith) in
    let a : ReferenceSet =
    record { used = 32; edges = edges rs; long = long; fits = lit≤ tt; even = refl; rises = λ i j h m. rises_edges rs l i j h (omega arith); rest = λ k h. get_or_past (edges rs) k 0 (omega arith) } in
    (a, ap ranges whole ∙ ranges-edges rs)

-- what a set leaves, by its listing
left : (a : ReferenceSet) (rs ss : List Range) (p : ℕ) → listing a ≡ rs → member ss p ≡ leb p 999999 && not (member rs p) → leb p 999999 && not (has a p) ≡ member ss p
left a rs ss p e m = rw e (sym m)

-- the ranges that the evens leave
fits : Listing besides_evens
fits = listed_to 15 1 31 999999 refl (lit≤ tt)

rest : (a : ReferenceSet) → listing a ≡ evens → (p : ℕ) → leb p 999999 && not (has a p) ≡ member besides_evens p
rest a e p = left a evens besides_evens p e (rest_of_evens 15 16 31 999999 p refl refl (lit≤ tt))

pub complement_fits : (a : ReferenceSet) (r : Result ReferenceSet Refusal) → listing a ≡ evens → Complement a r → Gives r besides_evens
complement_fits a (Ok s) e h = its_listing s besides_evens fits (λ p. h p ∙ rest a e p)
complement_fits a (Err x) e h = omega (arith, h.2 besides_evens fits (λ p. sym (rest a e p)))

pub complement_refused : (a : ReferenceSet) (r : Result ReferenceSet Refusal) → listing a ≡ odds → Complement a r → Refuses r 16
complement_refused a (Ok s) e h =
    let many : List Range = singles 16 0 ++ (range 32 999999 ∷ []) in
    let is =
    its_listing s many (listed_to 16 0 32 999999 refl (lit≤ tt)) (λ p. h p ∙ left a odds many p e (rest_of_odds 16 32 999999 p refl (lit≤ tt))) in
    omega (arith, most s, ap length is)
complement_refused a (Err x) e h = h.0
