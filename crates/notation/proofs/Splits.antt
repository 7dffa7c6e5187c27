-- A list cut at the first of its bytes that is x: in one way only.
use Rattle.std.proofs.Common.{◌≡◌, ℕ, ◌+◌, ◌-◌, ◌<◌, List, [], ◌∷◌, ◌++◌, length, get_or, take, drop, sym, refl, ap, ◌∙◌, subst}
use Rattle.std.proofs.lemmas.List.{take-append-drop, drop_more, take_rest}
use Rattle.notation.specs.Marks.{Lacks}

pub split_one : (x : ℕ) (a b a' b' : List ℕ) → Lacks x a → Lacks x a' → a ++ (x ∷ b) ≡ a' ++ (x ∷ b') → (a ≡ a') × (b ≡ b')
split_one x [] b [] b' l l' e = (refl, cc)
split_one x [] b (y ∷ ys) b' l l' e = absurd (l'.0 (cc))
split_one x (y ∷ ys) b [] b' l l' e = absurd (l.0 (cc))
split_one x (y ∷ ys) b (z ∷ zs) b' l l' e =
    let p = split_one x ys b zs b' l.1 l'.1 (cc) in
    let q = p.0 in
    (cc, p.1)

lacks_not : (x : ℕ) (a b : List ℕ) → Lacks x (a ++ (x ∷ b)) → ⊥
lacks_not x [] b l = l.0 refl
lacks_not x (y ∷ ys) b l = lacks_not x ys b l.1

pub no_cut : (x : ℕ) (a b w : List ℕ) → Lacks x w → a ++ (x ∷ b) ≡ w → ⊥
no_cut x a b w l e = lacks_not x a b (subst (Lacks x) (sym e) l)

-- the parts around an x, as slices, and the x between them
pub rejoined : (x i : ℕ) (bs : List ℕ) → i < length bs → get_or bs i 0 ≡ x → take i bs ++ (x ∷ take (length bs - (i + 1)) (drop (i + 1) bs)) ≡ bs
rejoined x i bs h e =
    ap (λ (ys : List ℕ). take i bs ++ (x ∷ ys)) (take_rest bs (i + 1))
    ∙ ap (λ (ys : List ℕ). take i bs ++ ys) (ap (λ (y : ℕ). y ∷ drop (i + 1) bs) (sym e) ∙ sym (drop_more bs i 0 h))
    ∙ take-append-drop i bs
