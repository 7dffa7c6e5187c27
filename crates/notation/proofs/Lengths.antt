-- The chosen form of a point is its shortest.
use Rattle.std.proofs.Common.{◌≡◌, ℕ, ◌+◌, ◌<◌, ◌≤◌, ◌⊎◌, length, refl, inl, inr, arith, length-append}
use Rattle.calendar.specs.declared.orders.Calendar.{Ghosts as Places}
use Rattle.calendar.specs.declared.writing.Printable.{Ghosts as Texts}
use Rattle.notation.specs.declared.forms.Form.{Form}
use Rattle.notation.specs.declared.forms.Form.TheVariants.{Now, Fixed, Since, Until, Between}
use Rattle.notation.specs.Forms.{spelled, opens, closes, Chosen, Shortest}

module _ {C : Type 0} (c : Places C) (t : Texts C) (width : ℕ) (whole : (s : C) → length (t.text (c.place s)) ≡ width) where
  -- how long a form is, by what it leaves out
  pub size : (f : Form C) → ((length (spelled c t f) ≡ 3) × (opens c f ≡ 0) × (closes c f ≡ c.LAST_PLACE)) ⊎ (((length (spelled c t f) ≡ width) × (opens c f ≡ closes c f)) ⊎ (((length (spelled c t f) ≡ width + 1) × (closes c f ≡ c.LAST_PLACE)) ⊎ (((length (spelled c t f) ≡ width + 1) × (opens c f ≡ 0)) ⊎ (length (spelled c t f) ≡ width + (width + 1)))))
  size Now = inl (refl, refl, refl)
  size (Fixed s) = inr (inl (whole s, refl))
  size (Since s) = inr (inr (inl (simp length-append (omega (arith, whole s)), refl)))
  size (Until s) = inr (inr (inr (inl (omega (arith, whole s), refl))))
  size (Between r s) = inr (inr (inr (inr (simp length-append (omega (arith, whole r, whole s))))))

  -- the chosen form stands for the places that it was chosen for
  pub chosen_back : (a b : ℕ) (f : Form C) → Chosen c a b f → (opens c f ≡ a) × (closes c f ≡ b)
  chosen_back a b Now h = (omega arith, omega arith)
  chosen_back a b (Fixed s) h = (omega arith, omega arith)
  chosen_back a b (Since s) h = (omega arith, omega arith)
  chosen_back a b (Until s) h = (omega arith, omega arith)
  chosen_back a b (Between r s) h = (omega arith, omega arith)

  -- and no other is shorter: `now` is at most as long as a stamp and a sign, and is no stamp where there are two or more
  pub chosen_short : (a b : ℕ) (f : Form C) → Chosen c a b f → 2 ≤ width → 0 < c.LAST_PLACE → Shortest c t f
  chosen_short a b Now h w l g e d = omega (arith, size g)
  chosen_short a b (Fixed s) h w l g e d = omega (arith, size g, whole s)
  chosen_short a b (Since s) h w l g e d = simp length-append (omega (arith, size g, whole s))
  chosen_short a b (Until s) h w l g e d = omega (arith, size g, whole s)
  chosen_short a b (Between r s) h w l g e d = simp length-append (omega (arith, size g, whole r, whole s))
