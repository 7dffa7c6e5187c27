-- Forms that are spelled alike stand for the same places.
use Rattle.std.proofs.Common.{◌≡◌, ℕ, List, [], Ok, Err, Result, sym, refl, ◌∙◌, subst, inr, arith, MatchResult}
use Rattle.std.proofs.lemmas.Bool.{false≢true}
use Rattle.calendar.specs.declared.orders.Calendar.{Ghosts as Places}
use Rattle.calendar.specs.declared.refusals.Refusal.{Refusal}
use Rattle.calendar.specs.declared.writing.Printable.{Ghosts as Texts}
use Rattle.calendar.specs.Refusals.{number_of}
use Rattle.calendar.specs.Texts.{Printed}
use Rattle.ongoing.specs.declared.points.Point.{Point}
use Rattle.notation.specs.declared.forms.Form.{Form}
use Rattle.notation.specs.declared.forms.Form.TheVariants.{Now, Fixed, Since, Until, Between}
use Rattle.notation.specs.Marks.{plus}
use Rattle.notation.specs.Forms.{now_text, spelled, opens, closes, Stands, Backward, PointRead}
use Rattle.notation.proofs.Splits.{no_cut}
use Rattle.notation.proofs.Spellings.{Style, Parted, parted, plain, filled_not, no_sign_now}

module _ {C : Type 0} (c : Places C) (t : Texts C) (st : Style c t) where
  abbrev pub Same : Form C → Form C → Type 0
  Same f g = (opens c f ≡ opens c g) × (closes c f ≡ closes c g)

  -- no stamp is written in small letters
  not_now : (s : C) → t.text (c.place s) ≡ now_text → ⊥
  not_now s e = false≢true (subst Printed e (st.printed s)).0

  same_now : (f : Form C) → spelled c t f ≡ now_text → Same f Now
  same_now Now e = (refl, refl)
  same_now (Fixed s) e = absurd (not_now s e)
  same_now (Since s) e = absurd (no_cut plus (t.text (c.place s)) [] now_text no_sign_now e)
  same_now (Until s) e = absurd (no_cut plus [] (t.text (c.place s)) now_text no_sign_now e)
  same_now (Between r s) e = absurd (no_cut plus (t.text (c.place r)) (t.text (c.place s)) now_text no_sign_now e)

  same_fixed : (s : C) (f : Form C) → spelled c t f ≡ t.text (c.place s) → Same f (Fixed s)
  same_fixed s Now e = absurd (not_now s (sym e))
  same_fixed s (Fixed r) e = (st.one_place r s e, st.one_place r s e)
  same_fixed s (Since r) e = absurd (no_cut plus (t.text (c.place r)) [] (t.text (c.place s)) (plain c t st s) e)
  same_fixed s (Until r) e = absurd (no_cut plus [] (t.text (c.place r)) (t.text (c.place s)) (plain c t st s) e)
  same_fixed s (Between q r) e = absurd (no_cut plus (t.text (c.place q)) (t.text (c.place r)) (t.text (c.place s)) (plain c t st s) e)

  same_since : (s : C) (f : Form C) → Parted c t (t.text (c.place s)) [] f → Same f (Since s)
  same_since s Now p = absurd p
  same_since s (Fixed r) p = absurd p
  same_since s (Since r) p = (st.one_place r s p.0, refl)
  same_since s (Until r) p = absurd (filled_not c t st r [] p.1 refl)
  same_since s (Between q r) p = absurd (filled_not c t st r [] p.1 refl)

  same_until : (s : C) (f : Form C) → Parted c t [] (t.text (c.place s)) f → Same f (Until s)
  same_until s Now p = absurd p
  same_until s (Fixed r) p = absurd p
  same_until s (Since r) p = absurd (filled_not c t st r [] p.0 refl)
  same_until s (Until r) p = (refl, st.one_place r s p.1)
  same_until s (Between q r) p = absurd (filled_not c t st q [] p.0 refl)

  same_between : (q s : C) (f : Form C) → Parted c t (t.text (c.place q)) (t.text (c.place s)) f → Same f (Between q s)
  same_between q s Now p = absurd p
  same_between q s (Fixed r) p = absurd p
  same_between q s (Since r) p = absurd (filled_not c t st s [] (sym p.1) refl)
  same_between q s (Until r) p = absurd (filled_not c t st q [] (sym p.0) refl)
  same_between q s (Between o r) p = (st.one_place o q p.0, st.one_place r s p.1)

  pub same_places : (f g : Form C) → spelled c t f ≡ spelled c t g → Same f g
  same_places f Now e = same_now f e
  same_places f (Fixed s) e = same_fixed s f e
  same_places f (Since s) e = same_since s f (parted c t st (t.text (c.place s)) [] (plain c t st s) f e)
  same_places f (Until s) e = same_until s f (parted c t st [] (t.text (c.place s)) tt f e)
  same_places f (Between q s) e = same_between q s f (parted c t st (t.text (c.place q)) (t.text (c.place s)) (plain c t st q) f e)

  -- what the form that was read stands for, each form of that spelling does
  pub answered : (word : List ℕ) (f : Form C) → spelled c t f ≡ word → (r : Result (Point C) Refusal) → MatchResult r (λ p. Stands c f p) (λ e. (number_of e ≡ 10) × Backward c f) → PointRead c t word r
  answered word f e (Ok p) h = ((f, e), λ g d. let q = same_places g f (d ∙ sym e) in (h.0 ∙ sym q.0, h.1 ∙ sym q.1))
  answered word f e (Err d) h = inr (h.0, ((f, e), λ g k. let q = same_places g f (k ∙ sym e) in omega arith))
