-- A word spells a form in one way: where its sign stands says which.
use Rattle.std.proofs.Common.{◌≡◌, ℕ, ◌<◌, ◌≤◌, true, List, [], ◌∷◌, ◌++◌, length, sym, refl, ap, ◌∙◌, subst, arith}
use Rattle.std.specs.List.{AllByRecursion}
use Rattle.std.proofs.ByRecursion.{All-weaker, All-append, All-get_or}
use Rattle.std.proofs.lemmas.Bool.Decides.{nat_tests}
use Rattle.calendar.specs.declared.orders.Calendar.{Ghosts as Places}
use Rattle.calendar.specs.declared.writing.Printable.{Ghosts as Texts}
use Rattle.calendar.specs.Texts.{sign, Printed}
use Rattle.notation.specs.declared.forms.Form.{Form}
use Rattle.notation.specs.declared.forms.Form.TheVariants.{Now, Fixed, Since, Until, Between}
use Rattle.notation.specs.declared.marks.Mark.TheVariants.{Stray}
use Rattle.notation.specs.Marks.{plus, mark_of, Lacks, Strays}
use Rattle.notation.specs.Forms.{now_text, spelled, Unspelled}
use Rattle.notation.proofs.Splits.{split_one, no_cut}

pub no_sign_now : Lacks plus now_text
no_sign_now = (λ e. omega arith, (λ e. omega arith, (λ e. omega arith, tt)))

-- no byte of a stamp's text is a sign or stray, and a sign is not stray
pub no_sign : (b : ℕ) → sign b ≡ true → b ≡ plus → ⊥
no_sign b s e = grind (arith, nat_tests)

pub not_stray : (b : ℕ) → sign b ≡ true → mark_of b ≡ Stray → ⊥
not_stray b s = grind (arith, nat_tests)

pub plus_not_stray : mark_of plus ≡ Stray → ⊥
plus_not_stray e = cc

-- what the laws of a calendar say of its stamps and their texts
pub record Style {C : Type 0} (c : Places C) (t : Texts C) : Type 0 where
  pub filled : (s : C) → 0 < length (t.text (c.place s))
  pub printed : (s : C) → Printed (t.text (c.place s))
  pub one_place : (r s : C) → t.text (c.place r) ≡ t.text (c.place s) → c.place r ≡ c.place s

module _ {C : Type 0} (c : Places C) (t : Texts C) where
  pub style : ((s : C) → c.place s ≤ c.LAST_PLACE) → 1 ≤ t.WIDTH → ((n : ℕ) → n ≤ c.LAST_PLACE → length (t.text n) ≡ t.WIDTH) → ((n : ℕ) → n ≤ c.LAST_PLACE → Printed (t.text n)) → ((m n : ℕ) → m ≤ c.LAST_PLACE → n ≤ c.LAST_PLACE → t.text m ≡ t.text n → m ≡ n) → Style c t
  style bounded wide whole printed one = record {
    filled = λ s. omega (arith, whole (c.place s) (bounded s));
    printed = λ s. printed (c.place s) (bounded s);
    one_place = λ r s. one (c.place r) (c.place s) (bounded r) (bounded s);
  }

  -- the bytes are no stamp's text
  abbrev pub NoText : List ℕ → Type 0
  NoText bytes = (s : C) → t.text (c.place s) ≡ bytes → ⊥

  -- no byte is stray
  abbrev Tidy : List ℕ → Type 0
  Tidy bytes = AllByRecursion (λ b. mark_of b ≡ Stray → ⊥) bytes

  -- what the bytes before a sign and those after it are to a form
  abbrev pub Parted : List ℕ → List ℕ → Form C → Type 0
  Parted before after Now = ⊥
  Parted before after (Fixed s) = ⊥
  Parted before after (Since s) = (t.text (c.place s) ≡ before) × ([] ≡ after)
  Parted before after (Until s) = ([] ≡ before) × (t.text (c.place s) ≡ after)
  Parted before after (Between r s) = (t.text (c.place r) ≡ before) × (t.text (c.place s) ≡ after)

  module _ (st : Style c t) where
    pub filled_not : (s : C) (bytes : List ℕ) → t.text (c.place s) ≡ bytes → length bytes ≡ 0 → ⊥
    filled_not s bytes e z = omega (arith, st.filled s, ap length e)

    pub plain : (s : C) → Lacks plus (t.text (c.place s))
    plain s = All-weaker (λ b. sign b ≡ true) (λ b. b ≡ plus → ⊥) no_sign (t.text (c.place s)) (st.printed s)

    tidy : (s : C) → Tidy (t.text (c.place s))
    tidy s = All-weaker (λ b. sign b ≡ true) (λ b. mark_of b ≡ Stray → ⊥) not_stray (t.text (c.place s)) (st.printed s)

    -- only `now` has stray bytes
    form_tidy : (f : Form C) → (spelled c t f ≡ now_text → ⊥) → Tidy (spelled c t f)
    form_tidy Now n = absurd (n refl)
    form_tidy (Fixed s) n = tidy s
    form_tidy (Since s) n = All-append (λ b. mark_of b ≡ Stray → ⊥) (t.text (c.place s)) (plus ∷ []) (tidy s) (plus_not_stray, tt)
    form_tidy (Until s) n = (plus_not_stray, tidy s)
    form_tidy (Between r s) n = All-append (λ b. mark_of b ≡ Stray → ⊥) (t.text (c.place r)) (plus ∷ t.text (c.place s)) (tidy r) (plus_not_stray, tidy s)

    pub none_stray : (word : List ℕ) → (word ≡ now_text → ⊥) → Strays word → Unspelled c t word
    none_stray word n (i, h, k) f e = All-get_or (λ b. mark_of b ≡ Stray → ⊥) word i 0 h (subst Tidy e (form_tidy f (λ d. n (sym e ∙ d)))) k

    -- a word with no sign
    pub none_plain : (word : List ℕ) → (word ≡ now_text → ⊥) → Lacks plus word → NoText word → Unspelled c t word
    none_plain word n l no_text Now e = n (sym e)
    none_plain word n l no_text (Fixed s) e = no_text s e
    none_plain word n l no_text (Since s) e = no_cut plus (t.text (c.place s)) [] word l e
    none_plain word n l no_text (Until s) e = no_cut plus [] (t.text (c.place s)) word l e
    none_plain word n l no_text (Between r s) e = no_cut plus (t.text (c.place r)) (t.text (c.place s)) word l e

    -- a word with a sign, by the bytes before the first and those after it
    module _ (before after : List ℕ) (l : Lacks plus before) where
      pub parted : (f : Form C) → spelled c t f ≡ before ++ (plus ∷ after) → Parted before after f
      parted Now e = no_cut plus before after now_text no_sign_now (sym e)
      parted (Fixed s) e = no_cut plus before after (t.text (c.place s)) (plain s) (sym e)
      parted (Since s) e = split_one plus (t.text (c.place s)) [] before after (plain s) l e
      parted (Until s) e = split_one plus [] (t.text (c.place s)) before after tt l e
      parted (Between r s) e = split_one plus (t.text (c.place r)) (t.text (c.place s)) before after (plain r) l e

      -- no stamp stands before the sign, where one has to
      pub none_before : (length before ≡ 0 → ⊥) → NoText before → Unspelled c t (before ++ (plus ∷ after))
      none_before z no_text Now e = parted Now e
      none_before z no_text (Fixed s) e = parted (Fixed s) e
      none_before z no_text (Since s) e = no_text s (parted (Since s) e).0
      none_before z no_text (Until s) e = z (ap length (sym (parted (Until s) e).0))
      none_before z no_text (Between r s) e = no_text r (parted (Between r s) e).0

      -- nor behind it
      pub none_after : (length after ≡ 0 → length before ≡ 0) → NoText after → Unspelled c t (before ++ (plus ∷ after))
      none_after z no_text Now e = parted Now e
      none_after z no_text (Fixed s) e = parted (Fixed s) e
      none_after z no_text (Since s) e = let p = parted (Since s) e in filled_not s before p.0 (z (ap length (sym p.1)))
      none_after z no_text (Until s) e = no_text s (parted (Until s) e).1
      none_after z no_text (Between r s) e = no_text s (parted (Between r s) e).1
