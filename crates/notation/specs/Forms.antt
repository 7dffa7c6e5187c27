-- The ways to write a point, and what each stands for.
use Rattle.std.specs.Prelude.{◌≡◌, ℕ, ◌<◌, ◌≤◌, ◌⊎◌, List, [], ◌∷◌, ◌++◌, length, codes, Result, MatchResult, ◌≢◌}
use Rattle.calendar.specs.declared.orders.Calendar.{Ghosts as Places}
use Rattle.calendar.specs.declared.refusals.Refusal.{Refusal}
use Rattle.calendar.specs.declared.writing.Printable.{Ghosts as Texts}
use Rattle.calendar.specs.Refusals.{number_of}
use Rattle.ongoing.specs.declared.points.Point.{Point}
use Rattle.ongoing.specs.Points.{starts, stops}
use Rattle.notation.specs.declared.forms.Form.{Form}
use Rattle.notation.specs.declared.forms.Form.TheVariants.{Now, Fixed, Since, Until, Between}
use Rattle.notation.specs.Marks.{plus}

-- the word for the point that always is the reference stamp
abbrev pub now_text : List ℕ
now_text = codes "now"

-- over a calendar
module _ {C : Type 0} (c : Places C) where
  -- the place of the first stamp: the calendar's first where none is written
  abbrev pub opens : Form C → ℕ
  opens Now = 0
  opens (Fixed s) = c.place s
  opens (Since s) = c.place s
  opens (Until s) = 0
  opens (Between s t) = c.place s

  -- the place of the second stamp: the calendar's last where none is written
  abbrev pub closes : Form C → ℕ
  closes Now = c.LAST_PLACE
  closes (Fixed s) = c.place s
  closes (Since s) = c.LAST_PLACE
  closes (Until s) = c.place s
  closes (Between s t) = c.place t

  -- the form leaves out what it can of a point from the place a to the place b
  abbrev pub Chosen : ℕ → ℕ → Form C → Type 0
  Chosen a b Now = (a ≢ b) × (a ≡ 0) × (b ≡ c.LAST_PLACE)
  Chosen a b (Fixed s) = (a ≡ b) × (c.place s ≡ a)
  Chosen a b (Since s) = (a ≢ b) × (a ≢ 0) × (b ≡ c.LAST_PLACE) × (c.place s ≡ a)
  Chosen a b (Until s) = (a ≢ b) × (a ≡ 0) × (b ≢ c.LAST_PLACE) × (c.place s ≡ b)
  Chosen a b (Between s t) = (a ≢ b) × (a ≢ 0) × (b ≢ c.LAST_PLACE) × (c.place s ≡ a) × (c.place t ≡ b)

  -- the form stands for the point
  abbrev pub Stands : Form C → Point C → Type 0
  Stands f p = (starts p ≡ opens f) × (stops p ≡ closes f)

  -- its first stamp is after its second, so it stands for no point
  abbrev pub Backward : Form C → Type 0
  Backward f = closes f < opens f

  -- and over the texts of its stamps
  module _ (t : Texts C) where
    -- the bytes of a form
    abbrev pub spelled : Form C → List ℕ
    spelled Now = now_text
    spelled (Fixed s) = t.text (c.place s)
    spelled (Since s) = t.text (c.place s) ++ (plus ∷ [])
    spelled (Until s) = plus ∷ t.text (c.place s)
    spelled (Between r s) = t.text (c.place r) ++ (plus ∷ t.text (c.place s))

    -- no form of the same two places takes fewer bytes
    abbrev pub Shortest : Form C → Type 0
    Shortest f = (g : Form C) → opens g ≡ opens f → closes g ≡ closes f → length (spelled f) ≤ length (spelled g)

    -- no form is spelled as the word
    abbrev pub Unspelled : List ℕ → Type 0
    Unspelled word = (f : Form C) → spelled f ≢ word

    -- what a word is read as: the form that it spells; 11 where it spells none
    abbrev pub FormRead : List ℕ → Result (Form C) Refusal → Type 0
    FormRead word r = MatchResult r (λ f. spelled f ≡ word) (λ e. (number_of e ≡ 11) × Unspelled word)

    -- some form is spelled as the word, and each that is, is P
    abbrev pub Spells : List ℕ → (Form C → Type 0) → Type 0
    Spells word P = ((f : Form C) × (spelled f ≡ word)) × ((f : Form C) → spelled f ≡ word → P f)

    -- what a word answers: the point that it spells; 11 where it spells no form, and 10 where it spells one that runs backward
    abbrev pub PointRead : List ℕ → Result (Point C) Refusal → Type 0
    PointRead word r =
        MatchResult r (λ p. Spells word (λ f. Stands f p))
        (λ e. ((number_of e ≡ 11) × Unspelled word) ⊎ ((number_of e ≡ 10) × Spells word Backward))
