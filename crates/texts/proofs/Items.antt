-- Lists of ranges, written one by one.
use Rattle.std.proofs.Common.{◌≡◌, ℕ, suc, List, [], ◌∷◌, ◌++◌, codes, refl, rules}
use Rattle.std.proofs.lemmas.Grind.{common_steps}
use Rattle.std.proofs.lemmas.List.{append_assoc, append-nil}
use Rattle.calendar.specs.declared.orders.Calendar.{Ghosts as Places}
use Rattle.calendar.specs.declared.writing.Printable.{Ghosts as Texts}
use Rattle.stamps.specs.declared.sets.Range.{Range}
use Rattle.texts.specs.Writing.{range_text, items_text, list_text}

-- what stands before the range that follows these
abbrev pub between : List Range → List ℕ
between [] = []
between (r ∷ rs) = codes ", "

module _ {C : Type 0} (places : Places C) (texts : Texts C) where
  more : (rs : List Range) (i : ℕ) (r : Range) → items_text places texts (suc i) (rs ++ (r ∷ [])) ≡ items_text places texts (suc i) rs ++ (codes ", " ++ range_text places texts r)
  more [] i r = append-nil _
  more (q ∷ rs) i r = rw (more rs (suc i) r, append_assoc) refl

  -- one range more
  pub step : (rs : List Range) (r : Range) → (list_text places texts (rs ++ (r ∷ [])) ≡ list_text places texts rs ++ (between rs ++ range_text places texts r)) × (between (rs ++ (r ∷ [])) ≡ codes ", ")
  step [] r = search (rules, common_steps)
  step (q ∷ rs) r = search (rules, common_steps, more rs 0 r)
