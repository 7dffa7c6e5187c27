-- How ranges and sets of reference stamps are written, over a calendar's places and texts.
use Rattle.std.specs.Prelude.{ℕ, zero, suc, min, List, [], ◌∷◌, ◌++◌, codes}
use Rattle.calendar.specs.declared.orders.Calendar.{Ghosts as Places}
use Rattle.calendar.specs.declared.writing.Printable.{Ghosts as Texts}
use Rattle.stamps.specs.declared.sets.Range.{Range}

module _ {C : Type 0} (places : Places C) (texts : Texts C) where
  -- the text of the stamp at a place, where what lies beyond the last stands for the last
  abbrev pub text_at : ℕ → List ℕ
  text_at n = texts.text (min n places.LAST_PLACE)

  -- as LOW..HIGH
  abbrev pub range_text : Range → List ℕ
  range_text r = text_at r.low ++ (codes ".." ++ text_at r.high)

  -- the range at position i of a list: behind a comma and a space, unless it is the first
  abbrev pub item_text : ℕ → Range → List ℕ
  item_text zero r = range_text r
  item_text (suc i) r = codes ", " ++ range_text r

  -- ranges from position i on
  abbrev pub items_text : ℕ → List Range → List ℕ
  items_text i [] = []
  items_text i (r ∷ rs) = item_text i r ++ items_text (suc i) rs

  abbrev pub list_text : List Range → List ℕ
  list_text rs = items_text 0 rs

  -- as {LOW..HIGH, LOW..HIGH}, and {} without a range
  abbrev pub set_text : List Range → List ℕ
  set_text rs = codes "{" ++ (list_text rs ++ codes "}")
