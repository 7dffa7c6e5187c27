-- How an answer is written in a transcript. A number is written as printing it writes it, which is `decimal` here.
use Rattle.std.specs.Prelude.{◌≡◌, ℕ, min, List, ◌++◌, Ok, Err, codes, decimal, Result}
use Rattle.calendar.specs.declared.orders.Calendar.{Ghosts as Places}
use Rattle.calendar.specs.declared.writing.Printable.{Ghosts as Texts}
use Rattle.stamps.specs.Sets.{listing}
use Rattle.ongoing.specs.Points.{starts, stops}
use Rattle.notation.specs.declared.forms.Form.{Form}
use Rattle.notation.specs.Forms.{spelled, Chosen}
use Rattle.language.specs.declared.misreads.Misread.{Misread}
use Rattle.language.specs.Misreads.{sentence}
use Rattle.answers.specs.declared.replies.Reply.{Reply}
use Rattle.answers.specs.declared.replies.Reply.TheVariants.{Done, Place, Stamp, Absent, Point, Set, Commands}
use Rattle.answers.specs.declared.stops.Stop.{Stop}
use Rattle.answers.specs.Stops.{stop_text}
use Rattle.texts.specs.Writing.{set_text}

-- lines of text, and then `ok`
abbrev pub Closed : List ℕ → Type 0
Closed bytes = (lines : List ℕ) × (bytes ≡ lines ++ codes "ok")

abbrev pub ShownMisread : List ℕ → Type 0
ShownMisread bytes = (m : Misread) × (bytes ≡ codes "? " ++ sentence m)

-- over a calendar's places and texts
module _ {C : Type 0} (places : Places C) (texts : Texts C) where
  -- a point is told in its shortest form, a set by its ranges
  abbrev pub Told : Reply C → List ℕ → Type 0
  Told Done bytes = bytes ≡ codes "ok"
  Told (Place n) bytes = bytes ≡ codes "ok " ++ decimal n
  Told (Stamp s) bytes = bytes ≡ codes "ok " ++ texts.text (places.place s)
  Told Absent bytes = bytes ≡ codes "ok absent"
  Told (Point p) bytes = (f : Form C) × Chosen places (min (starts p) places.LAST_PLACE) (min (stops p) places.LAST_PLACE) f × (bytes ≡ codes "ok " ++ spelled places texts f)
  Told (Set s) bytes = bytes ≡ codes "ok " ++ set_text places texts (listing s)
  Told Commands bytes = Closed bytes

  abbrev pub Shown : Result (Reply C) Stop → List ℕ → Type 0
  Shown (Ok reply) bytes = Told reply bytes
  Shown (Err stop) bytes = bytes ≡ stop_text stop
