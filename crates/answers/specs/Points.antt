-- What a command about points answers.
use Rattle.std.specs.Prelude.{◌≡◌, ℕ, ◌≤◌, min, max, Bool, ◌⊎◌, List, [], ◌∷◌, Ok, Err, Result, MatchResult, ◌==◌, ◌≢◌, nat_le, nat_lt}
use Rattle.calendar.specs.declared.orders.Calendar.{Ghosts as Places}
use Rattle.calendar.specs.declared.writing.Printable.{Ghosts as Texts}
use Rattle.calendar.specs.declared.refusals.Refusal.{Refusal}
use Rattle.calendar.specs.Refusals.{number_of}
use Rattle.stamps.specs.declared.sets.ReferenceSet.{ReferenceSet}
use Rattle.spans.specs.Stretches.{Where}
use Rattle.ongoing.specs.declared.points.Point.{Point}
use Rattle.ongoing.specs.declared.intervals.Interval.{Interval}
use Rattle.ongoing.specs.Points.{place_at, starts, stops}
use Rattle.ongoing.specs.Intervals.{Relates, Holds}
use Rattle.notation.specs.Forms.{PointRead}
use Rattle.language.specs.declared.points.Comparison.{Comparison}
use Rattle.language.specs.declared.points.Comparison.TheVariants.{Before, Equal, AtMost}
use Rattle.language.specs.declared.points.PointCommand.{PointCommand}
use Rattle.language.specs.declared.points.PointCommand.TheVariants as command
use Rattle.answers.specs.declared.replies.Reply.{Reply}
use Rattle.answers.specs.declared.replies.Reply.TheVariants as reply

abbrev pub compares : Comparison → ℕ → ℕ → Bool
compares Before a b = nat_lt a b
compares Equal a b = a == b
compares AtMost a b = nat_le a b

abbrev pub interval : {C : Type 0} → Point C → Point C → Interval C
interval s e = record { start = s; end = e }

-- over a calendar's places and texts
module _ {C : Type 0} (places : Places C) (texts : Texts C) where
  -- the word writes the point
  abbrev pub Writes : List ℕ → Point C → Type 0
  Writes w p = PointRead places texts w (Ok p)

  -- the first of the words that writes no point is refused so
  abbrev pub Fails : List (List ℕ) → Refusal → Type 0
  Fails [] e = ⊥
  Fails (w ∷ ws) e = PointRead places texts w (Err e) ⊎ (((p : Point C) × Writes w p) × Fails ws e)

  -- the word is the text of no stamp, which is refused so
  abbrev pub NoStamp : List ℕ → Refusal → Type 0
  NoStamp w e = (number_of e ≡ 11) × ((n : ℕ) → n ≤ places.LAST_PLACE → texts.text n ≢ w)

  -- what is told where all words can be read
  abbrev pub Tells : PointCommand → Reply C → Type 0
  Tells (command.Point u) a = (p : Point C) × Writes u.now p × (a ≡ reply.Point p)
  Tells (command.Bind u t) a = (p : Point C) × (s b : C) × Writes u.now p × (texts.text (places.place s) ≡ t.now) × (a ≡ reply.Stamp b) × (places.place b ≡ place_at places.LAST_PLACE p (places.place s))
  Tells (command.Lesser u v) a = (p q m : Point C) × Writes u.now p × Writes v.now q × (a ≡ reply.Point m) × (starts m ≡ min (starts p) (starts q)) × (stops m ≡ min (stops p) (stops q))
  Tells (command.Greater u v) a = (p q m : Point C) × Writes u.now p × Writes v.now q × (a ≡ reply.Point m) × (starts m ≡ max (starts p) (starts q)) × (stops m ≡ max (stops p) (stops q))
  Tells (command.Compare x u v) a = (p q : Point C) × (z : ReferenceSet) × Writes u.now p × Writes v.now q × (a ≡ reply.Set z) × Where places.LAST_PLACE z (λ n. compares x (place_at places.LAST_PLACE p n) (place_at places.LAST_PLACE q n))
  Tells (command.Relate x i) a = (s e p q : Point C) × (z : ReferenceSet) × Writes i.start.now s × Writes i.end.now e × Writes i.from.now p × Writes i.to.now q × (a ≡ reply.Set z) × Relates places.LAST_PLACE x (interval s e) (interval p q) z
  Tells (command.Holds u v w) a = (s e p : Point C) × (z : ReferenceSet) × Writes u.now s × Writes v.now e × Writes w.now p × (a ≡ reply.Set z) × Holds places.LAST_PLACE (interval s e) p z

  -- which refusal is told where one cannot
  abbrev pub Refuses : PointCommand → Refusal → Type 0
  Refuses (command.Point u) x = Fails (u.now ∷ []) x
  Refuses (command.Bind u t) x = Fails (u.now ∷ []) x ⊎ (((p : Point C) × Writes u.now p) × NoStamp t.now x)
  Refuses (command.Lesser u v) x = Fails (u.now ∷ v.now ∷ []) x
  Refuses (command.Greater u v) x = Fails (u.now ∷ v.now ∷ []) x
  Refuses (command.Compare c u v) x = Fails (u.now ∷ v.now ∷ []) x
  Refuses (command.Relate c i) x = Fails (i.start.now ∷ i.end.now ∷ i.from.now ∷ i.to.now ∷ []) x
  Refuses (command.Holds u v w) x = Fails (u.now ∷ v.now ∷ w.now ∷ []) x

  abbrev pub AnsweredPoints : PointCommand → Result (Reply C) Refusal → Type 0
  AnsweredPoints c r = MatchResult r (Tells c) (Refuses c)
