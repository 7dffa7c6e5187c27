use Rattle.std.proofs.Common.{rules, sym, ◌∙◌}
use Rattle.std.proofs.lemmas.Slice.Eq.{slice_eq-Decides}
use Rattle.std.proofs.lemmas.Option.{MatchOption-at_none}
use Rattle.std.proofs.lemmas.Bool.{false≢true}
use Rattle.std.proofs.lemmas.Bool.Decides.{Decides-eqb}
use Rattle.notation.proofs.Spellings.{Style, style, none_stray, none_plain}
use Rattle.notation.proofs.forms.FormTryFromRefSliceU8.try_from.Given as given
use Rattle.notation.proofs.forms.FormTryFromRefSliceU8.try_from.Goals as goal

here : (g : given.Over) → Style g.C.Calendar g.C.Printable
here g =
    style g.C.Calendar g.C.Printable g.met.C.Calendar.bounded g.met.C.Printable.wide g.met.C.Printable.whole g.met.C.Printable.printed g.met.C.Printable.one_place

pub returns-in_err-at : goal.returns-in_err-at
returns-in_err-at g c =
    let none = none_stray g.C.Calendar g.C.Printable (here g) c.args.word.now (λ e. false≢true (sym c.if-eq.false ∙ (slice_eq-Decides Decides-eqb _ _ _ c.eq.ensures).1 e)) c.in_err-at.ensures.1 in
    search rules

pub returns-in_err-read-in-None : goal.returns-in_err-read-in-None
returns-in_err-read-in-None g c =
    let none = none_plain g.C.Calendar g.C.Printable (here g) c.args.word.now (λ e. false≢true (sym c.if-eq.false ∙ (slice_eq-Decides Decides-eqb _ _ _ c.eq.ensures).1 e)) (MatchOption-at_none _ _ c.in-None.is c.in_ok-at.ensures) (λ s. c.in_err-read-in-None.ensures.1 _ (g.met.C.Calendar.bounded s)) in
    search rules
