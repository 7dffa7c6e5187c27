use Rattle.std.proofs.Common.{rules, sym}
use Rattle.std.proofs.lemmas.Bool.{eqb-true, eqb-false}
use Rattle.notation.proofs.Spellings.{Style, style, none_before, none_after}
use Rattle.notation.proofs.forms.Form.around.Given as given
use Rattle.notation.proofs.forms.Form.around.Goals as goal

here : (g : given.Over) → Style g.C.Calendar g.C.Printable
here g =
    style g.C.Calendar g.C.Printable g.met.C.Calendar.bounded g.met.C.Printable.wide g.met.C.Printable.whole g.met.C.Printable.printed g.met.C.Printable.one_place

pub returns-in_err-read-in-true-default : goal.returns-in_err-read-in-true-default
returns-in_err-read-in-true-default g c =
    let none = none_after g.C.Calendar g.C.Printable (here g) c.args.before.now c.args.after.now c.requires (λ _. eqb-true _ 0 (sym c.in-true-default.ensures)) (λ s. c.in_err-read-in-true-default.ensures.1 _ (g.met.C.Calendar.bounded s)) in
    search rules

pub returns-in_err-read-in-false-true : goal.returns-in_err-read-in-false-true
returns-in_err-read-in-false-true g c =
    let none = none_before g.C.Calendar g.C.Printable (here g) c.args.before.now c.args.after.now c.requires (eqb-false _ 0 (sym c.in-false-true.ensures)) (λ s. c.in_err-read-in-false-true.ensures.1 _ (g.met.C.Calendar.bounded s)) in
    search rules

pub returns-in_err-read-in-false-false : goal.returns-in_err-read-in-false-false
returns-in_err-read-in-false-false g c =
    let none = none_before g.C.Calendar g.C.Printable (here g) c.args.before.now c.args.after.now c.requires (eqb-false _ 0 (sym c.in-false-false.ensures)) (λ s. c.in_err-read-in-false-false.ensures.1 _ (g.met.C.Calendar.bounded s)) in
    search rules

pub returns-in_err-read-in-false-false-2 : goal.returns-in_err-read-in-false-false-2
returns-in_err-read-in-false-false-2 g c =
    let none = none_after g.C.Calendar g.C.Printable (here g) c.args.before.now c.args.after.now c.requires (λ e. absurd (eqb-false _ 0 (sym c.in-false-false.ensures') e)) (λ s. c.in_err-read-in-false-false-2.ensures.1 _ (g.met.C.Calendar.bounded s)) in
    search rules
