use Rattle.notation.proofs.Spellings.{style}
use Rattle.notation.proofs.Oneness.{answered}
use Rattle.notation.proofs.forms.read_point.Goals as goal

pub returns : goal.returns
returns g c =
    let st = style g.C.Calendar g.C.Printable g.met.C.Calendar.bounded g.met.C.Printable.wide g.met.C.Printable.whole g.met.C.Printable.printed g.met.C.Printable.one_place in
    answered g.C.Calendar g.C.Printable st c.args.word.now c.in_ok-try_from.field-0 c.in_ok-try_from.ensures c.point.result c.point.ensures
